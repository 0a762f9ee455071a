use Rattle.std.proofs.Common.{◌≡◌, drop}
use Rattle.std.specs.List.{find, flat_map}
use Rattle.image_link.specs.Refused.{outside_names_of}
use Rattle.image_link.specs.inside.Missing.{is_missing}
use Rattle.image_link.proofs.outside.first_missing.Given as goal

abbrev pub invariant-loop-object : goal.invariant-loop-object
invariant-loop-object l =
    find (is_missing l.values.entries) (flat_map (flat_map outside_names_of) l.objects)
    ≡ find (is_missing l.values.entries) (flat_map (flat_map outside_names_of) (drop l.object-index l.objects))
