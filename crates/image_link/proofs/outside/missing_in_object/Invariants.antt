use Rattle.std.proofs.Common.{◌≡◌, drop}
use Rattle.std.specs.List.{find, flat_map}
use Rattle.image_link.specs.Refused.{outside_names_of}
use Rattle.image_link.specs.inside.Missing.{is_missing}
use Rattle.image_link.proofs.outside.missing_in_object.Given as goal

abbrev pub invariant-loop-section : goal.invariant-loop-section
invariant-loop-section l =
    find (is_missing l.values.entries) (flat_map outside_names_of l.sections)
    ≡ find (is_missing l.values.entries) (flat_map outside_names_of (drop l.section-index l.sections))
