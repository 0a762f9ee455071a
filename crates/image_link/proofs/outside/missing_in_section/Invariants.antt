use Rattle.std.proofs.Common.{◌≡◌, drop}
use Rattle.std.specs.List.{find, flat_map}
use Rattle.image_link.specs.Refused.{outside_of}
use Rattle.image_link.specs.inside.Missing.{is_missing}
use Rattle.image_link.proofs.outside.missing_in_section.Given as goal

abbrev pub invariant-loop-r : goal.invariant-loop-r
invariant-loop-r l =
    find (is_missing l.values.entries) (flat_map outside_of l.refs)
    ≡ find (is_missing l.values.entries) (flat_map outside_of (drop l.r-index l.refs))
