use Rattle.std.proofs.Common.{◌≡◌, length, take}
use Rattle.std.specs.List.{flat_map, fold, zip}
use Rattle.image_link.specs.Regions.{gap_of}
use Rattle.image_link.specs.inside.Joining.{with_filled}
use Rattle.image_link.proofs.Joins.{chosen_part}
use Rattle.image_link.proofs.regions.add_object.Given as goal

abbrev pub invariant-loop-section : goal.invariant-loop-section
invariant-loop-section l =
    l.region
    ≡ fold (with_filled (gap_of l.kind)) l.fn.region
    (flat_map (chosen_part l.kind l.laid l.values.entries) (take (length l.yielded) (zip l.laid.object l.laid.places)))
