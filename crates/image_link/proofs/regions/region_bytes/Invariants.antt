use Rattle.std.proofs.Common.{◌≡◌, take}
use Rattle.std.specs.List.{flat_map}
use Rattle.image_link.specs.Linked.{filled_in}
use Rattle.image_link.specs.inside.Joining.{joined_tail}
use Rattle.image_link.proofs.regions.region_bytes.Given as goal

abbrev pub invariant-loop-object : goal.invariant-loop-object
invariant-loop-object l =
    l.region ≡ joined_tail l.kind (flat_map (filled_in l.kind l.values.entries) (take l.object-index l.laid))
