use Rattle.std.proofs.Common.{◌≤◌, drop, map}
use Rattle.link_post.specs.Linked.{Rise, AreInOrder, place_in, section_of}
use Rattle.link_post.proofs.lookups.in_order.Given as goal

abbrev pub invariant-loop-placed : goal.invariant-loop-placed
invariant-loop-placed l = record {
  bound : l.floor ≤ 4097;
  ahead : AreInOrder l.post l.placement → Rise l.floor
      (map (place_in l.post) (map section_of (drop l.placed-index l.placement)));
  back : Rise l.floor (map (place_in l.post) (map section_of (drop l.placed-index l.placement)))
      → AreInOrder l.post l.placement;
}
