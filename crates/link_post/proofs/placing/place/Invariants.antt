use Rattle.std.proofs.Common.{◌≡◌, drop}
use Rattle.image_memory.specs.Ranges.{Ascends}
use Rattle.link_post.specs.Places.{placed}
use Rattle.link_post.specs.inside.Rooms.{own, preceded}
use Rattle.link_post.specs.inside.BlockLists.{ranges_of}
use Rattle.link_post.proofs.placing.place.Given as goal

abbrev pub invariant-loop-section : goal.invariant-loop-section
invariant-loop-section l = record {
  ascend : Ascends own 0 (ranges_of l.free.items);
  so_far : placed l.sizes l.fn.gaps ≡ preceded l.placement
      (placed (drop l.section-index l.sizes) (ranges_of l.free.items));
}
