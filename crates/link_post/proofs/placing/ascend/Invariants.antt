use Rattle.std.proofs.Common.{drop}
use Rattle.image_memory.specs.Ranges.{Ascends}
use Rattle.link_post.specs.inside.Rooms.{own}
use Rattle.link_post.proofs.placing.ascend.Given as goal

abbrev pub invariant-loop-range : goal.invariant-loop-range
invariant-loop-range l = record {
  ahead : Ascends own 0 l.gaps → Ascends own l.floor (drop l.range-index l.gaps);
  back : Ascends own l.floor (drop l.range-index l.gaps) → Ascends own 0 l.gaps;
}
