use Rattle.std.proofs.Common.{◌≡◌, take}
use Rattle.link_post.specs.inside.Blocks.{most_room}
use Rattle.link_post.proofs.blocks.most_room.Given as goal

abbrev pub invariant-loop-range : goal.invariant-loop-range
invariant-loop-range l = l.most ≡ most_room (take l.range-index l.ranges) l.unit
