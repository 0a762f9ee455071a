use Rattle.std.proofs.Common.{◌≡◌, take, map}
use Rattle.link_post.specs.inside.Blocks.{most_room, boundaries}
use Rattle.link_post.proofs.blocks.Block.new.Given as goal

abbrev pub invariant-loop-unit : goal.invariant-loop-unit
invariant-loop-unit l = l.limits.items ≡ map (most_room l.ranges.items) (take l.unit-index boundaries)
