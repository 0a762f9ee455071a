use Rattle.std.proofs.Common.{◌≡◌, ◌++◌, length}
use Rattle.link_post.specs.inside.BlockLists.{ranges_of}
use Rattle.link_post.proofs.gaps.blocks_of.Given as goal

abbrev pub invariant-loop-rest : goal.invariant-loop-rest
invariant-loop-rest l = ranges_of l.blocks.items ++ l.rest ≡ l.ranges

abbrev pub decreases-loop-rest : goal.decreases-loop-rest
decreases-loop-rest l = length l.rest
