use Rattle.std.proofs.Common.{◌≡◌, map, take}
use Rattle.image_memory.specs.Contents.{fence_range}
use Rattle.update_stack.proofs.carrying.retired_of.Given as goal

abbrev pub invariant-loop-fence : goal.invariant-loop-fence
invariant-loop-fence l = l.ranges ≡ map fence_range (take l.fence-index l.fences)
