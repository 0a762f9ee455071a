use Rattle.std.proofs.Common.{◌≡◌, map, take}
use Rattle.image_memory.proofs.EmptyLaws.{emptied}
use Rattle.image_memory.proofs.retired.make_empty.Given as goal

-- the ranges so far are empty
abbrev pub invariant-loop-range : goal.invariant-loop-range
invariant-loop-range l = l.fences ≡ map (emptied (take l.range-index l.ranges)) l.fn.fences
