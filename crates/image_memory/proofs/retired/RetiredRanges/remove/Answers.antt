-- Retired ranges still ascend without one of them.
use Rattle.std.proofs.Common.{List, sym, subst, arith}
use Rattle.image_memory.specs.Ranges.{Ascends}
use Rattle.image_memory.specs.Contents.{fence_range}
use Rattle.image_memory.specs.declared.types.Fence.{Fence}
use Rattle.image_memory.specs.laws.ChangeLaws.{Ascends-remove}
use Rattle.image_memory.proofs.retired.RetiredRanges.remove.Goals as goal

ascend : (c : goal.After-remove) → Ascends fence_range 0 c.remove.new.self.items
ascend c =
    let P : List Fence → Type 0 = λ fs. Ascends fence_range 0 fs in
    subst P (sym c.remove.ensures.items)
    (Ascends-remove fence_range 0 c.self.inside.fences.items _ c.self.invariant.0)

pub invariant_of-self : goal.invariant_of-self
invariant_of-self c = (ascend c, omega (arith, c.self.invariant.1))

pub returns-clause-ascend : goal.returns-clause-ascend
returns-clause-ascend c = ascend c
