-- Retired ranges still ascend when one is put among them that meets none.
use Rattle.std.proofs.Common.{List, ◌∙◌, refl, sym, ap, subst, arith}
use Rattle.image_memory.specs.Ranges.{Ascends, MeetsNone}
use Rattle.image_memory.specs.Contents.{Retired, fence_range}
use Rattle.image_memory.specs.declared.types.Fence.{Fence}
use Rattle.image_memory.specs.laws.PutLaws.{Ascends-put}
use Rattle.image_memory.specs.laws.RangeLaws.{lows_rise}
use Rattle.image_memory.proofs.retired.RetiredRanges.add.Goals as goal

pub begun-at-requires : goal.begun-at-requires
begun-at-requires c =
    rw c.as_slice.ensures.value (lows_rise fence_range 0 c.self.inside.fences.items c.self.invariant.0)

ascend : (c : goal.After-self-1) → Ascends fence_range 0 c.insert_spare.new.items.items
ascend c =
    let P : List Fence → Type 0 = λ fs. Ascends fence_range 0 fs in
    let Apart : List Fence → Type 0 = λ fs. MeetsNone fence_range c.args.range fs in
    let apart = subst Apart (sym (ap (λ (r : Retired). r.fences) c.self.view_is)) c.requires.apart in
    let fence : Fence = record { range = c.args.range; jump = c.args.jump } in
    let put = rw c.as_slice.ensures.value at (c.begun-at.ensures.put fence refl) in
    subst P (sym (c.insert_spare.ensures.items ∙ put))
    (Ascends-put fence_range 0 fence c.self.inside.fences.items (omega arith) c.requires.full apart c.self.invariant.0)

pub invariant_of-self : goal.invariant_of-self
invariant_of-self c = (ascend c, omega (arith, c.self.invariant.1))

pub returns-clause-ascend : goal.returns-clause-ascend
returns-clause-ascend c = ascend c
