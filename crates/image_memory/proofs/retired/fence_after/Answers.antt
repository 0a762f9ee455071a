-- The ranges before the place begin at or below the address, the others above it.
use Rattle.std.proofs.Common.{◌≡◌, ◌∙◌, arith, sym, nat_lt}
use Rattle.std.specs.List.{find, slice_get}
use Rattle.image_memory.specs.declared.types.Fence.{Fence}
use Rattle.image_memory.specs.laws.PutLaws.{not_above, is_above}
use Rattle.image_memory.proofs.FenceLaws.{found_parted}
use Rattle.image_memory.proofs.retired.fence_after.Goals as goal

pub returns-clause-next : goal.returns-clause-next
returns-clause-next c =
    let fences = c.args.fences.now in
    let next : find (λ (fence : Fence). nat_lt c.args.address fence.range.low) fences ≡ slice_get fences c.args.begun
    = found_parted (λ (fence : Fence). nat_lt c.args.address fence.range.low) fences c.args.begun
    (λ k d l m. not_above _ _ (c.requires.below k d (omega arith) l))
    (λ k d l m. is_above _ _ (c.requires.above k d l m)) in
    c.nth_fence.ensures ∙ sym next
