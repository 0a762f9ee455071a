-- The last extent that begins at or below an address has it, or none does.
use Rattle.std.proofs.Common.{◌≡◌, ◌-◌, ◌≤◌, ◌<◌, ◌∙◌, ℕ, sym, ap, arith, ◌⊎◌, inl, inr, length, get_or}
use Rattle.image_memory.specs.Ranges.{lies_in}
use Rattle.image_memory.specs.laws.RangeLaws.{below, above, one_after}
use Rattle.paged_memory.specs.Pages.{extent_range}
use Rattle.paged_memory.specs.declared.types.Extent.{Extent}
use Rattle.paged_memory.proofs.ListLaws.{same_at}
use Rattle.paged_memory.proofs.extents.halved.Goals as goal

place : (k n : ℕ) → (k < n) ⊎ ((k ≡ n) ⊎ (n < k))
place k n = grind arith

pub returns-else-holds : goal.returns-else-holds
returns-else-holds c = λ k d l.
    let es = c.args.extents.now in
    let a = c.args.address in
    let last : ℕ = c.begun-begun.result - 1 in
    let some = c.if-begun-eq0.false in
    let bound = c.begun-begun.ensures.bound in
    let at = c.from.ensures in
    let begins = c.begun-begun.ensures.below last d (omega arith) (more c.begun-begun.result some) in
    elim (place k last) [
      | inl before ↦
          let next = one_after extent_range 0 es k last d c.requires before (less c.begun-begun.result (length es) some bound) in
          above a (extent_range (get_or es k d)) (omega arith)
      | inr (inl here) ↦
          ap (λ n. lies_in a (extent_range (get_or es n d))) here
          ∙ (ap (λ (e : Extent). lies_in a (extent_range e)) (same_at es last d _ (less c.begun-begun.result (length es) some bound))
          ∙ sym c.if-holds.ensures)
      | inr (inr behind) ↦
          let begins_later = c.begun-begun.ensures.above k d (omega arith) l in
          below a (extent_range (get_or es k d)) (omega arith)
    ]
  where
    more : (n : ℕ) → (n ≡ 0 → ⊥) → n - 1 < n
    more n some = grind arith

    less : (n m : ℕ) → (n ≡ 0 → ⊥) → n ≤ m → n - 1 < m
    less n m some bound = grind arith
