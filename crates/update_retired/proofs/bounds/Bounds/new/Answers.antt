use Rattle.std.proofs.Common.{ℕ, List, subst}
use Rattle.std.proofs.lemmas.List.Sorted.{IsNonDecreasingBy-from_sort}
use Rattle.update_retired.specs.inside.Counts.{AreCounted}
use Rattle.update_retired.proofs.CountLaws.{counted}
use Rattle.update_retired.proofs.bounds.Bounds.new.Goals as goal

pub invariant_of-result : goal.invariant_of-result
invariant_of-result c = (
  IsNonDecreasingBy-from_sort (λ (n : ℕ). n) c.in_ok-ascending.field-0.items c.in_ok-ascending.ensures.rise,
  IsNonDecreasingBy-from_sort (λ (n : ℕ). n) c.in_ok-ascending-2.field-0.items c.in_ok-ascending-2.ensures.rise,
  subst (λ (xs : List ℕ). AreCounted xs c.in_ok-ascending.field-0.items) c.in_ok-lows_of.ensures
      (counted _ _ c.in_ok-ascending.ensures.same),
  subst (λ (xs : List ℕ). AreCounted xs c.in_ok-ascending-2.field-0.items) c.in_ok-highs_of.ensures
      (counted _ _ c.in_ok-ascending-2.ensures.same),
)
