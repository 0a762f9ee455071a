use Rattle.std.proofs.Common.{rules}
use Rattle.std.proofs.lemmas.List.Sorted.{answers_always, IsNonDecreasingBy-from_sort}
use Rattle.image_memory.proofs.ranges.in_order.Goals as goal

pub returns-clause-order : goal.returns-clause-order
returns-clause-order c =
    let sorted =
    c.sort_unstable_by_key.ensures.sorted (λ r. r.low) (answers_always _ _ _ (λ f a r g called. search rules)) in
    IsNonDecreasingBy-from_sort (λ r. r.low) _ sorted
