use Rattle.std.proofs.Common.{rules}
use Rattle.std.proofs.lemmas.List.Sorted.{answers_always, IsNonDecreasingBy-from_sort}
use Rattle.i386_reloc.proofs.Sorting.{sorted_is}
use Rattle.i386_reloc.proofs.fields.fields.Goals as goal

pub returns-clause-rises : goal.returns-clause-rises
returns-clause-rises c =
    IsNonDecreasingBy-from_sort (λ r. r.offset) _
    (c.in_ok-sort_by_key.ensures.sorted (λ r. r.offset) (answers_always _ _ _ (λ f a r g called. search rules)))

pub returns-clause-sorted : goal.returns-clause-sorted
returns-clause-sorted c =
    sorted_is _ _ _ c.in_ok-fields.ensures
    (c.in_ok-sort_by_key.ensures.sorted (λ r. r.offset) (answers_always _ _ _ (λ f a r g called. search rules)))
    (c.in_ok-sort_by_key.ensures.stable (λ r. r.offset) (answers_always _ _ _ (λ f a r g called. search rules)))
