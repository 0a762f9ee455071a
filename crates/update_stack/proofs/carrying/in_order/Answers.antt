use Rattle.std.proofs.Common.{List, sym, subst}
use Rattle.std.specs.List.Sorted.{IsPermutation, IsNonDecreasingBy}
use Rattle.ks_base.specs.declared.places.Range.{Range}
use Rattle.update_stack.proofs.carrying.in_order.Goals as goal

pub returns-clause-same : goal.returns-clause-same
returns-clause-same c =
    subst (IsPermutation c.args.ranges.now) (sym c.from_vec.ensures)
    (subst (λ (rs : List Range). IsPermutation rs c.in_ok-sorted.field-0.items) c.as_slice.ensures
    c.in_ok-sorted.ensures.same)

pub returns-clause-order : goal.returns-clause-order
returns-clause-order c =
    subst (IsNonDecreasingBy (λ (range : Range). range.low)) (sym c.from_vec.ensures) c.in_ok-sorted.ensures.order
