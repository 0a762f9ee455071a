use Rattle.std.proofs.Common.{◌∙◌}
use Rattle.update_plan.proofs.Orders.{placed_in_order}
use Rattle.update_plan.proofs.planning.places_of.Goals as goal

pub returns-clause-order : goal.returns-clause-order
returns-clause-order c =
    placed_in_order c.places_keep_the_order.ensures c.args.post.now c.args.parts.now c.args.gaps.now
    c.as_slice.result.now c.place.result (c.as_slice.ensures.value ∙ c.in_ok-sizes.ensures) c.requires.gaps
    c.requires.order c.place.ensures
