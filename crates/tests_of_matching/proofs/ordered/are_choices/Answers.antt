use Rattle.std.proofs.Common.{sym, ◌∙◌}
use Rattle.tests_of_matching.proofs.OrderedLaws.{tested_choices}
use Rattle.tests_of_matching.proofs.ordered.are_choices.Goals as goal

pub returns-then-are_single : goal.returns-then-are_single
returns-then-are_single c =
    let single = sym c.are_single.ensures ∙ c.if-are_single.true in
    λ stand. tested_choices c.args.choices.now single (sym c.stand_in_order.ensures ∙ stand)
