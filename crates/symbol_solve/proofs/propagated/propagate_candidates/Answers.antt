-- What is left of the choices, and their first conflict, are those of the candidates.
use Rattle.std.proofs.Common.{◌∙◌, length, ap}
use Rattle.symbol_solve.proofs.LeftLaws.{choices_ready, choices_within, left_told, conflict_told}
use Rattle.symbol_solve.proofs.OrderLaws.{all_at_one}
use Rattle.symbol_solve.proofs.propagated.propagate_candidates.Goals as goal

pub propagate-requires : goal.propagate-requires
propagate-requires g c =
    choices_ready c.args.running.now c.args.object.now c.in_ok-choices.ensures.numbers c.deref.result.now
    c.as_slice-sections.ensures.distinct c.in_ok-choices.ensures.numbered
    (c.deref.ensures.value ∙ c.in_ok-choices.ensures.are) c.claims_agree.ensures.agree

pub first_conflict-requires-clause-order : goal.first_conflict-requires-clause-order
first_conflict-requires-clause-order g c =
    choices_ready c.args.running.now c.args.object.now c.in_ok-choices.ensures.numbers c.deref-2.result.now
    c.as_slice-sections.ensures.distinct c.in_ok-choices.ensures.numbered
    (c.deref-2.ensures.value ∙ c.in_ok-choices.ensures.are) c.claims_agree.ensures.agree

pub first_conflict-requires-clause-within : goal.first_conflict-requires-clause-within
first_conflict-requires-clause-within g c =
    choices_within c.args.running.now c.args.object.now c.in_ok-choices.ensures.numbers c.deref-2.result.now
    (length c.as_slice-sections.result.now) (c.deref-2.ensures.value ∙ c.in_ok-choices.ensures.are)
    (ap length c.as_slice-sections.ensures.sections)

pub returns-clause-left : goal.returns-clause-left
returns-clause-left g c =
    left_told c.args.running.now c.args.object.now c.in_ok-choices.ensures.numbers c.deref.result.now
    c.as_slice-sections.ensures.distinct c.in_ok-choices.ensures.numbered
    (c.deref.ensures.value ∙ c.in_ok-choices.ensures.are) c.in_ok-left.left.items c.in_ok-left.ensures

pub returns-clause-conflict : goal.returns-clause-conflict
returns-clause-conflict g c =
    conflict_told c.args.running.now c.args.object.now c.in_ok-choices.ensures.numbers c.deref-2.result.now
    c.as_slice-sections.ensures.distinct c.in_ok-choices.ensures.numbered (c.deref-2.ensures.value
    ∙ c.in_ok-choices.ensures.are) (length c.as_slice-sections.result.now) c.in_ok-conflict.conflict
    (ap length c.as_slice-sections.ensures.sections) c.in_ok-conflict.ensures.conflict

pub returns-clause-agree : goal.returns-clause-agree
returns-clause-agree g c =
    all_at_one c.claims_agree.ensures.agree c.args.running.now c.args.object.now c.as_slice-sections.ensures.distinct
