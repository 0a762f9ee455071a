use Rattle.std.proofs.Common.{◌≡◌, ◌-◌, subst}
use Rattle.ks_base.specs.Gives.{Gives}
use Rattle.update_stack.specs.PlanType.{Plan}
use Rattle.update_stack.specs.Phases.{Phased}
use Rattle.ksplice_session.specs.inside.Trying.{plan_for, trial_of}
use Rattle.ksplice_session.proofs.TryLaws.{all_answer, none_tried, plan_is}
use Rattle.ksplice_session.proofs.answers.answer_trial.Goals.{After-wait-number}
use Rattle.ksplice_session.proofs.answers.answer_trial.Goals as goal

pub returns-then-lacks_memory : goal.returns-then-lacks_memory
returns-then-lacks_memory c = none_tried c.args.session.now (trial_of c.args.trial.now) c.args.gap (c.args.tries - 1)

planned : (c : After-wait-number)
    → plan_for c.args.session.now.machine (trial_of c.args.trial.now) ≡ c.plan_update-planned.result
planned c =
    let trial = trial_of c.args.trial.now in
    plan_is c.args.session.now.machine trial c.plan_update-planned.result c.lacks_memory.result
    (subst (λ (seen : Phased). Gives (λ (plan : Plan). plan) c.plan_update-planned.result (plan_for seen.machine trial))
    c.system.ensures c.plan_update-planned.ensures)
    c.if-lacks_memory.false c.lacks_memory.ensures

pub try_planned-outcome-requires-clause-planned : goal.try_planned-outcome-requires-clause-planned
try_planned-outcome-requires-clause-planned c =
    let here = (goal.at.try_planned-outcome-requires-clause-planned c).After-wait-number in
    (c.wait-number.ensures.waited (trial_of c.args.trial.now) (planned here)).plan

pub returns : goal.returns
returns c =
    let here = (goal.at.returns c).After-wait-number in
    let trial = trial_of c.args.trial.now in
    let outcome = c.try_planned-outcome in
    all_answer trial c.plan_update-planned.result c.args.gap c.args.tries c.args.session.now c.wait-number.new.session
    outcome.new.self c.wait-number.result outcome.result c.answer_outcome.result
    (c.wait-number.ensures.waited trial (planned here))
    (record { answered = outcome.ensures.answered; noted = outcome.ensures.noted; refused = outcome.ensures.refused })
    c.answer_outcome.ensures
