use Rattle.std.proofs.Common.{sym, ap, ◌∙◌, subst, arith}
use Rattle.update_stack.specs.Stacked.{IsBuilt}
use Rattle.ksplice_session.specs.Watching.{Watched}
use Rattle.ksplice_session.specs.Running.{round_robin}
use Rattle.ksplice_session.proofs.TryLaws.{still_done, waits_for_none, waits_no_more, waits_on, waits_to_the_last}
use Rattle.ksplice_session.proofs.answers.wait.Goals as goal

pub loop-number-init : goal.loop-number-init
loop-number-init c = (
  c.requires.done,
  λ trial is. waits_for_none trial c.args.planned.now c.args.gap c.args.tries c.args.session.now is,
)

pub loop-number-preserved : goal.loop-number-preserved
loop-number-preserved c =
    let s = c.loop-number.session in
    let after = c.run_turns.new.self in
    let built : IsBuilt s.machine =
    subst IsBuilt (ap (λ (w : Watched). w.machine) c.session.view_is) c.program-program.ensures.built in
    let busy = sym c.is_in_the_way.ensures ∙ c.if-not-is_in_the_way.false in (
      still_done s after (round_robin s.machine 1 c.args.gap) c.loop-number.invariant.0 c.run_turns.ensures.after,
      λ trial is. waits_on trial c.args.planned.now c.args.gap c.args.tries c.args.session.now s c.loop-number.number
          (c.loop-number.invariant.1 trial is) c.steps_keep_plans.ensures built after busy (omega arith)
          c.run_turns.ensures.after,
    )

pub returns-then-not-is_in_the_way-clause-waited : goal.returns-then-not-is_in_the_way-clause-waited
returns-then-not-is_in_the_way-clause-waited c trial is =
    waits_no_more trial c.args.planned.now c.args.gap c.args.tries c.args.session.now c.loop-number.session
    c.loop-number.number (c.loop-number.invariant.1 trial is) (sym c.is_in_the_way.ensures ∙ c.if-not-is_in_the_way.true)

pub returns-clause-waited : goal.returns-clause-waited
returns-clause-waited c trial is =
    waits_to_the_last trial c.args.planned.now c.args.gap c.args.tries c.args.session.now c.loop-number.session
    c.loop-number.number (c.loop-number.invariant.1 trial is) (omega arith)
