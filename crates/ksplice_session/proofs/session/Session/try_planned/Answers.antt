use Rattle.std.proofs.Common.{◌≡◌, Result, Ok, sym, ◌∙◌, ap, subst}
use Rattle.std.proofs.lemmas.Result.{err_from_is_err_and}
use Rattle.ks_base.specs.declared.refusals.Refusal.{Refusal}
use Rattle.splice_jump.specs.declared.phase.Phase.{Phase}
use Rattle.update_stack.specs.AbstractMachine.{AbstractMachine}
use Rattle.update_stack.specs.PlanType.{Plan}
use Rattle.update_stack.specs.Events.{Applied, answered, happened}
use Rattle.update_stack.specs.Phases.{Phased}
use Rattle.update_stack.specs.Standing.{thread_refusal}
use Rattle.ksplice_session.specs.Watching.{Watched, watched_after}
use Rattle.ksplice_session.specs.Replies.{Trial, event_of}
use Rattle.ksplice_session.specs.inside.InStep.{IsInStep}
use Rattle.ksplice_session.specs.inside.Trying.{plan_for, trial_of}
use Rattle.ksplice_session.proofs.EventAnswers.{apply_gives}
use Rattle.ksplice_session.proofs.SeenLaws.{watched_in, placed_of}
use Rattle.ksplice_session.proofs.TryLaws.{plan_answered, thread_answered}
use Rattle.ksplice_session.proofs.UpdateLaws.{kept_in_step, apply_watched}
use Rattle.ksplice_session.proofs.session.Session.try_planned.Goals.{After-note_update}
use Rattle.ksplice_session.proofs.session.Session.try_planned.Goals as goal

pub returns-in_err-planned-clause-answered : goal.returns-in_err-planned-clause-answered
returns-in_err-planned-clause-answered c =
    let p = err_from_is_err_and c.from_residual.result c.from_residual.ensures.1 in
    rw (p.1, p.2)
    (λ other. plan_answered c.args.self.now.machine (trial_of c.args.trial.now) _
    (c.requires.planned ∙ c.in_err-planned.was))

pub returns-in_err-check_threads-clause-answered : goal.returns-in_err-check_threads-clause-answered
returns-in_err-check_threads-clause-answered c =
    let p = err_from_is_err_and c.from_residual-in_err-check_threads.result
    c.from_residual-in_err-check_threads.ensures.1 in
    let plan = c.in_ok-planned.planned in
    rw (p.1, p.2)
    (λ other. thread_answered c.args.self.now.machine (trial_of c.args.trial.now) plan _
    (c.requires.planned ∙ c.in_ok-planned.was)
    (ap (λ (s : Watched). thread_refusal s.machine.pieces plan.guarded s.machine.threads) (sym c.self.view_is)
    ∙ ap (λ (seen : Phased). thread_refusal seen.machine.pieces plan.guarded seen.machine.threads) (sym c.system.ensures)
    ∙ sym c.in_err-check_threads.ensures))

-- the system that is handed out has the plan
planned_there : (seen live : Phased) (s : Watched) (trial : Trial) (planned : Result Plan Refusal) (plan : Plan)
    → seen ≡ live → live.machine ≡ s.machine → plan_for s.machine trial ≡ planned → planned ≡ Ok plan
    → plan_for seen.machine trial ≡ Ok plan
planned_there seen live s trial planned plan same own is was =
    ap (λ (one : Phased). plan_for one.machine trial) same ∙ ap (λ (k : AbstractMachine). plan_for k trial) own ∙ is ∙ was

pub apply_planned-requires-clause-planned : goal.apply_planned-requires-clause-planned
apply_planned-requires-clause-planned c = record {
  pre_file = c.args.trial.now.pre.now;
  post_file = c.args.trial.now.post.now;
  is =
      planned_there c.in-Some.system.now c.self.inside.live c.args.self.now (trial_of c.args.trial.now) c.args.planned
      c.in_ok-planned.planned c.in-Some.ensures.system (ap (λ (s : Watched). s.machine) c.self.view_is)
      c.requires.planned c.in_ok-planned.was;
}

pub apply_planned-requires-clause-clear : goal.apply_planned-requires-clause-clear
apply_planned-requires-clause-clear c =
    let plan = c.in_ok-planned.planned in
    ap (λ (seen : Phased). thread_refusal seen.machine.pieces plan.guarded seen.machine.threads)
    (c.in-Some.ensures.system ∙ sym c.system.ensures)
    ∙ sym c.in_ok-check_threads.ensures

-- the session's machine answered, and no other
made : (c : After-note_update)
    → answered c.self.inside.live.machine (event_of (trial_of c.args.trial.now))
    ≡ Ok (happened c.apply_planned.new.self.machine (Applied c.in_ok-report.report))
made c =
    subst (λ (seen : Phased). answered seen.machine (event_of (trial_of c.args.trial.now))
    ≡ Ok (happened c.apply_planned.new.self.machine (Applied c.in_ok-report.report))) c.in-Some.ensures.system
    (c.in_ok-report.ensures.answered c.args.trial.now.pre.now c.args.trial.now.post.now
    (planned_there c.in-Some.system.now c.self.inside.live c.args.self.now (trial_of c.args.trial.now) c.args.planned
    c.in_ok-planned.planned c.in-Some.ensures.system (ap (λ (s : Watched). s.machine) c.self.view_is)
    c.requires.planned c.in_ok-planned.was))

pub returns-clause-answered : goal.returns-clause-answered
returns-clause-answered c =
    subst (λ (s : Watched). answered s.machine (event_of (trial_of c.args.trial.now))
    ≡ Ok (happened c.apply_planned.new.self.machine (Applied c.in_ok-report.report))) c.self.view_is (made c)

pub invariant_of-self-2 : goal.invariant_of-self-2
invariant_of-self-2 c =
    let trial = trial_of c.args.trial.now in
    let live = c.self.inside.live in
    let k = live.machine in
    let now = c.apply_planned.new.self.machine in
    let left = happened now (Applied c.in_ok-report.report) in
    subst (IsInStep now) (sym c.note_update.ensures)
    (kept_in_step k now c.self.inside.watch
    (c.updates_keep_slots.ensures.updated_threads k trial.name trial.pre trial.post left (made c))
    (c.updates_keep_slots.ensures.updates k trial.name trial.pre trial.post left c.program.ensures.built
    c.program-machine.ensures.built (made c))
    (apply_gives k trial.name trial.pre trial.post left (made c)).scratch
    (placed_of live.phase c.program.result.now k c.program.ensures.stands c.threads-threads.ensures.placed)
    c.self.invariant)

pub returns-clause-noted : goal.returns-clause-noted
returns-clause-noted c =
    let trial = trial_of c.args.trial.now in
    let live = c.self.inside.live in
    let now = c.apply_planned.new.self.machine in
    let v = c.note_update.new.self in
    ap (λ (phase : Phase). watched_in now phase v)
    (c.apply_planned.ensures.phase ∙ ap (λ (seen : Phased). seen.phase) c.in-Some.ensures.system)
    ∙ subst (λ (s : Watched). watched_in now live.phase v ≡ watched_after s (event_of trial)) c.self.view_is
    (apply_watched (watched_in live.machine live.phase c.self.inside.watch) now v trial.name trial.pre trial.post
    c.in_ok-report.report (made c) c.note_update.ensures)
