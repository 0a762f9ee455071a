use Rattle.std.proofs.Common.{◌≡◌, [], ◌∙◌, refl, sym, ap}
use Rattle.ks_base.specs.declared.refusals.Refusal.TheVariants.{NoThread}
use Rattle.script_lines.specs.declared.types.Command.TheVariants.{Step}
use Rattle.update_stack.specs.Events.{after_events}
use Rattle.ksplice_session.specs.Watching.{Watched}
use Rattle.ksplice_session.specs.Running.{thread_steps}
use Rattle.ksplice_session.specs.Replies.{told_of}
use Rattle.ksplice_session.proofs.AnswerLaws.{told_answers, told_stepped, told_step_refused}
use Rattle.ksplice_session.proofs.LiveAnswers.{write_refused}
use Rattle.ksplice_session.proofs.WatchedLaws.{machine_after_all}
use Rattle.ksplice_session.proofs.RunLaws.{steps_leave}
use Rattle.ksplice_session.proofs.answers.answer_step.Goals as goal

pub returns-then-not-runs : goal.returns-then-not-runs
returns-then-not-runs c =
    let k = c.args.session.now in
    write_refused k k
    (told_of k (Step c.args.thread c.args.count) []) (NoThread c.args.thread) c.refused.result refl
    (told_step_refused k c.args.thread c.args.count (sym c.runs.ensures ∙ c.if-not-runs.true)) c.refused.ensures

pub stepped_reply-requires : goal.stepped_reply-requires
stepped_reply-requires c =
    let k = c.args.session.now in
    let machine = ap (λ (n : Watched). n.machine) c.run_thread-made.ensures.after
    ∙ machine_after_all k (thread_steps k.machine c.args.thread c.args.count) in
    steps_leave k.machine c.run_thread-made.new.self.machine c.args.thread c.args.count
    (sym c.runs.ensures ∙ c.if-not-runs.false) machine

pub returns : goal.returns
returns c =
    let k = c.args.session.now in
    let now = c.run_thread-made.new.self in
    let events = thread_steps k.machine c.args.thread c.args.count in
    let machine : now.machine ≡ after_events k.machine events =
    ap (λ (n : Watched). n.machine) c.run_thread-made.ensures.after ∙ machine_after_all k events in
    told_answers k now c.stepped_reply.result c.told.result
    (told_stepped k c.args.thread c.args.count (sym c.runs.ensures ∙ c.if-not-runs.false)) refl
    (rw (← machine, ← c.run_thread-made.ensures.made) c.stepped_reply.ensures)
    c.run_thread-made.ensures.after c.told.ensures
