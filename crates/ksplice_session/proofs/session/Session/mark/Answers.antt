use Rattle.std.proofs.Common.{◌≡◌, Some, sym, ap, subst}
use Rattle.update_stack.specs.Events.{Apply, Applied, happened}
use Rattle.ksplice_session.specs.Answers.{turned}
use Rattle.ksplice_session.specs.Watching.{Watched, watched_after}
use Rattle.ksplice_session.specs.inside.InStep.{IsInStep}
use Rattle.ksplice_session.proofs.EventAnswers.{apply_gives}
use Rattle.ksplice_session.proofs.SeenLaws.{watched_in, placed_of}
use Rattle.ksplice_session.proofs.UpdateLaws.{kept_in_step, apply_watched}
use Rattle.ksplice_session.proofs.session.Session.mark.Goals as goal

pub invariant_of-self-2 : goal.invariant_of-self-2
invariant_of-self-2 c =
    let live = c.self.inside.live in
    let k = live.machine in
    let now = c.mark.new.self.machine in
    let left = happened now (Applied c.in_ok-report.report) in
    let made = c.in_ok-report.ensures.marked.made in
    subst (IsInStep now) (sym c.note_update.ensures)
    (kept_in_step k now c.self.inside.watch
    (c.updates_keep_slots.ensures.updated_threads k c.args.name.now c.args.pre.now c.args.post.now left made)
    (c.updates_keep_slots.ensures.updates k c.args.name.now c.args.pre.now c.args.post.now left c.program.ensures.built
    c.program-machine.ensures.built made)
    (apply_gives k c.args.name.now c.args.pre.now c.args.post.now left made).scratch
    (placed_of live.phase c.program.result.now k c.program.ensures.stands c.threads-threads.ensures.placed)
    c.self.invariant)

pub returns-clause-noted : goal.returns-clause-noted
returns-clause-noted c =
    let live = c.self.inside.live in
    let now = c.mark.new.self in
    let v = c.note_update.new.self in
    let event = Apply c.args.name.now c.args.pre.now c.args.post.now in
    ap (turned (Some now.phase))
    (subst (λ (s : Watched). watched_in now.machine live.phase v ≡ watched_after s event) c.self.view_is
    (apply_watched (watched_in live.machine live.phase c.self.inside.watch) now.machine v c.args.name.now
    c.args.pre.now c.args.post.now c.in_ok-report.report c.in_ok-report.ensures.marked.made c.note_update.ensures))
