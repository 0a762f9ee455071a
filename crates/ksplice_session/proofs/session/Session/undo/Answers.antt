use Rattle.std.proofs.Common.{◌≡◌, Ok, sym, ◌∙◌, ap, subst}
use Rattle.splice_jump.specs.declared.phase.Phase.{Phase}
use Rattle.update_stack.specs.Events.{Undo, Undone, answered, happened}
use Rattle.update_stack.specs.Phases.{Phased}
use Rattle.ksplice_session.specs.Watching.{Watched, watched_after}
use Rattle.ksplice_session.specs.inside.InStep.{IsInStep}
use Rattle.ksplice_session.proofs.EventAnswers.{undo_gives}
use Rattle.ksplice_session.proofs.SeenLaws.{watched_in, placed_of}
use Rattle.ksplice_session.proofs.UpdateLaws.{kept_in_step, undo_watched}
use Rattle.ksplice_session.proofs.session.Session.undo.Goals.{After-note_update}
use Rattle.ksplice_session.proofs.session.Session.undo.Goals as goal

-- the session's machine answered, and no other
made : (c : After-note_update)
    → answered c.self.inside.live.machine Undo ≡ Ok (happened c.undo.new.self.machine (Undone c.in_ok-name.name))
made c =
    subst (λ (seen : Phased). answered seen.machine Undo
    ≡ Ok (happened c.undo.new.self.machine (Undone c.in_ok-name.name))) c.in-Some.ensures.system
    c.in_ok-name.ensures.answered

pub invariant_of-self-2 : goal.invariant_of-self-2
invariant_of-self-2 c =
    let live = c.self.inside.live in
    let k = live.machine in
    let now = c.undo.new.self.machine in
    let left = happened now (Undone c.in_ok-name.name) in
    let undone = undo_gives k left (made c) in
    subst (IsInStep now) (sym c.note_update.ensures)
    (kept_in_step k now c.self.inside.watch
    (c.updates_keep_slots.ensures.undone_threads k Undo undone.update left undone.taken (made c))
    (c.updates_keep_slots.ensures.undos k Undo undone.update left c.program.ensures.built
    c.program-machine.ensures.built undone.taken (made c))
    undone.left.scratch
    (placed_of live.phase c.program.result.now k c.program.ensures.stands c.threads-threads.ensures.placed)
    c.self.invariant)

pub returns-clause-noted : goal.returns-clause-noted
returns-clause-noted c =
    let live = c.self.inside.live in
    let now = c.undo.new.self.machine in
    let v = c.note_update.new.self in
    ap (λ (phase : Phase). watched_in now phase v)
    (c.undo.ensures.phase ∙ ap (λ (seen : Phased). seen.phase) c.in-Some.ensures.system)
    ∙ subst (λ (s : Watched). watched_in now live.phase v ≡ watched_after s Undo) c.self.view_is
    (undo_watched (watched_in live.machine live.phase c.self.inside.watch) Undo now v c.in_ok-name.name
    (made c) c.note_update.ensures)
