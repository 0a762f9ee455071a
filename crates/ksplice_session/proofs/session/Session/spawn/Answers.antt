use Rattle.std.proofs.Common.{◌≡◌, List, [], ◌∷◌, Some, None, Ok, Err, OnErr, Result, refl, sym, ◌∙◌, ap, subst}
use Rattle.std.specs.List.{slice_get}
use Rattle.std.specs.Option.{option_copied}
use Rattle.image_memory.specs.Contents.{Contents}
use Rattle.paged_memory.specs.contracts.paged.PagedSpaceSpace.TheImpl as paged
use Rattle.ia32_step.specs.declared.types.Thread.{Thread}
use Rattle.frame_watch.specs.Frames.{Watching}
use Rattle.splice_jump.specs.declared.phase.Phase.{Phase}
use Rattle.update_stack.specs.Phases.{Phased}
use Rattle.update_stack.specs.Events.{Spawn}
use Rattle.ksplice_session.specs.Answers.{MadeFront}
use Rattle.ksplice_session.specs.Watching.{Watched, watched_after}
use Rattle.ksplice_session.specs.inside.InStep.{IsInStep}
use Rattle.ksplice_session.proofs.AnswerLaws.{none_made}
use Rattle.ksplice_session.proofs.SeenLaws.{JumpLaws, watched_in, memory_of, threads_of, placed_of}
use Rattle.ksplice_session.proofs.StartLaws.{IsBegun, spawn_begun, started_there, spawn_watched, spawn_unnoted}
use Rattle.ksplice_session.proofs.session.Session.spawn.Goals.{After-space, In_default}
use Rattle.ksplice_session.proofs.session.Session.spawn.Goals as goal

on_err : {T E : Type 0} (r : Result T E) (P : Type 0) → P → OnErr r P
on_err (Ok x) P p = tt
on_err (Err e) P p = p

pub returns-in_err-number-clause-front : goal.returns-in_err-number-clause-front
returns-in_err-number-clause-front c =
    on_err c.from_residual.result _
    (none_made c.args.self.now
    (watched_in c.spawn.new.self.machine c.spawn.new.self.phase c.self.inside.watch)
    (Spawn c.args.name.now c.args.argument ∷ []) None (λ none. refl)
    (ap (λ (seen : Phased). watched_in seen.machine seen.phase c.self.inside.watch) c.in_err-number.ensures.refused
    ∙ c.self.view_is))

-- the thread that was started
got_after : (c : After-space) → slice_get c.spawn.new.self.machine.threads c.in_ok-number.number
    ≡ Some c.in-Some.thread.now
got_after c =
    let stands = threads_of c.spawn.new.self.phase c.program-machine.result.now c.spawn.new.self.machine
    c.program-machine.ensures.stands in
    ap (λ (ts : List Thread). slice_get ts c.in_ok-number.number) (sym (c.threads.ensures.threads ∙ stands))
    ∙ sym c.get.ensures ∙ ap option_copied c.in-Some.is

-- the memory that the watch sees
abbrev memory : After-space → Contents
memory c = (paged.ghosts).contents c.space.result.now

begun : (c : After-space)
    → IsBegun (memory c) c.self.inside.live.machine c.spawn.new.self.machine c.self.inside.watch c.in-Some.thread.now
begun c =
    let jumps : JumpLaws = record {
      views = c.jumps_leave_views.ensures;
      held = c.jumps_change_their_bytes_alone.ensures.held;
      bytes = c.jumps_change_their_bytes_alone.ensures.data_bytes;
      looks = c.homes_are_not_looked_at.ensures;
      homes = c.homes_stay_spliced.ensures.jumped;
      valid = c.homes_stay_spliced.ensures.valid;
    } in
    let k = c.self.inside.live.machine in
    let now = c.spawn.new.self.machine in
    let machine = c.program-machine.result.now in
    let there : memory c ≡ machine.contents = c.space.ensures.contents in
    spawn_begun
    jumps c.spawn.new.self.phase k now c.self.inside.watch c.args.name.now c.args.argument c.in_ok-number.number
    c.in-Some.thread.now
    (memory c) c.program-machine.ensures.built c.program-machine.ensures.opened c.self.invariant
    (placed_of c.self.inside.live.phase c.program.result.now k c.program.ensures.stands
    c.threads-threads.ensures.placed)
    c.in_ok-number.ensures.answered (got_after c)
    (there ∙ memory_of c.spawn.new.self.phase machine now c.program-machine.ensures.stands)

-- it is there
nothing_lost : In_default → ⊥
nothing_lost c =
    let now = c.spawn.new.self.machine in
    let number = c.in_ok-number.number in
    let stands = threads_of c.spawn.new.self.phase c.program-machine.result.now now c.program-machine.ensures.stands in
    let none : slice_get now.threads number ≡ None =
    ap (λ (ts : List Thread). slice_get ts number) (sym (c.threads.ensures.threads ∙ stands))
    ∙ sym c.get.ensures ∙ ap option_copied c.in_default.is in
    started_there c.self.inside.live.machine now c.args.name.now c.args.argument number c.in_ok-number.ensures.answered
    none

pub note_spawn_alone-requires-clause-start : goal.note_spawn_alone-requires-clause-start
note_spawn_alone-requires-clause-start c = (begun c).start

pub note_spawn_alone-requires-clause-held : goal.note_spawn_alone-requires-clause-held
note_spawn_alone-requires-clause-held c = λ unbroken. (begun c).held

pub invariant_of-self-in_err-note_spawn_alone : goal.invariant_of-self-in_err-note_spawn_alone
invariant_of-self-in_err-note_spawn_alone c =
    subst (IsInStep c.spawn.new.self.machine) (sym c.in_err-note_spawn_alone.ensures.refused)
    (begun (goal.at.invariant_of-self-in_err-note_spawn_alone c).After-space).unnoted

pub returns-in_err-note_spawn_alone-clause-front : goal.returns-in_err-note_spawn_alone-clause-front
returns-in_err-note_spawn_alone-clause-front c =
    let live = c.self.inside.live in
    let now = c.spawn.new.self.machine in
    let event = Spawn c.args.name.now c.args.argument in
    let front = spawn_unnoted (watched_in live.machine live.phase c.self.inside.watch)
    now c.args.name.now c.args.argument c.in_ok-number.number c.in_ok-number.ensures.answered in
    on_err c.from_residual-in_err-note_spawn_alone.result _
    (subst (λ (phase : Phase). MadeFront c.args.self.now (event ∷ []) None
    (watched_in now phase c.note_spawn_alone.new.self)) (sym c.spawn.ensures.phase)
    (subst (λ (s : Watched). MadeFront s (event ∷ []) None (watched_in now live.phase c.note_spawn_alone.new.self))
    c.self.view_is
    (subst (λ (v : Watching). MadeFront (watched_in live.machine live.phase c.self.inside.watch)
    (event ∷ []) None (watched_in now live.phase v))
    (sym c.in_err-note_spawn_alone.ensures.refused) front)))

pub unreachable-requires : goal.unreachable-requires
unreachable-requires c = nothing_lost (goal.at.unreachable-requires c).In_default

pub invariant_of-self-2 : goal.invariant_of-self-2
invariant_of-self-2 c =
    let b = begun (goal.at.invariant_of-self-2 c).After-space in
    subst (IsInStep c.spawn.new.self.machine) (sym (c.in_ok-note_spawn_alone.ensures.noted ∙ b.same)) b.kept

pub returns-clause-noted : goal.returns-clause-noted
returns-clause-noted c =
    let here = (goal.at.returns-clause-noted c).After-space in
    let live = c.self.inside.live in
    let now = c.spawn.new.self.machine in
    let v = c.note_spawn_alone.new.self in
    ap (λ (phase : Phase). watched_in now phase v) c.spawn.ensures.phase
    ∙ subst (λ (s : Watched). watched_in now live.phase v ≡ watched_after s (Spawn c.args.name.now c.args.argument))
    c.self.view_is
    (spawn_watched (watched_in live.machine live.phase c.self.inside.watch)
    now v c.args.name.now c.args.argument c.in_ok-number.number
    c.in-Some.thread.now c.in_ok-number.ensures.answered
    (got_after here) (c.in_ok-note_spawn_alone.ensures.noted ∙ (begun here).same))
