use Rattle.std.proofs.Common.{◌≡◌, List, Some, None, Err, sym, ◌∙◌, ap, subst}
use Rattle.std.specs.List.{slice_get}
use Rattle.std.specs.Option.{option_copied}
use Rattle.image_memory.specs.Contents.{Contents}
use Rattle.paged_memory.specs.contracts.paged.PagedSpaceSpace.TheImpl as paged
use Rattle.ia32_step.specs.declared.types.Thread.{Thread}
use Rattle.splice_jump.specs.declared.phase.Phase.{Phase}
use Rattle.update_stack.specs.Phases.{Phased}
use Rattle.update_stack.specs.Events.{Step, answered}
use Rattle.frame_watch.specs.Conditions.{HaveWindows}
use Rattle.ksplice_session.specs.Watching.{Watched, watched_after}
use Rattle.ksplice_session.specs.inside.InStep.{IsInStep}
use Rattle.ksplice_session.proofs.SeenLaws.{JumpLaws, watched_in, memory_of, threads_of, numbered_of}
use Rattle.ksplice_session.proofs.MoveLaws.{StepLaws, IsMade, step_made, fetched_windows}
use Rattle.ksplice_session.proofs.MoveLaws.{after_there, step_watched, step_refused, step_missing}
use Rattle.ksplice_session.proofs.session.Session.step.Goals.{After-space, In_default-get}
use Rattle.ksplice_session.proofs.session.Session.step.Goals as goal

jumps : After-space → JumpLaws
jumps c = record {
  views = c.jumps_leave_views.ensures;
  held = c.jumps_change_their_bytes_alone.ensures.held;
  bytes = c.jumps_change_their_bytes_alone.ensures.data_bytes;
  looks = c.homes_are_not_looked_at.ensures;
  homes = c.homes_stay_spliced.ensures.jumped;
  valid = c.homes_stay_spliced.ensures.valid;
}

laws : After-space → StepLaws
laws c = record {
  stand = c.steps_stand.ensures;
  calls = c.calls_and_returns.ensures.calls;
  falls = c.calls_and_returns.ensures.falls;
}

-- the thread before the step and after it
got : (c : After-space) → slice_get c.self.inside.live.machine.threads c.args.thread ≡ Some c.in-Some.before
got c = ap (λ (s : Watched). slice_get s.machine.threads c.args.thread) c.self.view_is
    ∙ sym c.thread.ensures ∙ c.in-Some.is

got_after : (c : After-space) → slice_get c.step_traced.new.self.machine.threads c.args.thread
    ≡ Some c.in-Some-get.after.now
got_after c =
    let stands = threads_of c.step_traced.new.self.phase c.program-machine.result.now c.step_traced.new.self.machine
    c.program-machine.ensures.stands in
    ap (λ (ts : List Thread). slice_get ts c.args.thread) (sym (c.threads.ensures.threads ∙ stands))
    ∙ sym c.get.ensures ∙ ap option_copied c.in-Some-get.is

-- the memory that the watch sees
abbrev memory : After-space → Contents
memory c = (paged.ghosts).contents c.space.result.now

memory_is : (c : After-space) → memory c ≡ c.program-machine.result.now.contents
memory_is c = c.space.ensures.contents

made : (c : After-space)
    → IsMade (memory c) c.self.inside.live.machine c.step_traced.new.self.machine c.self.inside.watch c.in-Some.before
    c.in-Some-get.after.now c.in-Ok.traced.outcome c.in-Ok.traced.store
made c =
    let k = c.self.inside.live.machine in
    let now = c.step_traced.new.self.machine in
    step_made (jumps c) (laws c) c.step_traced.new.self.phase k now c.self.inside.watch c.args.thread c.in-Some.before
    c.in-Some-get.after.now
    c.in-Ok.traced.outcome c.in-Ok.traced.store
    (memory c) c.program.ensures.built c.program-machine.ensures.built c.program-machine.ensures.opened c.self.invariant
    (numbered_of c.self.inside.live.phase c.program.result.now k c.program.ensures.stands
    c.threads-threads.ensures.numbered) (got c)
    c.in-Ok.ensures.answered
    (got_after c) c.registers_fit.ensures.count c.registers_fit.ensures.esp c.in-Ok.ensures.written
    (memory_is c ∙ memory_of c.step_traced.new.self.phase c.program-machine.result.now now
    c.program-machine.ensures.stands)

-- the thread that made the step is there after it
nothing_lost : In_default-get → ⊥
nothing_lost c =
    let k = c.self.inside.live.machine in
    let n = c.args.thread in
    let now = c.step_traced.new.self.machine in
    let was : slice_get k.threads n ≡ Some c.in-Some.before =
    ap (λ (s : Watched). slice_get s.machine.threads n) c.self.view_is ∙ sym c.thread.ensures ∙ c.in-Some.is in
    let stands = threads_of c.step_traced.new.self.phase c.program-machine.result.now now
    c.program-machine.ensures.stands in
    let none : slice_get now.threads n ≡ None =
    ap (λ (ts : List Thread). slice_get ts n) (sym (c.threads.ensures.threads ∙ stands))
    ∙ sym c.get.ensures ∙ ap option_copied c.in_default-get.is in
    after_there k now n c.in-Some.before c.in-Ok.traced.outcome was c.in-Ok.ensures.answered none

pub returns-in_default-clause-after : goal.returns-in_default-clause-after
returns-in_default-clause-after c =
    step_missing c.args.self.now c.args.thread (sym c.thread.ensures ∙ c.in_default.is)

pub returns-in_default-step_traced-clause-after : goal.returns-in_default-step_traced-clause-after
returns-in_default-step_traced-clause-after c =
    let w = c.self.inside.watch in
    let came = c.in_default-step_traced.ensures in
    ap (λ (seen : Phased). watched_in seen.machine seen.phase w) came.refused ∙ c.self.view_is
    ∙ step_refused c.args.self.now c.args.thread c.in_default-step_traced.field-0
    (subst (λ (s : Watched). answered s.machine (Step c.args.thread) ≡ Err c.in_default-step_traced.field-0)
    c.self.view_is came.answered)

pub note_traced-requires-clause-step : goal.note_traced-requires-clause-step
note_traced-requires-clause-step c = λ unbroken. (made c).step

pub note_traced-requires-clause-held : goal.note_traced-requires-clause-held
note_traced-requires-clause-held c = λ unbroken. (made c).held

pub note_traced-requires-clause-fetched : goal.note_traced-requires-clause-fetched
note_traced-requires-clause-fetched c =
    let k = c.self.inside.live.machine in
    let now = c.step_traced.new.self.machine in
    let traced = c.in-Ok.traced in
    λ unbroken many. subst (λ (m : Contents). HaveWindows m c.in-Some.before.pc traced.fetched)
    (sym (memory_is c ∙ memory_of c.step_traced.new.self.phase c.program-machine.result.now now
    c.program-machine.ensures.stands))
    (fetched_windows (jumps c)
    c.threads_keep_windows.ensures.steps c.fetched_bytes_have_windows.ensures c.step_traced.new.self.phase k now
    c.args.thread
    c.in-Some.before traced.outcome traced.fetched c.program.ensures.built c.program-machine.ensures.built
    c.program-machine.ensures.opened (got c)
    c.in-Ok.ensures.answered c.in-Ok.ensures.text many)

pub unreachable-requires : goal.unreachable-requires
unreachable-requires c = nothing_lost (goal.at.unreachable-requires c).In_default-get

pub invariant_of-self-2 : goal.invariant_of-self-2
invariant_of-self-2 c =
    let m = made (goal.at.invariant_of-self-2 c).After-space in
    subst (IsInStep c.step_traced.new.self.machine) (sym (c.note_traced.ensures ∙ m.same)) m.kept

pub returns-clause-after : goal.returns-clause-after
returns-clause-after c =
    let here = (goal.at.returns-clause-after c).After-space in
    let now = c.step_traced.new.self.machine in
    let v = c.note_traced.new.self in
    let live = c.self.inside.live in
    ap (λ (phase : Phase). watched_in now phase v) c.step_traced.ensures.phase
    ∙ subst (λ (s : Watched). watched_in now live.phase v ≡ watched_after s (Step c.args.thread)) c.self.view_is
    (step_watched (watched_in live.machine live.phase c.self.inside.watch)
    now v c.args.thread c.in-Some.before c.in-Some-get.after.now
    c.in-Ok.traced.outcome c.in-Ok.ensures.answered
    (got here) (got_after here) (c.note_traced.ensures ∙ (made here).same))
