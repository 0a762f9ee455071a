use Rattle.std.proofs.Common.{◌≡◌, Ok, sym, ◌∙◌, ap, subst}
use Rattle.image_memory.specs.Contents.{Contents}
use Rattle.paged_memory.specs.contracts.paged.PagedSpaceSpace.TheImpl as paged
use Rattle.splice_jump.specs.declared.phase.Phase.{Phase}
use Rattle.update_stack.specs.Events.{Hooks, Hooked, answered, happened}
use Rattle.update_stack.specs.Phases.{Phased}
use Rattle.update_safety.specs.Slots.{SameThreads}
use Rattle.ksplice_session.specs.Watching.{Watched, watched_after}
use Rattle.ksplice_session.specs.inside.InStep.{IsInStep}
use Rattle.ksplice_session.proofs.SeenLaws.{JumpLaws, watched_in, memory_of, threads_of, numbered_of}
use Rattle.ksplice_session.proofs.HookLaws.{IsTested, may_test, hooks_tested, hooks_watched}
use Rattle.ksplice_session.proofs.session.Session.apply_with_hooks.Goals.{After-space}
use Rattle.ksplice_session.proofs.session.Session.apply_with_hooks.Goals as goal

pub apply_with_hooks-requires-clause-none : goal.apply_with_hooks-requires-clause-none
apply_with_hooks-requires-clause-none c =
    ap (λ (seen : Phased). seen.machine.scratch) c.in-Some.ensures.system ∙ c.self.invariant.bare

-- the session's machine answered, and no other
made : (c : After-space)
    → answered c.self.inside.live.machine (Hooks c.args.name.now c.args.pre.now c.args.post.now)
    ≡ Ok (happened c.apply_with_hooks.new.system.machine (Hooked c.in_ok-done.done))
made c =
    subst (λ (seen : Phased). answered seen.machine (Hooks c.args.name.now c.args.pre.now c.args.post.now)
    ≡ Ok (happened c.apply_with_hooks.new.system.machine (Hooked c.in_ok-done.done))) c.in-Some.ensures.system
    c.in_ok-done.ensures.answered

same : (c : After-space) → SameThreads c.self.inside.live.machine c.apply_with_hooks.new.system.machine
same c =
    c.hooks_keep_threads_safe.ensures.threads c.self.inside.live.machine c.args.name.now c.args.pre.now
    c.args.post.now (happened c.apply_with_hooks.new.system.machine (Hooked c.in_ok-done.done))
    c.program.ensures.built (made c)

-- the memory that the watch sees
abbrev memory : After-space → Contents
memory c = (paged.ghosts).contents c.space.result.now

tested : (c : After-space)
    → IsTested (memory c) c.apply_with_hooks.new.system.machine c.self.inside.watch
tested c =
    let jumps : JumpLaws = record {
      views = c.jumps_leave_views.ensures;
      held = c.jumps_change_their_bytes_alone.ensures.held;
      bytes = c.jumps_change_their_bytes_alone.ensures.data_bytes;
      looks = c.homes_are_not_looked_at.ensures;
      homes = c.homes_stay_spliced.ensures.jumped;
      valid = c.homes_stay_spliced.ensures.valid;
    } in
    let left = c.apply_with_hooks.new.system in
    let machine = c.program-machine.result.now in
    let there : memory c ≡ machine.contents = c.space.ensures.contents in
    hooks_tested jumps left.phase c.self.inside.live.machine left.machine c.self.inside.watch (memory c)
    c.program-machine.ensures.built c.program-machine.ensures.opened c.self.invariant (same c)
    c.apply_with_hooks.ensures.scratch
    (there ∙ memory_of left.phase machine left.machine c.program-machine.ensures.stands)

pub note_hooks-requires : goal.note_hooks-requires
note_hooks-requires c =
    let live = c.self.inside.live in
    let left = c.apply_with_hooks.new.system in
    may_test live.machine left.machine c.self.inside.watch c.threads.result.now c.self.invariant
    (numbered_of live.phase c.program.result.now live.machine c.program.ensures.stands
    c.threads-threads.ensures.numbered) (same c)
    (c.threads.ensures.threads
    ∙ threads_of left.phase c.program-machine.result.now left.machine c.program-machine.ensures.stands)

pub invariant_of-self-2 : goal.invariant_of-self-2
invariant_of-self-2 c =
    let t = tested (goal.at.invariant_of-self-2 c).After-space in
    subst (IsInStep c.apply_with_hooks.new.system.machine) (sym (c.note_hooks.ensures ∙ t.same)) t.kept

pub returns-clause-noted : goal.returns-clause-noted
returns-clause-noted c =
    let here = (goal.at.returns-clause-noted c).After-space in
    let live = c.self.inside.live in
    let now = c.apply_with_hooks.new.system.machine in
    let v = c.note_hooks.new.self in
    let event = Hooks c.args.name.now c.args.pre.now c.args.post.now in
    ap (λ (phase : Phase). watched_in now phase v)
    (c.apply_with_hooks.ensures.phase ∙ ap (λ (seen : Phased). seen.phase) c.in-Some.ensures.system)
    ∙ subst (λ (s : Watched). watched_in now live.phase v ≡ watched_after s event) c.self.view_is
    (hooks_watched (watched_in live.machine live.phase c.self.inside.watch) now v c.args.name.now
    c.args.pre.now c.args.post.now c.in_ok-done.done (made here) (c.note_hooks.ensures ∙ (tested here).same))
