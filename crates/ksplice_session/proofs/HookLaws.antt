-- An update at which functions were run, as a watch sees it, and why its line is answered as it is to be.
use Rattle.std.proofs.Common.{◌≡◌, ℕ, ◌+◌, List, [], ◌∷◌, None, Result, Ok, Err, refl, sym, ◌∙◌, ap, subst, arith}
use Rattle.std.specs.List.{All, Any, slice_get}
use Rattle.std.proofs.lemmas.List.Elements.{All-weaker}
use Rattle.std.proofs.lemmas.Option.{slice_get_within, get_or_from_slice_get}
use Rattle.ks_base.specs.declared.refusals.Refusal.{Refusal}
use Rattle.ks_base.specs.declared.reports.HookReport.{HookReport}
use Rattle.image_memory.specs.Contents.{Contents}
use Rattle.ia32_step.specs.declared.types.Thread.{Thread}
use Rattle.image_threads.specs.Program.{AreNumbered}
use Rattle.splice_jump.specs.declared.phase.Phase.{Phase}
use Rattle.update_stack.specs.AbstractMachine.{AbstractMachine}
use Rattle.update_stack.specs.Hooks.{hooked}
use Rattle.update_stack.specs.Events.{Event, Hooks, Hooked, Happened, happened, hooks_answered, answered}
use Rattle.update_stack.specs.Stacked.{IsBuilt}
use Rattle.update_stack.specs.Phases.{patched_in, IsOpenAt}
use Rattle.update_safety.specs.Slots.{SameThreads}
use Rattle.frame_watch.specs.Conditions.{IsWatchedAs, AreWatched, MayTestSlots}
use Rattle.frame_watch.specs.Discipline.{sight_of, hooks_noted}
use Rattle.frame_watch.specs.Frames.{Watched as WatchedThread, Watching}
use Rattle.ksplice_session.specs.Lines.{hooked_lines}
use Rattle.ksplice_session.specs.Watching.{Watched, sight_in, watched_by, watched_after}
use Rattle.ksplice_session.specs.Replies.{replied, refused_after, hooked_told, hooks_told}
use Rattle.ksplice_session.specs.inside.InStep.{IsInStep}
use Rattle.ksplice_session.proofs.EventAnswers.{same_Ok, running_is}
use Rattle.ksplice_session.proofs.SeenLaws.{JumpLaws, phases_alike}
use Rattle.ksplice_session.proofs.SightLaws.{hooks_alike}
use Rattle.ksplice_session.proofs.TestedLaws.{hooks_left}
use Rattle.ksplice_session.proofs.WatchLaws.{RunsIn, runs_in, left_in_step, its_thread, numbered_at}
use Rattle.ksplice_session.proofs.WatchedLaws.{watched}

-- ---- what is noted
-- a thread that is watched is one of the threads
watched_as : (threads : List Thread) (one : WatchedThread) → AreNumbered 0 threads → RunsIn threads one
    → Any (IsWatchedAs one) threads
watched_as threads one numbered is =
    let r = its_thread threads one is in
    let number : r.thread.number ≡ 0 + one.thread = numbered_at 0 threads one.thread r.thread numbered r.got in (
      one.thread,
      r.thread,
      slice_get_within threads one.thread r.thread r.got,
      get_or_from_slice_get threads one.thread r.thread r.thread r.got,
      record {
        number = omega (arith, number);
        running = (running_is (slice_get threads one.thread) r.thread r.found).1;
        stack = r.same.stack;
        esp = r.same.esp;
      },
    )

-- so the slots of all may be looked at, since no thread changed
pub may_test : (k now : AbstractMachine) (w : Watching) (threads : List Thread) → IsInStep k w
    → AreNumbered 0 k.threads → SameThreads k now → threads ≡ now.threads → MayTestSlots w threads
may_test k now w threads in_step numbered same is well =
    subst (AreWatched w.threads) (sym (is ∙ same.threads))
    (All-weaker (RunsIn k.threads) (λ (one : WatchedThread). Any (IsWatchedAs one) k.threads)
    (λ one runs. watched_as k.threads one numbered runs) w.threads (runs_in k w in_step))

-- what is noted, and what comes of it
pub record IsTested (memory : Contents) (now : AbstractMachine) (w : Watching) : Type 0 where
  pub same : hooks_noted (sight_of memory) w ≡ hooks_noted (sight_in now) w
  pub kept : IsInStep now (hooks_noted (sight_in now) w)

pub hooks_tested : JumpLaws → (phase : Phase) (k now : AbstractMachine) (w : Watching) (memory : Contents)
    → IsBuilt now → IsOpenAt phase now → IsInStep k w → SameThreads k now → now.scratch ≡ None
    → memory ≡ patched_in phase now → IsTested memory now w
hooks_tested jumps phase k now w memory built opened in_step same bare there = record {
  same =
      ap (λ (m : Contents). hooks_noted (sight_of m) w) there
      ∙ hooks_alike (sight_of (patched_in phase now)) (sight_in now) (phases_alike jumps now built phase opened) w;
  kept =
      left_in_step now (hooks_noted (sight_in now) w)
      (hooks_left (RunsIn now.threads) (sight_in now) w in_step.stopped
      (subst (λ (threads : List Thread). All (RunsIn threads) w.threads) (sym same.threads) (runs_in k w in_step)))
      bare;
}

-- the session after such an update
pub hooks_watched : (s : Watched) (now : AbstractMachine) (v : Watching) (name pre post : List ℕ) (done : HookReport)
    → answered s.machine (Hooks name pre post) ≡ Ok (happened now (Hooked done))
    → v ≡ hooks_noted (sight_in now) s.watch → watched s now v ≡ watched_after s (Hooks name pre post)
unfolding watched_after
hooks_watched s now v name pre post done is noted =
    ap (watched s now) noted ∙ sym (ap (watched_by s (Hooks name pre post)) is)

-- ---- what its line tells
-- such a line leaves the phase
hooked_unturned : (event : Event) (name : List ℕ) (r : Result (AbstractMachine × HookReport) Refusal)
    → (hooked_told event name r).turns ≡ None
hooked_unturned event name (Ok left) = refl
hooked_unturned event name (Err refusal) = refl

pub hooks_unturned : (k : AbstractMachine) (name : List ℕ) (held : List (List ℕ))
    → (hooks_told k name held).turns ≡ None
hooks_unturned k name [] = refl
hooks_unturned k name (pre ∷ []) = refl
hooks_unturned k name (pre ∷ post ∷ []) =
    hooked_unturned (Hooks name pre post) name (hooked k name pre post)
hooks_unturned k name (pre ∷ post ∷ more ∷ rest) = refl

-- what it tells, by what the machine answers
tells_hooked : (event : Event) (name : List ℕ) (r : Result (AbstractMachine × HookReport) Refusal)
    (now : AbstractMachine) (done : HookReport) → hooks_answered r ≡ Ok (happened now (Hooked done))
    → hooked_told event name r ≡ replied (event ∷ []) (hooked_lines name done)
tells_hooked event name (Ok left) now done is =
    let answer : Hooked left.1 ≡ Hooked done = ap (λ (h : Happened). h.answer) (same_Ok _ _ is) in
    let same : left.1 ≡ done = cc in
    ap (λ (d : HookReport). replied (event ∷ []) (hooked_lines name d)) same
tells_hooked event name (Err refusal) now done is = cc

tells_refused : (event : Event) (name : List ℕ) (r : Result (AbstractMachine × HookReport) Refusal)
    (refusal : Refusal) → hooks_answered r ≡ Err refusal → hooked_told event name r ≡ refused_after [] refusal
tells_refused event name (Ok left) refusal is = cc
tells_refused event name (Err other) refusal is = cc

pub told_hooked : (s : Watched) (now : AbstractMachine) (name pre post : List ℕ) (held : List (List ℕ))
    (done : HookReport)
    → held ≡ pre ∷ post ∷ [] → answered s.machine (Hooks name pre post) ≡ Ok (happened now (Hooked done))
    → hooks_told s.machine name held ≡ replied (Hooks name pre post ∷ []) (hooked_lines name done)
unfolding answered
told_hooked s now name pre post held done two is =
    ap (λ (files : List (List ℕ)). hooks_told s.machine name files) two
    ∙ tells_hooked (Hooks name pre post) name (hooked s.machine name pre post) now done is

pub told_hooks_refused : (s : Watched) (name pre post : List ℕ) (held : List (List ℕ)) (refusal : Refusal)
    → held ≡ pre ∷ post ∷ [] → answered s.machine (Hooks name pre post) ≡ Err refusal
    → hooks_told s.machine name held ≡ refused_after [] refusal
unfolding answered
told_hooks_refused s name pre post held refusal two is =
    ap (λ (files : List (List ℕ)). hooks_told s.machine name files) two
    ∙ tells_refused (Hooks name pre post) name (hooked s.machine name pre post) refusal is
