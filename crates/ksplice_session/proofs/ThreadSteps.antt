-- What a thread's step leaves of a moment at which no rule was broken.
use Rattle.std.proofs.Common.{◌≡◌, ℕ, true, false, ◌==◌, IsTrue, List, [], set, Option, Some, None}
use Rattle.std.proofs.Common.{refl, sym, ◌∙◌, ap, subst}
use Rattle.std.specs.List.{last_or, slice_get}
use Rattle.std.proofs.lemmas.Option.{same_Some}
use Rattle.ks_base.specs.declared.places.Range.{Range}
use Rattle.image_memory.specs.Access.{dword_at}
use Rattle.ia32_step.specs.declared.types.Frame.{Frame}
use Rattle.ia32_step.specs.declared.types.Thread.{Thread}
use Rattle.ia32_step.specs.declared.types.Flow.TheVariants.{Plain, Call, Return}
use Rattle.ia32_step.specs.declared.types.Outcome.{Outcome}
use Rattle.ia32_step.specs.declared.types.Outcome.TheVariants.{Moved, Exited, Stopped}
use Rattle.ia32_step.specs.Threads.{esp_of, runs}
use Rattle.image_threads.specs.Program.{if_running, running_at}
use Rattle.update_stack.specs.AbstractMachine.{AbstractMachine}
use Rattle.update_stack.specs.Events.{Event, Step}
use Rattle.update_safety.specs.Windows.{SameWindows}
use Rattle.frame_watch.specs.declared.types.Verdict.TheVariants.{Disciplined}
use Rattle.frame_watch.specs.Frames.{Watched as WatchedThread, Watching, frame, watched_at, frames_in, frames_at}
use Rattle.frame_watch.specs.Frames.{with_frames, without_thread, opened, closed}
use Rattle.frame_watch.specs.Discipline.{pops, step_noted}
use Rattle.ksplice_session.proofs.WatchedLaws.{watched}
use Rattle.ksplice_session.specs.Watching.{Watched, sight_in}
use Rattle.ksplice_session.specs.Safety.{frames_of, step_outcome}
use Rattle.ksplice_session.specs.inside.InStep.{IsSame}
use Rattle.ksplice_session.proofs.Lookups.{IsOneOf, both_hold, set_here, set_elsewhere}
use Rattle.ksplice_session.proofs.RuleLaws.{same_number, others_stay, it_has, here_or_not, others_without, it_is_gone}
use Rattle.ksplice_session.proofs.RuleLaws.{KeepRule, GoesOn, LeavesWatch, step_goes_on}
use Rattle.ksplice_session.proofs.MomentLaws.{Agree, IsMoment, Change, Stays, Arrives, Calls}
use Rattle.ksplice_session.proofs.MomentLaws.{Returns, Ends, agree_some}
use Rattle.ksplice_session.proofs.EventAnswers.{running_is, runs_at, rests_at, goes_on}
use Rattle.ksplice_session.proofs.EventLaws.{Next, agree_by, same_windows}

-- the machine after a step of a running thread, which has its number as its place
pub record IsStep (s : Watched) (event : Event) (before after : Thread) (outcome : Outcome) (now : AbstractMachine)
    : Type 0 where
  pub steps : event ≡ Step after.number
  pub running : running_at s.machine.threads after.number ≡ Some before
  pub threads : now.threads ≡ set s.machine.threads after.number after
  pub stacks : now.stacks ≡ s.machine.stacks
  pub number : after.number ≡ before.number
  pub stack : after.stack ≡ before.stack
  pub state : runs after ≡ goes_on outcome
  pub comes : step_outcome s after.number ≡ Some outcome
  pub windows : SameWindows s.machine now

popped_to : (esp pc : ℕ) (last : Option Frame) → IsTrue (pops esp pc last)
    → (one : Frame) × (last ≡ Some one) × (one.address ≡ pc)
popped_to esp pc None is = absurd (cc)
popped_to esp pc (Some one) is =
    (one, refl, same_number one.address pc (both_hold (one.slot == esp) (one.address == pc) is).1)

module _ (s : Watched) (event : Event) (moment : IsMoment s) (before after : Thread) (outcome : Outcome)
    (now : AbstractMachine) (step : IsStep s event before after outcome now) where
  at_place : slice_get s.machine.threads after.number ≡ Some before
  at_place = (running_is (slice_get s.machine.threads after.number) before step.running).0

  placed : slice_get now.threads after.number ≡ Some after
  placed =
      ap (λ (ts : List Thread). slice_get ts after.number) step.threads
      ∙ set_here s.machine.threads after.number after before at_place

  elsewhere : (n : ℕ) → (n ≡ after.number → ⊥) → slice_get now.threads n ≡ slice_get s.machine.threads n
  elsewhere n differ =
      ap (λ (ts : List Thread). slice_get ts n) step.threads
      ∙ set_elsewhere s.machine.threads after.number n after (λ same. differ (sym same))

  each : (n : ℕ) (one : Thread) → slice_get now.threads n ≡ Some one
      → (one.number ≡ n) × IsOneOf now.stacks one.stack
  each =
      here_or_not (λ n. (one : Thread) → slice_get now.threads n ≡ Some one
      → (one.number ≡ n) × IsOneOf now.stacks one.stack) after.number
      (λ one is.
      subst (λ (t : Thread). (t.number ≡ after.number) × IsOneOf now.stacks t.stack)
      (same_Some after one (sym placed ∙ is)) (
        refl,
        subst (λ (r : Range). IsOneOf now.stacks r) (sym step.stack)
            (subst (λ (ss : List Range). IsOneOf ss before.stack) (sym step.stacks)
            (moment.listed after.number before at_place)),
      ))
      (λ n differ one is.
      let was = sym (elsewhere n differ) ∙ is in (
        moment.numbered n one was,
        subst (λ (ss : List Range). IsOneOf ss one.stack) (sym step.stacks) (moment.listed n one was),
      ))

  -- the thread as it was watched
  was_watched : (one : WatchedThread) × (watched_at s.watch.threads after.number ≡ Some one) × IsSame one before
  was_watched =
      agree_some (running_at s.machine.threads after.number) (watched_at s.watch.threads after.number) before
      step.running (moment.agree after.number)

  -- where the watch has the thread with other frames, or without any
  module _ (new : Watching) (threads : List WatchedThread) (goes : GoesOn now.pieces threads new)
      (unbroken : new.verdict ≡ Disciplined)
      (others : (n : ℕ) → (n ≡ after.number → ⊥) → watched_at threads n ≡ watched_at s.watch.threads n) where
    watch_is : (n : ℕ) → watched_at new.threads n ≡ watched_at threads n
    watch_is n = ap (λ (ts : List WatchedThread). watched_at ts n) goes.kept

    next_by : Agree (running_at now.threads after.number) (watched_at threads after.number)
        → Change s (watched s now new) event after.number → Next s event (watched s now new)
    next_by agree change = (
      record {
        unbroken = unbroken;
        numbered = λ n one is. (each n one is).0;
        listed = λ n one is. (each n one is).1;
        agree = here_or_not (λ n. Agree (running_at now.threads n) (watched_at new.threads n)) after.number
            (agree_by (running_at now.threads after.number) (running_at now.threads after.number)
            (watched_at threads after.number) (watched_at new.threads after.number) refl (watch_is after.number) agree)
            (λ n differ. agree_by (running_at s.machine.threads n) (running_at now.threads n)
            (watched_at s.watch.threads n) (watched_at new.threads n) (ap if_running (elsewhere n differ))
            (watch_is n ∙ others n differ) (moment.agree n));
        slots = subst (KeepRule now.pieces) (sym goes.kept) goes.slots;
      },
      record {
        changes = here_or_not (Change s (watched s now new) event) after.number change
            (λ n differ. Stays (λ steps. absurd (differ (other_step n steps))) (ap if_running (elsewhere n differ))
            (ap frames_in (watch_is n ∙ others n differ)));
        frames = λ n i one is. same_windows s now new step.windows one.address;
        pcs = λ n one is. same_windows s now new step.windows one.pc;
      },
    )
      where
        stepped_in : Event → ℕ
        stepped_in (Step n) = n
        stepped_in other = 0

        other_step : (n : ℕ) → event ≡ Step n → n ≡ after.number
        other_step n steps = ap stepped_in (sym steps ∙ step.steps)

  -- the thread goes on with some frames
  next_with : (new : Watching) (frames : List Frame)
      → GoesOn now.pieces (with_frames s.watch.threads after frames) new → new.verdict ≡ Disciplined
      → runs after ≡ true
      → (running_at now.threads after.number ≡ Some after → frames_of (watched s now new) after.number ≡ frames
      → Change s (watched s now new) event after.number)
      → Next s event (watched s now new)
  next_with new frames goes unbroken runs_on change =
      let threads = with_frames s.watch.threads after frames in
      let now_is = it_has s.watch.threads after frames was_watched.0 was_watched.1 in
      let running = runs_at now.threads after.number after placed runs_on in
      let one : WatchedThread = record (was_watched.0) { esp = esp_of after; frames = frames } in
      next_by new threads goes unbroken (λ n differ. others_stay s.watch.threads after frames n differ)
      (agree_by (Some after) (running_at now.threads after.number) (Some one) (watched_at threads after.number) running
      now_is (record { stack = was_watched.2.stack ∙ sym step.stack; esp = refl }))
      (change running
      (ap frames_in (ap (λ (ts : List WatchedThread). watched_at ts after.number) goes.kept ∙ now_is)))

  next_without : (new : Watching) → GoesOn now.pieces (without_thread s.watch.threads after.number) new
      → new.verdict ≡ Disciplined → runs after ≡ false
      → (running_at now.threads after.number ≡ None → frames_of (watched s now new) after.number ≡ []
      → Change s (watched s now new) event after.number)
      → Next s event (watched s now new)
  next_without new goes unbroken rests change =
      let threads = without_thread s.watch.threads after.number in
      let now_is = it_is_gone s.watch.threads after.number in
      let resting = rests_at now.threads after.number after placed rests in
      next_by new threads goes unbroken (λ n differ. others_without s.watch.threads after.number n differ)
      (agree_by None (running_at now.threads after.number) None (watched_at threads after.number) resting now_is tt)
      (change resting
      (ap frames_in (ap (λ (ts : List WatchedThread). watched_at ts after.number) goes.kept ∙ now_is)))

-- each step's outcome in turn
by_outcome : (s : Watched) (event : Event) (moment : IsMoment s) (before after : Thread) (outcome : Outcome)
    (now : AbstractMachine) (step : IsStep s event before after outcome now) (new : Watching)
    → new.verdict ≡ Disciplined
    → LeavesWatch (sight_in now) s.watch moment.unbroken before after outcome new → Next s event (watched s now new)
by_outcome s event moment before after (Moved Plain) now step new unbroken leaves =
    next_with s event moment before after (Moved Plain) now step new (frames_at s.watch.threads before.number) leaves.1
    unbroken step.state
    (λ running frames. Arrives after step.steps step.comes running
    (frames ∙ ap (frames_at s.watch.threads) (sym step.number)) leaves.0)
by_outcome s event moment before after (Moved Call) now step new unbroken leaves =
    next_with s event moment before after (Moved Call) now step new
    (opened now.pieces after (frames_at s.watch.threads before.number)) leaves.1 unbroken step.state
    (λ running frames. Calls after (frame (esp_of after) (dword_at now.pieces (esp_of after))) step.steps step.comes
    running
    (frames ∙ ap (λ (n : ℕ). opened now.pieces after (frames_at s.watch.threads n)) (sym step.number)) leaves.0)
by_outcome s event moment before after (Moved Return) now step new unbroken leaves =
    let last = popped_to (esp_of before) after.pc (last_or None (frames_at s.watch.threads before.number)) leaves.0 in
    next_with s event moment before after (Moved Return) now step new
    (closed (frames_at s.watch.threads before.number)) leaves.1 unbroken step.state
    (λ running frames. Returns after last.0 step.steps step.comes running
    (ap (λ (n : ℕ). last_or None (frames_at s.watch.threads n)) step.number ∙ last.1)
    (frames ∙ ap (λ (n : ℕ). closed (frames_at s.watch.threads n)) (sym step.number)) last.2)
by_outcome s event moment before after (Exited value) now step new unbroken leaves =
    next_without s event moment before after (Exited value) now step new leaves unbroken step.state
    (λ resting frames. Ends (Exited value) step.steps step.comes (λ is. cc) resting frames)
by_outcome s event moment before after (Stopped fault) now step new unbroken leaves =
    next_without s event moment before after (Stopped fault) now step new leaves unbroken step.state
    (λ resting frames. Ends (Stopped fault) step.steps step.comes (λ is. cc) resting frames)

pub step_next : (s : Watched) (event : Event) (moment : IsMoment s) (before after : Thread) (outcome : Outcome)
    (now : AbstractMachine) → IsStep s event before after outcome now
    → (step_noted (sight_in now) before after outcome s.watch).verdict ≡ Disciplined
    → Next s event (watched s now (step_noted (sight_in now) before after outcome s.watch))
step_next s event moment before after outcome now step unbroken =
    by_outcome s event moment before after outcome now step (step_noted (sight_in now) before after outcome s.watch)
    unbroken (step_goes_on (sight_in now) s.watch moment.unbroken before after outcome unbroken)
