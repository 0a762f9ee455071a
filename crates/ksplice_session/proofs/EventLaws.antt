-- What each kind of event leaves of a moment at which no rule was broken.
use Rattle.std.proofs.Common.{◌≡◌, ℕ, ◌≤◌, true, IsTrue, IsFalse}
use Rattle.std.proofs.Common.{List, [], ◌∷◌, ◌++◌, length, Option, Some, None}
use Rattle.std.proofs.Common.{refl, sym, ◌∙◌, ap, subst, arith, inl, inr}
use Rattle.std.specs.List.{slice_get}
use Rattle.std.proofs.lemmas.Option.{none-some, same_Some, slice_get_past}
use Rattle.ks_base.specs.declared.places.Range.{Range}
use Rattle.image_memory.specs.Fetch.{has_window}
use Rattle.ia32_step.specs.declared.types.Frame.{Frame}
use Rattle.ia32_step.specs.declared.types.Thread.{Thread}
use Rattle.ia32_step.specs.Frames.{keeps_slot}
use Rattle.ia32_step.specs.Threads.{esp_of, runs}
use Rattle.image_threads.specs.Program.{if_running, running_at}
use Rattle.update_stack.specs.Standing.{in_one}
use Rattle.update_stack.specs.AbstractMachine.{AbstractMachine, view_in}
use Rattle.update_stack.specs.Events.{Event, Step}
use Rattle.update_safety.specs.Windows.{SameWindows, KeepsWindows}
use Rattle.update_safety.specs.Slots.{KeepsSlots}
use Rattle.update_safety.specs.Clear.{IsOutside}
use Rattle.frame_watch.specs.declared.types.Verdict.TheVariants.{Disciplined}
use Rattle.frame_watch.specs.Frames.{Watched as WatchedThread, Watching, started, with_started, watched_at}
use Rattle.frame_watch.specs.Frames.{frames_in, frames_at, keeps_slots}
use Rattle.frame_watch.specs.Discipline.{spawn_noted}
use Rattle.ksplice_session.proofs.WatchedLaws.{watched}
use Rattle.ksplice_session.specs.Watching.{Watched, sight_in}
use Rattle.ksplice_session.specs.Safety.{frames_of}
use Rattle.ksplice_session.proofs.Lookups.{IsOneOf, is_contained, All-of_list_all, All-at, read_last, read_more}
use Rattle.ksplice_session.proofs.Lookups.{one_more, all_pass}
use Rattle.ksplice_session.proofs.RuleLaws.{here_or_not}
use Rattle.ksplice_session.proofs.RuleLaws.{others_started, it_is_started, KeepRule, GoesOn}
use Rattle.ksplice_session.proofs.RuleLaws.{start_goes_on}
use Rattle.ksplice_session.proofs.MomentLaws.{Agree, IsMoment, Change, Stays, Begins}
use Rattle.ksplice_session.proofs.MomentLaws.{Keeps, IsNext, agree_none, agree_some}
use Rattle.ksplice_session.proofs.MomentLaws.{no_frames, with_frame}
use Rattle.ksplice_session.proofs.EventAnswers.{running_is, runs_at}

-- what an event leaves
abbrev pub Next : Watched → Event → Watched → Type 0
Next s event new = IsMoment new × IsNext s new event

pub agree_by : (o p : Option Thread) (a b : Option WatchedThread) → p ≡ o → b ≡ a → Agree o a → Agree p b
agree_by o p a b same_thread same_watch agree =
    subst (λ (x : Option Thread). Agree x b) (sym same_thread)
    (subst (λ (y : Option WatchedThread). Agree o y) (sym same_watch) agree)

pub same_windows : (s : Watched) (now : AbstractMachine) (w : Watching) → SameWindows s.machine now → (address : ℕ)
    → Keeps s (watched s now w) address
same_windows s now w same address has = same address ∙ has

module _ (s : Watched) (event : Event) (moment : IsMoment s) where
  -- an event that is refused
  pub refused_next : ((n : ℕ) → event ≡ Step n → running_at s.machine.threads n ≡ None) → Next s event s
  refused_next idle = (
    moment,
    record {
      changes = λ n. Stays (idle n) refl refl;
      frames = λ n i one is has. has;
      pcs = λ n thread is has. has;
    },
  )

  -- Ranges go in which no thread and no frame is, and no thread changes; the frames keep the slot rule.
  pub ranges_next : (now : AbstractMachine) (ranges : List Range) (w : Watching) → now.threads ≡ s.machine.threads
      → now.stacks ≡ s.machine.stacks → w.threads ≡ s.watch.threads → w.verdict ≡ Disciplined
      → KeepRule now.pieces s.watch.threads → KeepsWindows ranges s.machine now
      → ((n : ℕ) (thread : Thread) → running_at s.machine.threads n ≡ Some thread
      → IsOutside ranges thread (frames_of s n))
      → ((n : ℕ) → event ≡ Step n → ⊥) → Next s event (watched s now w)
  ranges_next now ranges w threads stacks same_watch unbroken slots windows outside no_step =
      let same_frames : (n : ℕ) → frames_of (watched s now w) n ≡ frames_of s n =
      (λ n. ap (λ (ts : List WatchedThread). frames_at ts n) same_watch) in
      let same_runs : (n : ℕ) → running_at now.threads n ≡ running_at s.machine.threads n =
      (λ n. ap (λ (ts : List Thread). running_at ts n) threads) in
      let same_watched : (n : ℕ) → watched_at w.threads n ≡ watched_at s.watch.threads n =
      (λ n. ap (λ (ts : List WatchedThread). watched_at ts n) same_watch) in (
        record {
          unbroken = unbroken;
          numbered = λ n thread is.
              moment.numbered n thread (subst (λ (ts : List Thread). slice_get ts n ≡ Some thread) threads is);
          listed = λ n thread is.
              subst (λ (ss : List Range). IsOneOf ss thread.stack) (sym stacks)
              (moment.listed n thread (subst (λ (ts : List Thread). slice_get ts n ≡ Some thread) threads is));
          agree = λ n.
              agree_by (running_at s.machine.threads n) (running_at now.threads n) (watched_at s.watch.threads n)
              (watched_at w.threads n) (same_runs n) (same_watched n) (moment.agree n);
          slots = λ n one is. slots n one (sym (same_watched n) ∙ is);
        },
        record {
          changes = λ n. Stays (λ steps. absurd (no_step n steps)) (same_runs n) (same_frames n);
          frames = λ n i one is has.
              let thread = with_frame s moment n i one is in
              let clear = outside n thread.0 thread.1 in
              windows one.address
              (All-at (λ (f : Frame). IsFalse (in_one ranges f.address)) (frames_of s n) i one clear.addresses is) has;
          pcs = λ n thread is has. windows thread.pc (outside n thread is).pc has;
        },
      )

  -- the slots of stacks keep what they hold, and so the frames of each thread keep the rule
  pub slots_kept : (now : AbstractMachine) → KeepsSlots s.machine now → KeepRule now.pieces s.watch.threads
  slots_kept now slots n one is = by_running (running_at s.machine.threads n) refl
    where
      all_of : ((i : ℕ) (f : Frame) → slice_get one.frames i ≡ Some f
          → IsTrue (keeps_slot now.pieces one.stack one.esp f)) → IsTrue (keeps_slots now.pieces one)
      all_of each = all_pass (keeps_slot now.pieces one.stack one.esp) one.frames each

      by_running : (o : Option Thread) → running_at s.machine.threads n ≡ o → IsTrue (keeps_slots now.pieces one)
      by_running None rests =
          let unwatched =
          agree_none (running_at s.machine.threads n) (watched_at s.watch.threads n) rests (moment.agree n) in
          absurd (none-some one (sym unwatched ∙ is))
      by_running (Some thread) runs =
          let agreed =
          agree_some (running_at s.machine.threads n) (watched_at s.watch.threads n) thread runs (moment.agree n) in
          let here = running_is (slice_get s.machine.threads n) thread runs in
          let same_one : agreed.0 ≡ one = same_Some agreed.0 one (sym agreed.1 ∙ is) in
          let stack : one.stack ≡ thread.stack =
          ap (λ (o : WatchedThread). o.stack) (sym same_one) ∙ agreed.2.stack in
          let listed : IsOneOf s.machine.stacks one.stack =
          subst (λ (r : Range). IsOneOf s.machine.stacks r) (sym stack) (moment.listed n thread here.0) in
          let all =
          All-of_list_all (keeps_slot s.machine.pieces one.stack one.esp) one.frames (moment.slots n one is) in
          all_of (λ i f at. slots one.stack one.esp f (is_contained s.machine.stacks one.stack listed)
          (All-at (λ (g : Frame). IsTrue (keeps_slot s.machine.pieces one.stack one.esp g)) one.frames i f all at))

  -- an update, or one taken back
  pub update_next : (now : AbstractMachine) (ranges : List Range) (w : Watching) → now.threads ≡ s.machine.threads
      → now.stacks ≡ s.machine.stacks → w.threads ≡ s.watch.threads → w.verdict ≡ s.watch.verdict
      → KeepsSlots s.machine now → KeepsWindows ranges s.machine now
      → ((n : ℕ) (thread : Thread) → running_at s.machine.threads n ≡ Some thread
      → IsOutside ranges thread (frames_of s n))
      → ((n : ℕ) → event ≡ Step n → ⊥) → Next s event (watched s now w)
  update_next now ranges w threads stacks same_watch same_verdict slots windows outside no_step =
      ranges_next now ranges w threads stacks same_watch (same_verdict ∙ moment.unbroken) (slots_kept now slots) windows
      outside no_step

  -- a thread is started at a window
  pub start_next : (now : AbstractMachine) (thread : Thread) → now.threads ≡ s.machine.threads ++ thread ∷ []
      → now.stacks ≡ s.machine.stacks → thread.number ≡ length s.machine.threads → runs thread ≡ true
      → IsOneOf s.machine.stacks thread.stack → SameWindows s.machine now → ((n : ℕ) → event ≡ Step n → ⊥)
      → (spawn_noted (sight_in now) thread s.watch).verdict ≡ Disciplined
      → Next s event (watched s now (spawn_noted (sight_in now) thread s.watch))
  start_next now thread threads stacks number starts listed windows no_step unbroken = (
    record {
      unbroken = unbroken;
      numbered = λ n one is. (each n one is).0;
      listed = λ n one is. (each n one is).1;
      agree = here_or_not (λ n. Agree (running_at now.threads n) (watched_at new.threads n)) thread.number
          (agree_by (Some thread) (running_at now.threads thread.number) (Some (started thread))
          (watched_at new.threads thread.number) run_here watch_here (record { stack = refl; esp = refl }))
          (λ n differ. agree_by (running_at s.machine.threads n) (running_at now.threads n)
          (watched_at s.watch.threads n) (watched_at new.threads n) (run_there n differ) (watch_there n differ)
          (moment.agree n));
      slots = subst (KeepRule now.pieces) (sym goes.1.kept) goes.1.slots;
    },
    record {
      changes = here_or_not (Change s (watched s now new) event) thread.number
          (Begins (esp_of thread) thread rested (no_frames s.watch.threads thread.number unwatched) run_here
          (ap frames_in watch_here) goes.0)
          (λ n differ. Stays (λ steps. absurd (no_step n steps)) (run_there n differ)
          (ap frames_in (watch_there n differ)));
      frames = λ n i one is. same_windows s now new windows one.address;
      pcs = λ n one is. same_windows s now new windows one.pc;
    },
  )
    where
      new : Watching
      new = spawn_noted (sight_in now) thread s.watch

      goes : IsTrue (has_window (view_in now thread.pc)) × GoesOn now.pieces (with_started s.watch.threads thread) new
      goes = start_goes_on (sight_in now) s.watch moment.unbroken thread unbroken

      at_end : slice_get now.threads thread.number ≡ Some thread
      at_end =
          ap (λ (ts : List Thread). slice_get ts thread.number) threads
          ∙ ap (slice_get (s.machine.threads ++ thread ∷ [])) number ∙ read_last s.machine.threads thread

      run_here : running_at now.threads thread.number ≡ Some thread
      run_here = runs_at now.threads thread.number thread at_end starts

      rested : running_at s.machine.threads thread.number ≡ None
      rested =
          let past : length s.machine.threads ≤ thread.number = omega arith in
          ap if_running (slice_get_past s.machine.threads thread.number past)

      unwatched : watched_at s.watch.threads thread.number ≡ None
      unwatched =
          agree_none (running_at s.machine.threads thread.number) (watched_at s.watch.threads thread.number) rested
          (moment.agree thread.number)

      watch_here : watched_at new.threads thread.number ≡ Some (started thread)
      watch_here =
          ap (λ (ts : List WatchedThread). watched_at ts thread.number) goes.1.kept
          ∙ it_is_started s.watch.threads thread unwatched

      run_there : (n : ℕ) → (n ≡ thread.number → ⊥) → running_at now.threads n ≡ running_at s.machine.threads n
      run_there n differ =
          ap (λ (ts : List Thread). running_at ts n) threads
          ∙ ap if_running (one_more s.machine.threads thread n (λ same. differ (same ∙ sym number)))

      watch_there : (n : ℕ) → (n ≡ thread.number → ⊥) → watched_at new.threads n ≡ watched_at s.watch.threads n
      watch_there n differ =
          ap (λ (ts : List WatchedThread). watched_at ts n) goes.1.kept ∙ others_started s.watch.threads thread n differ

      each : (n : ℕ) (one : Thread) → slice_get now.threads n ≡ Some one
          → (one.number ≡ n) × IsOneOf now.stacks one.stack
      each n one is =
          let there = subst (λ (ts : List Thread). slice_get ts n ≡ Some one) threads is in
          elim (read_more s.machine.threads thread one n there) [
            | inl before ↦ (
              moment.numbered n one before,
              subst (λ (ss : List Range). IsOneOf ss one.stack) (sym stacks) (moment.listed n one before),
            )
            | inr here ↦ (
              ap (λ (t : Thread). t.number) (sym here.1) ∙ number ∙ sym here.0,
              subst (λ (t : Thread). IsOneOf now.stacks t.stack) here.1
                  (subst (λ (ss : List Range). IsOneOf ss thread.stack) (sym stacks) listed),
            )
          ]
