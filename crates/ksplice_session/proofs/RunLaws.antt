-- Steps one after another, as lists of events.
use Rattle.std.proofs.Common.{◌≡◌, ℕ, zero, suc, ◌+◌, ◌<◌, Bool, true, false, if◌then◌else◌, is_some}
use Rattle.std.proofs.Common.{List, [], ◌∷◌, ◌++◌, length, length-append, Option, Some, None, refl, sym, ◌∙◌, ap, arith}
use Rattle.std.specs.List.{slice_get}
use Rattle.std.proofs.lemmas.List.{length-set}
use Rattle.std.proofs.lemmas.Option.{slice_get_within}
use Rattle.image_threads.specs.Program.{if_running, running_at}
use Rattle.ia32_step.specs.declared.types.Thread.{Thread}
use Rattle.update_stack.specs.AbstractMachine.{AbstractMachine}
use Rattle.update_stack.specs.Steps.{step_in, moved_by, moved}
use Rattle.update_stack.specs.Events.{Event, Step, step_answered, answered, machine_after, after_event, after_events}
use Rattle.ksplice_session.specs.Running.{thread_steps}
use Rattle.ksplice_session.specs.Watching.{Watched, watched_by, watched_after, watched_after_all}
use Rattle.ksplice_session.proofs.WatchedLaws.{machine_after_one, watched_after_both}

-- So many of some events were made, and these are still to be made.
pub record Goes (first : Watched) (all : List Event) (made : ℕ) (now : Watched) (rest : List Event) : Type 0 where
  pub count : made + length rest ≡ length all
  pub after : watched_after_all now rest ≡ watched_after_all first all

pub begins : (s : Watched) (all : List Event) → Goes s all 0 s all
begins s all = record { count = omega arith; after = refl }

pub goes_on : (first : Watched)
    (all : List Event) (made : ℕ) (s now : Watched) (event : Event) (rest later : List Event)
    → rest ≡ event ∷ later
    → now ≡ watched_after s event → Goes first all made s rest → Goes first all (made + 1) now later
unfolding watched_after_all
goes_on first all made s now event rest later is next h =
    record {
      count = let n : length rest ≡ length later + 1 = ap length is ∙ omega arith in omega (arith, h.count);
      after = ap (λ (n : Watched). watched_after_all n later) next ∙ sym (ap (watched_after_all s) is) ∙ h.after;
    }

-- the same of several events
pub goes_far : (first : Watched) (all : List Event) (made n : ℕ) (s now : Watched) (events rest later : List Event)
    → rest ≡ events ++ later → n ≡ length events → now ≡ watched_after_all s events → Goes first all made s rest
    → Goes first all (made + n) now later
goes_far first all made n s now events rest later is count next h =
    record {
      count = let long : length rest ≡ length events + length later = ap length is ∙ length-append events later in
          omega (arith, h.count);
      after = ap (λ (n : Watched). watched_after_all n later) next ∙ sym (watched_after_both s events later)
          ∙ ap (watched_after_all s) (sym is) ∙ h.after;
    }

pub has_gone : (first : Watched) (all : List Event) (made : ℕ) (s : Watched) (rest : List Event)
    → rest ≡ [] → Goes first all made s rest
    → (made ≡ length all) × (s ≡ watched_after_all first all)
unfolding watched_after_all
has_gone first all made s rest is h = (
  let n : length rest ≡ 0 = ap length is in omega (arith, h.count),
  sym (ap (watched_after_all s) is) ∙ h.after,
)

-- a step leaves as many threads as there were
step_counts : (k : AbstractMachine) (n : ℕ) → length (after_event k (Step n)).threads ≡ length k.threads
unfolding after_event answered moved
step_counts k n = by (running_at k.threads n)
  where
    by : (o : Option Thread) → length (machine_after k (step_answered (moved_by k n o))).threads ≡ length k.threads
    by None = refl
    by (Some before) = length-set k.threads n (step_in k before).thread

steps_count : (k : AbstractMachine) (thread n : ℕ)
    → length (after_events k (thread_steps k thread n)).threads ≡ length k.threads
unfolding thread_steps after_events
steps_count k thread zero = refl
steps_count k thread (suc n) =
    by (is_some (running_at k.threads thread))
    (steps_count (after_event k (Step thread)) thread n ∙ step_counts k thread)
  where
    later : List Event
    later = thread_steps (after_event k (Step thread)) thread n

    by : (b : Bool) → length (after_events (after_event k (Step thread)) later).threads ≡ length k.threads
        → length (after_events k (if b then Step thread ∷ later else [])).threads ≡ length k.threads
    by true more = more
    by false more = refl

-- a thread that runs is there after its steps
pub steps_leave : (k now : AbstractMachine) (thread n : ℕ) → is_some (running_at k.threads thread) ≡ true
    → now ≡ after_events k (thread_steps k thread n) → thread < length now.threads
steps_leave k now thread n runs is = rw (is, steps_count k thread n) (by (slice_get k.threads thread) refl runs)
  where
    by : (o : Option Thread) → slice_get k.threads thread ≡ o → is_some (if_running o) ≡ true
        → thread < length k.threads
    by None none runs = cc
    by (Some t) got runs = slice_get_within k.threads thread t got

pub thread_done : (k : AbstractMachine) (thread n : ℕ) → n ≡ 0 → thread_steps k thread n ≡ []
unfolding thread_steps
thread_done k thread n none = rw none refl

thread_first : (k : AbstractMachine) (thread n : ℕ)
    → is_some (running_at k.threads thread) ≡ false → thread_steps k thread (suc n) ≡ []
unfolding thread_steps
thread_first k thread n ends = rw ends refl

pub thread_on : (k now : AbstractMachine) (thread n m : ℕ)
    → n ≡ suc m → is_some (running_at k.threads thread) ≡ true → now ≡ after_event k (Step thread)
    → thread_steps k thread n ≡ Step thread ∷ thread_steps now thread m
unfolding thread_steps
thread_on k now thread n m is runs next = rw (is, runs, next) refl

-- no step is made where the thread has ended
pub thread_ends_at : (k : AbstractMachine) (thread n : ℕ) → is_some (running_at k.threads thread) ≡ false
    → thread_steps k thread n ≡ []
thread_ends_at k thread zero ends = thread_done k thread 0 refl
thread_ends_at k thread (suc n) ends = thread_first k thread n ends

-- the machine of a session after an event
machine_is : (s now : Watched) (event : Event) → now ≡ watched_after s event → now.machine ≡ after_event s.machine event
machine_is s now event next = ap (λ (n : Watched). n.machine) next ∙ machine_after_one s event

pub thread_goes_on : (s now : Watched) (thread n m : ℕ)
    → n ≡ suc m → is_some (running_at s.machine.threads thread) ≡ true → now ≡ watched_after s (Step thread)
    → thread_steps s.machine thread n ≡ Step thread ∷ thread_steps now.machine thread m
thread_goes_on s now thread n m is runs next =
    thread_on s.machine now.machine thread n m is runs (machine_is s now (Step thread) next)

no_step : (s : Watched) (thread : ℕ)
    → is_some (running_at s.machine.threads thread) ≡ false → watched_after s (Step thread) ≡ s
unfolding watched_after answered moved
no_step s thread ends =
    let P : Option Thread → Type 0 =
    λ o. is_some o ≡ false → watched_by s (Step thread) (step_answered (moved_by s.machine thread o)) ≡ s in
    let all : P (running_at s.machine.threads thread) =
    elim (running_at s.machine.threads thread) as P [ None ↦ λ e. refl | Some t ↦ λ e. cc ] in
    all ends

pub thread_ends : (s now : Watched) (thread n : ℕ)
    → is_some (running_at s.machine.threads thread) ≡ false → now ≡ watched_after s (Step thread)
    → (thread_steps s.machine thread n ≡ []) × (now ≡ s)
thread_ends s now thread n ends next = (thread_ends_at s.machine thread n ends, next ∙ no_step s thread ends)
