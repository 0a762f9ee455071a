-- In a disciplined list of events no return is lost.
use Rattle.std.proofs.Common.{◌≡◌, ℕ, Bool, true, false, ◌==◌, if◌then◌else◌, IsTrue, [], ◌∷◌, Option, Some, None}
use Rattle.std.proofs.Common.{refl, sym, ◌∙◌, ap, subst, inl, inr}
use Rattle.std.proofs.lemmas.Option.{none-some, same_Some}
use Rattle.ks_base.specs.declared.refusals.Fault.{Fault}
use Rattle.ks_base.specs.declared.refusals.Fault.TheVariants as faults
use Rattle.image_memory.specs.Fetch.{View, Unmapped, AtHome, Stray, Bytes, has_window}
use Rattle.ia32_decode.specs.Decode.{decoded_from}
use Rattle.ia32_step.specs.declared.types.Outcome.TheVariants.{Stopped}
use Rattle.ia32_step.specs.declared.types.Thread.{Thread}
use Rattle.ia32_step.specs.Step.{exits}
use Rattle.image_threads.specs.Program.{running_at}
use Rattle.update_stack.specs.AbstractMachine.{AbstractMachine, contents_of, view_in, base_of}
use Rattle.update_stack.specs.Steps.{step_at, step_in, moved_by, moved}
use Rattle.update_stack.specs.Events.{Step, step_answered, answered}
use Rattle.update_safety.specs.Windows.{window_in}
use Rattle.ksplice_session.specs.Watching.{Watched, first_watched, watched_after_all}
use Rattle.ksplice_session.specs.Safety.{outcome_by, step_outcome, ReturnedNowhere, MetNothing, StopsAtFetch}
use Rattle.ksplice_session.specs.Safety.{NoReturnIsLost}
use Rattle.ksplice_session.proofs.RuleLaws.{is_same}
use Rattle.ksplice_session.proofs.MomentLaws.{Premises}
use Rattle.ksplice_session.proofs.OpenFrames.{front_disciplined, rest_outcome}
use Rattle.ksplice_session.proofs.HistoryLaws.{Stands, history_at}

-- what a running thread's step comes to
run_outcome : (s : Watched) (n : ℕ) (thread : Thread) → running_at s.machine.threads n ≡ Some thread
    → step_outcome s n ≡ Some (step_in s.machine thread).outcome
unfolding answered moved
run_outcome s n thread runs = ap (λ (o : Option Thread). outcome_by (step_answered (moved_by s.machine n o))) runs

-- at the end no step stops
ends_not_stops : (k : AbstractMachine) (thread : Thread) (fault : Fault) → thread.pc ≡ 0xFFFF_0000
    → (step_in k thread).outcome ≡ Stopped fault → ⊥
unfolding step_in
ends_not_stops k thread fault is stops = by_test (thread.pc == 0xFFFF_0000) (is_same thread.pc 0xFFFF_0000 is) stops
  where
    by_test : (b : Bool) → b ≡ true
        → (if b then exits (contents_of k) thread
        else step_at (contents_of k) thread (base_of k thread.pc) (view_in k thread.pc)).outcome ≡ Stopped fault → ⊥
    by_test true same stops = cc
    by_test false same stops = cc

-- at a window no step stops for lack of code
stray_has_none : Premises → (k : AbstractMachine) (thread : Thread) → (step_in k thread).outcome ≡ Stopped faults.Stray
    → IsTrue (window_in k thread.pc) → ⊥
unfolding step_in
stray_has_none laws k thread stops window =
    by_end (thread.pc == 0xFFFF_0000) (view_in k thread.pc) (base_of k thread.pc) stops window
  where
    by_view : (met : View) (base : ℕ) → (step_at (contents_of k) thread base met).outcome ≡ Stopped faults.Stray
        → has_window met ≡ true → ⊥
    by_view Unmapped base stops window = cc
    by_view AtHome base stops window = cc
    by_view Stray base stops window = cc
    by_view (Bytes code) base stops window = laws.faults (contents_of k) thread (decoded_from code) stops

    by_end : (ends : Bool) (met : View) (base : ℕ)
        → (if ends then exits (contents_of k) thread else step_at (contents_of k) thread base met).outcome
        ≡ Stopped faults.Stray
        → has_window met ≡ true → ⊥
    by_end true met base stops window = cc
    by_end false met base stops window = by_view met base stops window

unmapped_has_none : (k : AbstractMachine) (thread : Thread) → view_in k thread.pc ≡ Unmapped
    → IsTrue (window_in k thread.pc) → ⊥
unmapped_has_none k thread unmapped window =
    let none : has_window Unmapped ≡ true = subst (λ (met : View). has_window met ≡ true) unmapped window in cc

-- where a step stops for lack of code its thread has no window, and hasn't ended
stopped_at : Premises → (s : Watched) (n : ℕ) (thread : Thread) → running_at s.machine.threads n ≡ Some thread
    → StopsAtFetch s n
    → (fault : Fault) × ((step_in s.machine thread).outcome ≡ Stopped fault)
    × (IsTrue (window_in s.machine thread.pc) → ⊥)
stopped_at laws s n thread runs (inl stray) =
    let stops : (step_in s.machine thread).outcome ≡ Stopped faults.Stray =
    same_Some (step_in s.machine thread).outcome (Stopped faults.Stray) (sym (run_outcome s n thread runs) ∙ stray) in
    (faults.Stray, stops, stray_has_none laws s.machine thread stops)
stopped_at laws s n thread runs (inr unmapped) =
    let stops : (step_in s.machine thread).outcome ≡ Stopped faults.Unmapped =
    same_Some (step_in s.machine thread).outcome (Stopped faults.Unmapped)
    (sym (run_outcome s n thread runs) ∙ unmapped.0) in (
      faults.Unmapped,
      stops,
      unmapped_has_none s.machine thread (subst (MetNothing s.machine) runs unmapped.1),
    )

-- such a step is made by a running thread
stops_running : (s : Watched) (n : ℕ) → running_at s.machine.threads n ≡ None → StopsAtFetch s n → ⊥
stops_running s n rests (inl stray) = none-some (Stopped faults.Stray) (sym (rest_outcome s n rests) ∙ stray)
stops_running s n rests (inr unmapped) =
    none-some (Stopped faults.Unmapped) (sym (rest_outcome s n rests) ∙ unmapped.0)

pub no_return_is_lost : Premises → NoReturnIsLost
no_return_is_lost laws file image events n read now stops = by_running (running_at s.machine.threads n) refl
  where
    s : Watched
    s = watched_after_all (first_watched image) events

    by_place : (thread : Thread) → (fault : Fault) × ((step_in s.machine thread).outcome ≡ Stopped fault)
        × (IsTrue (window_in s.machine thread.pc) → ⊥)
        → Stands (first_watched image) events s n thread.pc → ReturnedNowhere (first_watched image) events n
    by_place thread stopped (inl window) = absurd (stopped.2 window)
    by_place thread stopped (inr (inl bottom)) = absurd (ends_not_stops s.machine thread stopped.0 bottom stopped.1)
    by_place thread stopped (inr (inr returned)) = returned

    by_running : (o : Option Thread) → running_at s.machine.threads n ≡ o
        → ReturnedNowhere (first_watched image) events n
    by_running None rests = absurd (stops_running s n rests stops)
    by_running (Some thread) runs =
        by_place thread (stopped_at laws s n thread runs stops)
        ((history_at laws file image read events
        (front_disciplined (first_watched image) events (Step n ∷ []) now)).pcs n thread runs)
