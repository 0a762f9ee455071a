-- What the watch and the machine have to do with each other in a disciplined list of events, and what one event more
-- leaves of it.
use Rattle.std.proofs.Common.{◌≡◌, ℕ, IsTrue}
use Rattle.std.proofs.Common.{List, [], ◌∷◌, ◌++◌, Option, Some, None, Ok}
use Rattle.std.proofs.Common.{refl, sym, ap, subst}
use Rattle.std.specs.List.{All, last_or, slice_get}
use Rattle.std.proofs.lemmas.Option.{none-some, same_Some}
use Rattle.ks_base.specs.declared.places.Range.{Range}
use Rattle.ks_base.specs.declared.refusals.Fault.TheVariants as faults
use Rattle.image_file.specs.Reading.{Contents as Image, image_of}
use Rattle.image_memory.specs.Contents.{Contents}
use Rattle.ia32_decode.specs.declared.types.Decoded.{Decoded}
use Rattle.ia32_step.specs.declared.types.Frame.{Frame}
use Rattle.ia32_step.specs.declared.types.Thread.{Thread}
use Rattle.ia32_step.specs.declared.types.Flow.TheVariants.{Plain, Call, Return}
use Rattle.ia32_step.specs.declared.types.Outcome.{Outcome}
use Rattle.ia32_step.specs.declared.types.Outcome.TheVariants.{Moved, Stopped}
use Rattle.ia32_step.specs.Frames.{keeps_slot}
use Rattle.ia32_step.specs.Step.{carried_out}
use Rattle.ia32_step.specs.Threads.{runs}
use Rattle.image_threads.specs.Program.{running_at}
use Rattle.update_stack.specs.AbstractMachine.{first_machine}
use Rattle.update_stack.specs.Events.{Event, Step, after_events}
use Rattle.update_stack.specs.Stacked.{IsBuilt}
use Rattle.update_safety.specs.Windows.{window_in, StartsKeepWindows, StepsKeepWindows}
use Rattle.update_safety.specs.Windows.{UpdatesKeepWindows, HooksKeepWindows, UndosKeepWindows}
use Rattle.update_safety.specs.Slots.{UpdatesKeepSlots, UndosKeepSlots, HooksKeepThreads}
use Rattle.update_safety.specs.Clear.{KeepSlots, AcceptedIsClear, HookedIsClear, TakenBackIsClear}
use Rattle.frame_watch.specs.declared.types.Verdict.TheVariants.{Disciplined}
use Rattle.frame_watch.specs.Frames.{Watched as WatchedThread, frame}
use Rattle.frame_watch.specs.Frames.{watched_at, frames_in, frames_at, closed}
use Rattle.frame_watch.specs.Frames.{keeps_slots}
use Rattle.ksplice_session.specs.Watching.{Watched}
use Rattle.ksplice_session.specs.Safety.{frames_of, step_outcome}
use Rattle.ksplice_session.specs.inside.InStep.{IsSame}
use Rattle.ksplice_session.proofs.Lookups.{IsOneOf, All-of_list_all}
use Rattle.ksplice_session.proofs.RuleLaws.{KeepRule}

-- the laws that are used here
pub record Premises : Type 0 where
  pub starts : StartsKeepWindows
  pub steps : StepsKeepWindows
  pub updates : UpdatesKeepWindows
  pub undos : UndosKeepWindows
  pub accepted : AcceptedIsClear
  pub taken_back : TakenBackIsClear
  pub built : (file : List ℕ) (image : Image) (events : List Event) → image_of file ≡ Ok image
      → IsBuilt (after_events (first_machine image) events)
  pub faults : (contents : Contents) (thread : Thread) (decoded : Option Decoded)
      → (carried_out contents thread decoded).outcome ≡ Stopped faults.Stray → ⊥
  pub update_slots : UpdatesKeepSlots
  pub undo_slots : UndosKeepSlots
  pub hooks : HooksKeepWindows
  pub hooked : HookedIsClear
  pub hook_threads : HooksKeepThreads

-- a running thread is the one that is watched, and where none runs none is
abbrev pub Agree : Option Thread → Option WatchedThread → Type 0
Agree None None = Unit {0}
Agree None (Some one) = ⊥
Agree (Some thread) None = ⊥
Agree (Some thread) (Some one) = IsSame one thread

-- What holds at every moment at which no rule was broken: each running thread is watched, and no other; threads have
-- their places as numbers; the frames keep the slot rule.
pub record IsMoment (s : Watched) : Type 0 where
  pub unbroken : s.watch.verdict ≡ Disciplined
  pub numbered : (n : ℕ) (thread : Thread) → slice_get s.machine.threads n ≡ Some thread → thread.number ≡ n
  pub listed : (n : ℕ) (thread : Thread) → slice_get s.machine.threads n ≡ Some thread
      → IsOneOf s.machine.stacks thread.stack
  pub agree : (n : ℕ) → Agree (running_at s.machine.threads n) (watched_at s.watch.threads n)
  pub slots : KeepRule s.machine.pieces s.watch.threads

-- What an event does with the thread of a number: nothing; it is started; it makes a step, by what that comes to.
pub data Change (old new : Watched) (event : Event) (n : ℕ) : Type 0 where
  Stays : (event ≡ Step n → running_at old.machine.threads n ≡ None)
      → running_at new.machine.threads n ≡ running_at old.machine.threads n → frames_of new n ≡ frames_of old n
      → Change old new event n
  Begins : (slot : ℕ) (after : Thread) → running_at old.machine.threads n ≡ None → frames_of old n ≡ []
      → running_at new.machine.threads n ≡ Some after → frames_of new n ≡ frame slot 0xFFFF_0000 ∷ []
      → IsTrue (window_in new.machine after.pc) → Change old new event n
  Arrives : (after : Thread) → event ≡ Step n → step_outcome old n ≡ Some (Moved Plain)
      → running_at new.machine.threads n ≡ Some after → frames_of new n ≡ frames_of old n
      → IsTrue (window_in new.machine after.pc) → Change old new event n
  Calls : (after : Thread) (last : Frame) → event ≡ Step n → step_outcome old n ≡ Some (Moved Call)
      → running_at new.machine.threads n ≡ Some after → frames_of new n ≡ frames_of old n ++ last ∷ []
      → IsTrue (window_in new.machine after.pc) → Change old new event n
  Returns : (after : Thread) (last : Frame) → event ≡ Step n → step_outcome old n ≡ Some (Moved Return)
      → running_at new.machine.threads n ≡ Some after → last_or None (frames_of old n) ≡ Some last
      → frames_of new n ≡ closed (frames_of old n) → last.address ≡ after.pc → Change old new event n
  Ends : (outcome : Outcome) → event ≡ Step n → step_outcome old n ≡ Some outcome → (outcome ≡ Moved Call → ⊥)
      → running_at new.machine.threads n ≡ None → frames_of new n ≡ [] → Change old new event n

-- an address that had a window has one
abbrev pub Keeps : (old new : Watched) → ℕ → Type 0
Keeps old new address = IsTrue (window_in old.machine address) → IsTrue (window_in new.machine address)

-- what an event leaves of each thread, and of the windows at its pc and at the addresses of its frames
pub record IsNext (old new : Watched) (event : Event) : Type 0 where
  pub changes : (n : ℕ) → Change old new event n
  pub frames : (n i : ℕ) (frame : Frame) → slice_get (frames_of old n) i ≡ Some frame → Keeps old new frame.address
  pub pcs : (n : ℕ) (thread : Thread) → running_at old.machine.threads n ≡ Some thread → Keeps old new thread.pc

pub agree_none : (o : Option Thread) (p : Option WatchedThread) → o ≡ None → Agree o p → p ≡ None
agree_none None None is agree = refl
agree_none None (Some one) is agree = absurd agree
agree_none (Some thread) p is agree = absurd (none-some thread (sym is))

pub agree_some : (o : Option Thread) (p : Option WatchedThread) (thread : Thread) → o ≡ Some thread → Agree o p
    → (one : WatchedThread) × (p ≡ Some one) × IsSame one thread
agree_some None p thread is agree = absurd (none-some thread is)
agree_some (Some t) None thread is agree = absurd agree
agree_some (Some t) (Some one) thread is agree =
    (one, refl, subst (IsSame one) (same_Some t thread is) agree)

-- the frames of a thread that isn't watched, and of one that is
pub no_frames : (threads : List WatchedThread) (n : ℕ) → watched_at threads n ≡ None → frames_at threads n ≡ []
no_frames threads n is = ap frames_in is

-- the addresses of frames that are outside, in machines that keep the windows there
module _ (s : Watched) (moment : IsMoment s) where
  -- a thread with frames runs, and these keep the slot rule
  pub with_frame : (n i : ℕ) (one : Frame) → slice_get (frames_of s n) i ≡ Some one
      → (thread : Thread) × (running_at s.machine.threads n ≡ Some thread)
  with_frame n i one is = by_running (running_at s.machine.threads n) refl
    where
      by_running : (o : Option Thread) → running_at s.machine.threads n ≡ o
          → (thread : Thread) × (running_at s.machine.threads n ≡ Some thread)
      by_running (Some thread) runs = (thread, runs)
      by_running None rests =
          let none : frames_of s n ≡ [] =
          no_frames s.watch.threads n
          (agree_none (running_at s.machine.threads n) (watched_at s.watch.threads n) rests (moment.agree n)) in
          absurd (none-some one (subst (λ (fs : List Frame). slice_get fs i ≡ Some one) none is))

  pub keep_slots : (n : ℕ) (thread : Thread) → running_at s.machine.threads n ≡ Some thread
      → KeepSlots s.machine thread (frames_of s n)
  keep_slots n thread is =
      let watched =
      agree_some (running_at s.machine.threads n) (watched_at s.watch.threads n) thread is (moment.agree n) in
      let one = watched.0 in
      let slots : IsTrue (keeps_slots s.machine.pieces one) = moment.slots n one watched.1 in
      let all : All (λ frame. IsTrue (keeps_slot s.machine.pieces one.stack one.esp frame)) one.frames =
      All-of_list_all (keeps_slot s.machine.pieces one.stack one.esp) one.frames slots in
      let by_stack : All (λ frame. IsTrue (keeps_slot s.machine.pieces thread.stack one.esp frame)) one.frames =
      subst (λ (stack : Range). All (λ frame. IsTrue (keeps_slot s.machine.pieces stack one.esp frame)) one.frames)
      watched.2.stack all in
      let by_esp : KeepSlots s.machine thread one.frames =
      subst (λ (esp : ℕ). All (λ frame. IsTrue (keeps_slot s.machine.pieces thread.stack esp frame)) one.frames)
      watched.2.esp by_stack in
      subst (KeepSlots s.machine thread) (sym (ap frames_in watched.1)) by_esp
