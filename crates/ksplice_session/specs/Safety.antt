-- What the discipline is good for, as laws over all lists of events: no return lands in code that was replaced or
-- removed after its call.
use Rattle.std.specs.Prelude.{◌≡◌, ◌⊎◌, ℕ, Bool, false, IsTrue, IsFalse, ◌&&◌}
use Rattle.std.specs.Prelude.{◌==◌, nat_le, List, [], ◌∷◌, ◌++◌, length}
use Rattle.std.specs.Prelude.{Option, Some, None, Result, Ok, Err}
use Rattle.std.specs.Option.{option_map, unwrap_or}
use Rattle.std.specs.List.{last_or, All}
use Rattle.ks_base.specs.declared.refusals.Fault.TheVariants as faults
use Rattle.ks_base.specs.declared.refusals.Refusal.{Refusal}
use Rattle.image_file.specs.Reading.{Contents as Image, image_of}
use Rattle.image_memory.specs.Fetch.{Unmapped}
use Rattle.ia32_step.specs.declared.types.Frame.{Frame}
use Rattle.ia32_step.specs.declared.types.Thread.{Thread}
use Rattle.ia32_step.specs.declared.types.Flow.TheVariants.{Call, Return}
use Rattle.ia32_step.specs.declared.types.Outcome.{Outcome}
use Rattle.ia32_step.specs.declared.types.Outcome.TheVariants.{Moved, Stopped}
use Rattle.image_threads.specs.Program.{running_at}
use Rattle.update_stack.specs.AbstractMachine.{AbstractMachine, view_in}
use Rattle.update_stack.specs.Events.{Event, Spawn, Step, Answer, Stepped, Happened, answered, after_events}
use Rattle.frame_watch.specs.Frames.{frames_at}
use Rattle.update_safety.specs.Windows.{window_in}
use Rattle.ksplice_session.specs.Watching.{Watched, first_watched, watched_after, watched_after_all, IsDisciplined}

-- the frames of a thread, how many they are, and the address of the last
abbrev pub frames_of : Watched → ℕ → List Frame
frames_of s thread = frames_at s.watch.threads thread

abbrev pub depth_of : Watched → ℕ → ℕ
depth_of s thread = length (frames_of s thread)

abbrev pub address_of : Frame → ℕ
address_of frame = frame.address

abbrev pub return_address : Watched → ℕ → ℕ
return_address s thread = unwrap_or (option_map address_of (last_or None (frames_of s thread))) 0

-- a frame of a thread is open as long as the thread has so many frames, after each of some events
unfoldable pub stays_open : (thread depth : ℕ) → Watched → List Event → Bool
stays_open thread depth s [] = nat_le depth (depth_of s thread)
stays_open thread depth s (event ∷ events) =
    nat_le depth (depth_of s thread) && stays_open thread depth (watched_after s event) events

-- what a step of a thread comes to; nothing where no running thread has the number
abbrev pub outcome_in : Answer → Option Outcome
outcome_in (Stepped outcome) = Some outcome
outcome_in other = None

abbrev pub outcome_by : Result Happened Refusal → Option Outcome
outcome_by (Err refusal) = None
outcome_by (Ok now) = outcome_in now.answer

abbrev pub step_outcome : Watched → ℕ → Option Outcome
step_outcome s thread = outcome_by (answered s.machine (Step thread))

-- In a disciplined list, an open frame whose address had a window when its call was made has one at each later moment
-- while it is open.
abbrev pub OpenFramesKeepWindows : Type 0
OpenFramesKeepWindows =
    (file : List ℕ) (image : Image) (before later : List Event) (thread : ℕ) (called : Watched)
    → image_of file ≡ Ok image
    → IsDisciplined (first_watched image) (before ++ Step thread ∷ later)
    → step_outcome (watched_after_all (first_watched image) before) thread ≡ Some (Moved Call)
    → called ≡ watched_after_all (first_watched image) (before ++ Step thread ∷ [])
    → IsTrue (window_in called.machine (return_address called thread))
    → IsTrue (stays_open thread (depth_of called thread) called later)
    → IsTrue (window_in (watched_after_all called later).machine (return_address called thread))

abbrev pub is_step_of : ℕ → Event → Bool
is_step_of thread (Step other) = thread == other
is_step_of thread other = false

-- The last step of a thread in a list of events was a return, which closed the frame of a call, and the call's return
-- address had no window when it was made.
pub record ReturnedNowhere (s : Watched) (events : List Event) (thread : ℕ) : Type 0 where
  pub before : List Event
  pub during : List Event
  pub behind : List Event
  pub whole : before ++ Step thread ∷ (during ++ Step thread ∷ behind) ≡ events
  pub rests : All (λ event. IsFalse (is_step_of thread event)) behind
  pub called : Watched
  pub at : called ≡ watched_after_all s (before ++ Step thread ∷ [])
  pub calls : step_outcome (watched_after_all s before) thread ≡ Some (Moved Call)
  pub windowless : IsFalse (window_in called.machine (return_address called thread))
  pub stays : IsTrue (stays_open thread (depth_of called thread) called during)
  pub last : depth_of (watched_after_all called during) thread ≡ depth_of called thread
  pub returns : step_outcome (watched_after_all called during) thread ≡ Some (Moved Return)

-- the pc of a thread lies in no code
abbrev pub MetNothing : AbstractMachine → Option Thread → Type 0
MetNothing k None = ⊥
MetNothing k (Some thread) = view_in k thread.pc ≡ Unmapped

-- A step stops for lack of code: the thread's pc lies in a retired range, or in no code at all.
abbrev pub StopsAtFetch : Watched → ℕ → Type 0
StopsAtFetch s thread =
    (step_outcome s thread ≡ Some (Stopped faults.Stray))
    ⊎ ((step_outcome s thread ≡ Some (Stopped faults.Unmapped))
    × MetNothing s.machine (running_at s.machine.threads thread))

-- In a disciplined list no step stops for lack of code, except directly after a return to an address that had no window
-- when its call was made.
abbrev pub NoReturnIsLost : Type 0
NoReturnIsLost =
    (file : List ℕ) (image : Image) (events : List Event) (thread : ℕ)
    → image_of file ≡ Ok image
    → IsDisciplined (first_watched image) (events ++ Step thread ∷ [])
    → StopsAtFetch (watched_after_all (first_watched image) events) thread
    → ReturnedNowhere (first_watched image) events thread

-- Both for one list of events: a frame that is opened by a step of it, and a step of it that stops for lack of code.
pub record IsSafe (first : Watched) (events : List Event) : Type 0 where
  pub frames : (before later behind : List Event) (thread : ℕ) (called : Watched)
      → before ++ Step thread ∷ (later ++ behind) ≡ events
      → step_outcome (watched_after_all first before) thread ≡ Some (Moved Call)
      → called ≡ watched_after_all first (before ++ Step thread ∷ [])
      → IsTrue (window_in called.machine (return_address called thread))
      → IsTrue (stays_open thread (depth_of called thread) called later)
      → IsTrue (window_in (watched_after_all called later).machine (return_address called thread))
  pub returns : (before behind : List Event) (thread : ℕ)
      → before ++ Step thread ∷ behind ≡ events
      → StopsAtFetch (watched_after_all first before) thread
      → ReturnedNowhere first before thread

-- a machine after some events and the next one, which is the start of a thread
pub record HasStartedMore (k : AbstractMachine) (events rest : List Event) (now : AbstractMachine) : Type 0 where
  pub name : List ℕ
  pub argument : ℕ
  pub behind : List Event
  pub next : Spawn name argument ∷ behind ≡ rest
  pub machine : now ≡ after_events k (events ++ Spawn name argument ∷ [])

-- A session that made a prefix of some events from its start. Those that its watch has noted are a prefix of them, and
-- are all that its machine made, except where the next one is a start that was left unnoted because memory ran out. And
-- both hold of each prefix of the noted ones that is disciplined.
pub record RanSafely (first : Watched) (events : List Event) (now : Watched) : Type 0 where
  pub noted : List Event
  pub rest : List Event
  pub front : noted ++ rest ≡ events
  pub watch : now.watch ≡ (watched_after_all first noted).watch
  pub machine : (now.machine ≡ after_events first.machine noted) ⊎ HasStartedMore first.machine noted rest now.machine
  pub safe : (front behind : List Event) → front ++ behind ≡ noted → IsDisciplined first front → IsSafe first front
