-- The threads that are watched: where each function that was called is to find its return address, and which.
use Rattle.std.specs.Prelude.{ℕ, ◌-◌, Bool, not, ◌==◌, if◌then◌else◌, List, []}
use Rattle.std.specs.Prelude.{◌∷◌, ◌++◌, take, length, map, Option, Some, None}
use Rattle.std.specs.List.{find, filter, list_all}
use Rattle.ks_base.specs.declared.places.Range.{Range}
use Rattle.image_memory.specs.declared.types.Piece.{Piece}
use Rattle.image_memory.specs.Ranges.{put_in}
use Rattle.image_memory.specs.Access.{dword_at}
use Rattle.ia32_step.specs.declared.types.Frame.{Frame}
use Rattle.ia32_step.specs.declared.types.Thread.{Thread}
use Rattle.ia32_step.specs.Frames.{keeps_slot}
use Rattle.ia32_step.specs.Threads.{esp_of}
use Rattle.frame_watch.specs.declared.types.Verdict.{Verdict}
use Rattle.frame_watch.specs.declared.types.Verdict.TheVariants.{Disciplined}

-- a running thread with its frames, the newest last
pub record Watched : Type 0 where
  pub thread : ℕ
  pub stack : Range
  pub esp : ℕ
  pub frames : List Frame

-- how many events there were; the running threads, by the addresses of their stacks; and whether a rule was broken, by
-- which event, of which thread
pub record Watching : Type 0 where
  pub events : ℕ
  pub threads : List Watched
  pub verdict : Verdict

abbrev pub first_watching : Watching
first_watching = record { events = 0; threads = []; verdict = Disciplined }

abbrev pub frame : (slot address : ℕ) → Frame
frame slot address = record { slot = slot; address = address }

-- A started thread is to return to 0xFFFF0000, which stands where its ESP is.
abbrev pub started : Thread → Watched
started thread = record {
  thread = thread.number;
  stack = thread.stack;
  esp = esp_of thread;
  frames = frame (esp_of thread) 0xFFFF_0000 ∷ [];
}

abbrev pub stack_of : Watched → Range
stack_of watched = watched.stack

abbrev pub with_started : List Watched → Thread → List Watched
with_started threads thread = put_in stack_of (started thread) threads

abbrev pub is_of : ℕ → Watched → Bool
is_of thread watched = watched.thread == thread

abbrev pub watched_at : List Watched → ℕ → Option Watched
watched_at threads thread = find (is_of thread) threads

-- the frames of a thread, none where it isn't watched
abbrev pub frames_in : Option Watched → List Frame
frames_in None = []
frames_in (Some watched) = watched.frames

abbrev pub frames_at : List Watched → ℕ → List Frame
frames_at threads thread = frames_in (watched_at threads thread)

-- the threads with another ESP and other frames of one, and without one
abbrev pub if_of : ℕ → ℕ → List Frame → Watched → Watched
if_of thread esp frames watched =
    if watched.thread == thread then record watched { esp = esp; frames = frames } else watched

abbrev pub with_frames : List Watched → Thread → List Frame → List Watched
with_frames threads after frames = map (if_of after.number (esp_of after) frames) threads

abbrev pub without_thread : List Watched → ℕ → List Watched
without_thread threads thread = filter (λ watched. not (is_of thread watched)) threads

-- a call opens the frame of the address that it pushed, and a return closes the last one
abbrev pub opened : List Piece → Thread → List Frame → List Frame
opened pieces after frames = frames ++ frame (esp_of after) (dword_at pieces (esp_of after)) ∷ []

abbrev pub closed : List Frame → List Frame
closed frames = take (length frames - 1) frames

-- whether all frames of a thread keep the slot rule
abbrev pub keeps_slots : List Piece → Watched → Bool
keeps_slots pieces watched = list_all (keeps_slot pieces watched.stack watched.esp) watched.frames
