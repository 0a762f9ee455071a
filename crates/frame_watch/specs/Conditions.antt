-- What is known where an event is noted.
use Rattle.std.specs.Prelude.{◌≡◌, ℕ, ◌+◌, ◌≤◌, ◌<◌, Bool, true, false, IsTrue, List, Option, Some, None}
use Rattle.std.specs.List.{All, Any, list_any}
use Rattle.image_memory.specs.declared.types.Piece.{Piece}
use Rattle.image_memory.specs.Ranges.{meets, MeetsNone}
use Rattle.image_memory.specs.Access.{first_fault, read_fault}
use Rattle.image_memory.specs.Contents.{Contents}
use Rattle.image_memory.specs.Fetch.{has_window, view_at}
use Rattle.ia32_alu.specs.Widths.{byte_count}
use Rattle.ia32_step.specs.declared.types.Frame.{Frame}
use Rattle.ia32_step.specs.declared.types.Thread.{Thread}
use Rattle.ia32_step.specs.declared.types.Store.{Store}
use Rattle.ia32_step.specs.declared.types.Flow.TheVariants.{Call}
use Rattle.ia32_step.specs.declared.types.Outcome.{Outcome}
use Rattle.ia32_step.specs.declared.types.Outcome.TheVariants.{Moved}
use Rattle.ia32_step.specs.Frames.{is_slot, holds_dword}
use Rattle.ia32_step.specs.Threads.{esp_of, runs}
use Rattle.frame_watch.specs.declared.types.Verdict.TheVariants.{Disciplined}
use Rattle.frame_watch.specs.Frames.{Watched, Watching, is_of, stack_of}

-- A thread that isn't watched yet, on a stack of its own with room for the address that its ESP points to.
pub record IsStart (threads : List Watched) (thread : Thread) : Type 0 where
  pub slot : is_slot thread.stack (esp_of thread) (esp_of thread) ≡ true
  pub unwatched : list_any (is_of thread.number) threads ≡ false
  pub apart : MeetsNone stack_of thread.stack threads

-- a thread may be started; nothing is asked once a rule was broken
abbrev pub MayStart : Watching → Thread → Type 0
MayStart w thread = w.verdict ≡ Disciplined → IsStart w.threads thread

-- A call has lowered ESP by 4, and what it pushed can be read.
pub record HasPushed (pieces : List Piece) (before after : Thread) : Type 0 where
  pub esp : esp_of after + 4 ≡ esp_of before
  pub readable : first_fault (read_fault pieces) (esp_of after) 4 ≡ None

-- A watched thread has the stack and the ESP with which the step began, and a call pushed its return address.
pub record IsStepOf (pieces : List Piece) (before after : Thread) (outcome : Outcome) (watched : Watched) : Type 0 where
  pub stack : watched.stack ≡ before.stack
  pub esp : watched.esp ≡ esp_of before
  pub pushed : outcome ≡ Moved Call → HasPushed pieces before after

-- A step of one thread, which need not be watched.
pub record IsStep (pieces : List Piece) (before after : Thread) (outcome : Outcome)
    (threads : List Watched) : Type 0 where
  pub number : after.number ≡ before.number
  pub stepped : All (λ watched. watched.thread ≡ before.number → IsStepOf pieces before after outcome watched) threads

-- a step may be noted; nothing is asked once a rule was broken
abbrev pub MayStep : List Piece → (before after : Thread) → Outcome → Watching → Type 0
MayStep pieces before after outcome w = w.verdict ≡ Disciplined → IsStep pieces before after outcome w.threads

-- A thread that is watched runs, with the stack and the ESP that the watch has for it.
pub record IsWatchedAs (watched : Watched) (thread : Thread) : Type 0 where
  pub number : watched.thread ≡ thread.number
  pub running : IsTrue (runs thread)
  pub stack : watched.stack ≡ thread.stack
  pub esp : watched.esp ≡ esp_of thread

-- each thread that is watched is one of some threads
abbrev pub AreWatched : List Watched → List Thread → Type 0
AreWatched watching threads = All (λ watched. Any (IsWatchedAs watched) threads) watching

-- the slots of all may be looked at; nothing is asked once a rule was broken
abbrev pub MayTestSlots : Watching → List Thread → Type 0
MayTestSlots w threads = w.verdict ≡ Disciplined → AreWatched w.threads threads

-- whether what was written shares an address with the four bytes of a slot
abbrev pub touches : Option Store → ℕ → Bool
touches None slot = false
touches (Some store) slot =
    meets (record { low = store.address; high = store.address + byte_count store.width })
    (record { low = slot; high = slot + 4 })

-- each open frame's slot holds its address, but for those that what was written touches
abbrev pub HoldBut : List Piece → List Watched → Option Store → Type 0
HoldBut pieces threads store =
    All (λ watched. All (λ (frame : Frame). touches store frame.slot ≡ false
    → holds_dword pieces frame.slot frame.address ≡ true) watched.frames) threads

-- the same while no rule was broken, so that what was written may be reported; after that nothing is asked
abbrev pub MayHoldBut : List Piece → Watching → Option Store → Type 0
MayHoldBut pieces w store = w.verdict ≡ Disciplined → HoldBut pieces w.threads store

-- at each of so many addresses from one on there is a window
abbrev pub HaveWindows : Contents → ℕ → ℕ → Type 0
HaveWindows contents start count =
    (address : ℕ) → start ≤ address → address < start + count → has_window (view_at contents address) ≡ true

-- more than five bytes are no jump at a home but code: where so many were fetched there is a window at each
abbrev pub MayHaveFetched : Contents → (pc count : ℕ) → Watching → Type 0
MayHaveFetched contents pc count w = w.verdict ≡ Disciplined → 5 < count → HaveWindows contents pc count
