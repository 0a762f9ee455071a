-- What holds of the threads that are kept, and what is tested of one.
use Rattle.std.specs.Prelude.{◌≡◌, ℕ, ◌+◌, ◌<◌, ◌≤◌, Bool, true, false, not, ◌||◌}
use Rattle.std.specs.Prelude.{◌==◌, if◌then◌else◌, List, [], ◌∷◌, length, get_or}
use Rattle.std.specs.Prelude.{Option, Some, None}
use Rattle.std.specs.List.{All, list_any, list_all, find, slice_get}
use Rattle.ks_base.specs.declared.places.Range.{Range}
use Rattle.image_memory.specs.declared.types.Piece.{Piece}
use Rattle.image_memory.specs.Ranges.{lies_in}
use Rattle.ia32_step.specs.declared.types.Frame.{Frame}
use Rattle.ia32_step.specs.declared.types.Store.{Store}
use Rattle.ia32_step.specs.declared.types.Thread.{Thread}
use Rattle.ia32_step.specs.Threads.{esp_of}
use Rattle.ia32_alu.specs.declared.types.Width.TheVariants.{Dword}
use Rattle.ia32_step.specs.Frames.{is_slot, holds_dword}
use Rattle.frame_watch.specs.Frames.{Watched, is_of, stack_of, watched_at, closed}
use Rattle.frame_watch.specs.declared.types.Verdict.{Verdict}
use Rattle.frame_watch.specs.declared.types.Verdict.TheVariants.{Disciplined, Broken}
use Rattle.frame_watch.specs.Conditions.{HoldBut}

-- the slots of frames fall by 4 at least
abbrev pub Falls : List Frame → Type 0
Falls frames = (i j : ℕ) (d : Frame) → i < j → j < length frames
    → (get_or frames j d).slot + 4 ≤ (get_or frames i d).slot

-- no two threads have one number
abbrev pub AreApart : List Watched → Type 0
AreApart [] = Unit {0}
AreApart (w ∷ ws) = (list_any (is_of w.thread) ws ≡ false) × AreApart ws

-- the place of the thread of a number, where it is watched
abbrev pub IsPlace : ℕ → List Watched → Option ℕ → Type 0
IsPlace number threads None = list_any (is_of number) threads ≡ false
IsPlace number threads (Some at) = (at < length threads) × ((d : Watched) → is_of number (get_or threads at d) ≡ true)

-- the thread at a place
abbrev pub placed : List Watched → Option ℕ → Option Watched
placed threads None = None
placed threads (Some at) = slice_get threads at

-- the watched thread of a number, if any, has this stack
abbrev pub HasStack : ℕ → Range → List Watched → Type 0
HasStack number stack threads = All (λ watched. watched.thread ≡ number → watched.stack ≡ stack) threads

-- each slot of a thread is within the bounds of the slot rule, whatever it holds: a multiple of 4 at or above ESP and
-- inside the stack
abbrev pub is_in_place : Watched → Bool
is_in_place watched = list_all (λ (frame : Frame). is_slot watched.stack watched.esp frame.slot) watched.frames

abbrev pub AreInPlace : List Watched → Type 0
AreInPlace threads = All (λ watched. is_in_place watched ≡ true) threads

-- the frame that has a slot, if any, finds its address there
abbrev pub keeps_address : List Piece → ℕ → Watched → Bool
keeps_address pieces slot watched =
    list_all (λ (frame : Frame). not (frame.slot == slot) || holds_dword pieces frame.slot frame.address) watched.frames

-- all but the last slot of a thread lie in its stack, wherever its ESP is
abbrev pub is_based : Watched → Bool
is_based watched = list_all (λ (frame : Frame). is_slot watched.stack 0 frame.slot) (closed watched.frames)

-- the number of a thread that doesn't pass a test
abbrev pub number_unless : (Watched → Bool) → Option Watched → Option ℕ
number_unless test None = None
number_unless test (Some watched) = if test watched then None else Some watched.thread

-- the thread whose stack has an address
abbrev pub stacked_at : List Watched → ℕ → Option Watched
stacked_at threads address = find (λ watched. lies_in address (stack_of watched)) threads

-- What is known where the slot rule can be broken only by one thread, which is displaced where one of its slots is
-- outside the bounds, and by what was written.
pub record IsTouched (pieces : List Piece) (displaced : Option ℕ) (store : Option Store)
    (threads : List Watched) : Type 0 where
  pub number : ℕ
  pub own : displaced ≡ number_unless is_in_place (watched_at threads number)
  pub others : All (λ watched. is_of number watched ≡ false → is_in_place watched ≡ true) threads
  pub hold : HoldBut pieces threads store

-- once a rule was broken no threads are kept
abbrev pub StopsAt : Verdict → List Watched → Type 0
StopsAt Disciplined threads = Unit {0}
StopsAt (Broken event thread rule) threads = threads ≡ []

-- the address to which a started thread returns at last, as if it had just been written
abbrev pub first_store : Thread → Store
first_store thread = record { address = esp_of thread; width = Dword; value = 0xFFFF_0000 }
