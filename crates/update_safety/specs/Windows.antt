-- What events leave of the windows: the addresses at which a thread meets code, or a home.
use Rattle.std.specs.Prelude.{◌≡◌, ℕ, ◌+◌, ◌≤◌, ◌<◌, Bool, IsTrue, IsFalse, List, Some, Ok}
use Rattle.ks_base.specs.declared.places.Range.{Range}
use Rattle.image_memory.specs.Fetch.{has_window}
use Rattle.stack_scan.specs.Standing.{in_one}
use Rattle.ia32_step.specs.declared.types.Thread.{Thread}
use Rattle.ia32_step.specs.Step.{fetched_count}
use Rattle.update_stack.specs.AbstractMachine.{AbstractMachine, Update, view_in, contents_of}
use Rattle.update_stack.specs.Stacked.{IsBuilt}
use Rattle.update_stack.specs.Undo.{ranges_in}
use Rattle.update_stack.specs.Events.{Event, Spawn, Step, Apply, Hooks, Happened, answered, update_taken}
use Rattle.update_safety.specs.Clear.{newest_retired}

abbrev pub window_in : AbstractMachine → ℕ → Bool
window_in k address = has_window (view_in k address)

-- the same addresses have a window
abbrev pub SameWindows : (old new : AbstractMachine) → Type 0
SameWindows old new = (address : ℕ) → window_in new address ≡ window_in old address

-- outside some ranges each address that had a window has one
abbrev pub KeepsWindows : List Range → (old new : AbstractMachine) → Type 0
KeepsWindows ranges old new =
    (address : ℕ) → IsFalse (in_one ranges address) → IsTrue (window_in old address) → IsTrue (window_in new address)

-- A start and a step change no window.
abbrev pub StartsKeepWindows : Type 0
StartsKeepWindows =
    (k : AbstractMachine) (name : List ℕ) (argument : ℕ) (now : Happened)
    → answered k (Spawn name argument) ≡ Ok now → SameWindows k now.machine

abbrev pub StepsKeepWindows : Type 0
StepsKeepWindows =
    (k : AbstractMachine) (thread : ℕ) (now : Happened) → answered k (Step thread) ≡ Ok now → SameWindows k now.machine

-- An update that is accepted takes windows away in the ranges that it retires alone, whether functions were run at it or
-- not, and one that is taken back in its pieces alone.
abbrev pub UpdatesKeepWindows : Type 0
UpdatesKeepWindows =
    (k : AbstractMachine) (name pre post : List ℕ) (now : Happened) → IsBuilt k
    → answered k (Apply name pre post) ≡ Ok now → KeepsWindows (newest_retired now.machine) k now.machine

abbrev pub HooksKeepWindows : Type 0
HooksKeepWindows =
    (k : AbstractMachine) (name pre post : List ℕ) (now : Happened) → IsBuilt k
    → answered k (Hooks name pre post) ≡ Ok now → KeepsWindows (newest_retired now.machine) k now.machine

abbrev pub UndosKeepWindows : Type 0
UndosKeepWindows =
    (k : AbstractMachine) (event : Event) (update : Update) (now : Happened) → IsBuilt k
    → update_taken k event ≡ Some update → answered k event ≡ Ok now
    → KeepsWindows (ranges_in k update) k now.machine

-- Where a step fetches more than the five bytes of a jump, they are code: each of their addresses has a window.
abbrev pub FetchedHaveWindows : Type 0
FetchedHaveWindows =
    (k : AbstractMachine) (thread : Thread) (address : ℕ) → IsBuilt k → 5 < fetched_count (contents_of k) thread
    → thread.pc ≤ address → address < thread.pc + fetched_count (contents_of k) thread → IsTrue (window_in k address)
