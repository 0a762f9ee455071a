-- Where an update is accepted or taken back, no thread and no frame of it is in the code that goes.
use Rattle.std.specs.Prelude.{◌≡◌, ℕ, IsTrue, IsFalse, List, Some, Ok}
use Rattle.std.specs.Option.{option_to_list}
use Rattle.std.specs.List.{flat_map, All}
use Rattle.ks_base.specs.declared.places.Range.{Range}
use Rattle.ia32_step.specs.declared.types.Frame.{Frame}
use Rattle.ia32_step.specs.declared.types.Thread.{Thread}
use Rattle.ia32_step.specs.Frames.{keeps_slot}
use Rattle.ia32_step.specs.Threads.{esp_of}
use Rattle.image_threads.specs.Program.{running_at}
use Rattle.stack_scan.specs.Standing.{in_one}
use Rattle.update_stack.specs.AbstractMachine.{AbstractMachine, Update}
use Rattle.update_stack.specs.Undo.{ranges_in, newest_update}
use Rattle.update_stack.specs.Stacked.{IsBuilt}
use Rattle.update_stack.specs.Events.{Event, Apply, Hooks, Happened, answered, update_taken}

-- the ranges that the newest update retired
abbrev pub newest_retired : AbstractMachine → List Range
newest_retired k = flat_map (λ update. update.retired) (option_to_list (newest_update k))

-- A thread with some frames is outside ranges: no frame's address lies in one, nor does its pc.
pub record IsOutside (ranges : List Range) (thread : Thread) (frames : List Frame) : Type 0 where
  pub addresses : All (λ frame. IsFalse (in_one ranges frame.address)) frames
  pub pc : IsFalse (in_one ranges thread.pc)

-- frames of a thread that keep the slot rule
abbrev pub KeepSlots : AbstractMachine → Thread → List Frame → Type 0
KeepSlots k thread frames = All (λ frame. IsTrue (keeps_slot k.pieces thread.stack (esp_of thread) frame)) frames

-- Where an update is accepted, each running thread with frames that keep the slot rule is outside the ranges that are
-- then retired.
abbrev pub AcceptedIsClear : Type 0
AcceptedIsClear =
    (k : AbstractMachine) (name pre post : List ℕ) (now : Happened) (number : ℕ) (thread : Thread) (frames : List Frame)
    → answered k (Apply name pre post) ≡ Ok now → running_at k.threads number ≡ Some thread → KeepSlots k thread frames
    → IsOutside (newest_retired now.machine) thread frames

-- And so where functions were run at it: they run once the threads were looked at, and move none of these.
abbrev pub HookedIsClear : Type 0
HookedIsClear =
    (k : AbstractMachine) (name pre post : List ℕ) (now : Happened) (number : ℕ) (thread : Thread) (frames : List Frame)
    → IsBuilt k → answered k (Hooks name pre post) ≡ Ok now → running_at k.threads number ≡ Some thread
    → KeepSlots k thread frames → IsOutside (newest_retired now.machine) thread frames

-- Where an update is taken back, it is outside the pieces that are then removed.
abbrev pub TakenBackIsClear : Type 0
TakenBackIsClear =
    (k : AbstractMachine) (event : Event) (update : Update) (now : Happened) (number : ℕ) (thread : Thread)
    (frames : List Frame)
    → update_taken k event ≡ Some update → answered k event ≡ Ok now → running_at k.threads number ≡ Some thread
    → KeepSlots k thread frames → IsOutside (ranges_in k update) thread frames
