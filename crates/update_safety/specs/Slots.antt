-- What an update that is accepted, and one that is taken back, leaves of the stacks and the threads.
use Rattle.std.specs.Prelude.{◌≡◌, ℕ, IsTrue, List, Some, Ok}
use Rattle.std.specs.List.{Contains}
use Rattle.ks_base.specs.declared.places.Range.{Range}
use Rattle.ia32_step.specs.declared.types.Frame.{Frame}
use Rattle.ia32_step.specs.Frames.{keeps_slot}
use Rattle.update_stack.specs.AbstractMachine.{AbstractMachine, Update}
use Rattle.update_stack.specs.Stacked.{IsBuilt}
use Rattle.update_stack.specs.Events.{Event, Apply, Hooks, Happened, answered, update_taken}

-- the slots in a machine's stacks keep what they hold
abbrev pub KeepsSlots : (old new : AbstractMachine) → Type 0
KeepsSlots old new =
    (stack : Range) (esp : ℕ) (frame : Frame) → Contains old.stacks stack
    → IsTrue (keeps_slot old.pieces stack esp frame) → IsTrue (keeps_slot new.pieces stack esp frame)

-- the same threads, and the same stacks
pub record SameThreads (old new : AbstractMachine) : Type 0 where
  pub threads : new.threads ≡ old.threads
  pub stacks : new.stacks ≡ old.stacks

-- Where an update is accepted, or taken back, slots keep what they hold.
abbrev pub UpdatesKeepSlots : Type 0
UpdatesKeepSlots =
    (k : AbstractMachine) (name pre post : List ℕ) (now : Happened) → IsBuilt k → IsBuilt now.machine
    → answered k (Apply name pre post) ≡ Ok now → KeepsSlots k now.machine

abbrev pub UndosKeepSlots : Type 0
UndosKeepSlots =
    (k : AbstractMachine) (event : Event) (update : Update) (now : Happened) → IsBuilt k → IsBuilt now.machine
    → update_taken k event ≡ Some update → answered k event ≡ Ok now → KeepsSlots k now.machine

-- And no thread and no stack changes.
abbrev pub UpdatesKeepThreads : Type 0
UpdatesKeepThreads =
    (k : AbstractMachine) (name pre post : List ℕ) (now : Happened)
    → answered k (Apply name pre post) ≡ Ok now → SameThreads k now.machine

-- An update at which functions were run changes no thread and no stack either, but may have written any slot.
abbrev pub HooksKeepThreads : Type 0
HooksKeepThreads =
    (k : AbstractMachine) (name pre post : List ℕ) (now : Happened) → IsBuilt k
    → answered k (Hooks name pre post) ≡ Ok now → SameThreads k now.machine

abbrev pub UndosKeepThreads : Type 0
UndosKeepThreads =
    (k : AbstractMachine) (event : Event) (update : Update) (now : Happened)
    → update_taken k event ≡ Some update → answered k event ≡ Ok now → SameThreads k now.machine
