-- The three writes of an update among the events of the machine, in any order: whatever comes between them, the machine
-- has made the update as a whole at the first, and no thread meets code that it replaced.
use Rattle.std.specs.Prelude.{◌≡◌, ℕ, IsTrue, IfSome, List, [], ◌∷◌, ◌++◌, Option, None, Result, Ok, Err}
use Rattle.std.specs.List.{fold, list_any}
use Rattle.ks_base.specs.declared.refusals.Refusal.{Refusal}
use Rattle.ks_base.specs.declared.reports.Report.{Report}
use Rattle.image_file.specs.Fields.{◌>>=◌}
use Rattle.image_file.specs.Reading.{Contents as Image, image_of}
use Rattle.image_memory.specs.Ranges.{lies_in}
use Rattle.image_memory.specs.Fetch.{bytes_met, view_at}
use Rattle.splice_jump.specs.declared.phase.Phase.TheVariants.{Done}
use Rattle.splice_jump.specs.Phases.{open_home}
use Rattle.update_plan.specs.Plan.{unless}
use Rattle.update_stack.specs.AbstractMachine.{AbstractMachine, first_machine}
use Rattle.update_stack.specs.Apply.{retired_of}
use Rattle.update_stack.specs.Phases.{Phased, phased, patched_in}
use Rattle.update_stack.specs.Stacked.{IsBuilt}
use Rattle.update_stack.specs.Events.{Event, Spawn, Step, Apply, Hooks, Undo, UndoNamed, answered, after_events}
use Rattle.live_poke.specs.Poke.{open_refusal, marked, tailed, sealed, OpensOne}

-- an event of the machine, or one of the three writes of an update
pub data LiveEvent : Type 0 where
  Whole : (event : Event) → LiveEvent
  Mark : (name pre post : List ℕ) → LiveEvent
  Tail : LiveEvent
  Seal : LiveEvent

-- the refusal of an event while an update is open: only threads start and step then
abbrev pub whole_refusal : Phased → Event → Option Refusal
whole_refusal live (Spawn name argument) = None
whole_refusal live (Step thread) = None
whole_refusal live (Apply name pre post) = open_refusal live
whole_refusal live (Hooks name pre post) = open_refusal live
whole_refusal live Undo = open_refusal live
whole_refusal live (UndoNamed name) = open_refusal live

abbrev pub whole_made : Phased → Event → Result Phased Refusal
whole_made live event = do
  closed ← unless (whole_refusal live event) live
  now ← answered closed.machine event
  Ok (record closed { machine = now.machine })

abbrev pub mark_made : Result (Phased × Report) Refusal → Result Phased Refusal
mark_made (Err refusal) = Err refusal
mark_made (Ok left) = Ok left.0

-- the system after an event
unfoldable pub made : Phased → LiveEvent → Result Phased Refusal
made live (Whole event) = whole_made live event
made live (Mark name pre post) = mark_made (marked live name pre post)
made live Tail = tailed live
made live Seal = sealed live

-- what is refused changes nothing
abbrev pub kept_by : Phased → Result Phased Refusal → Phased
kept_by live (Err refusal) = live
kept_by live (Ok now) = now

abbrev pub live_after : Phased → LiveEvent → Phased
live_after live event = kept_by live (made live event)

unfoldable pub live_after_all : Phased → List LiveEvent → Phased
live_after_all live events = fold live_after live events

-- the machine's event that it is: none at the second and third write
abbrev pub event_of : LiveEvent → List Event
event_of (Whole event) = event ∷ []
event_of (Mark name pre post) = Apply name pre post ∷ []
event_of Tail = []
event_of Seal = []

abbrev pub events_by : LiveEvent → Result Phased Refusal → List Event
events_by event (Err refusal) = []
events_by event (Ok now) = event_of event

-- the machine's events along a list, in order
unfoldable pub machine_events : Phased → List LiveEvent → List Event
machine_events live [] = []
machine_events live (event ∷ events) =
    events_by event (made live event) ++ machine_events (live_after live event) events

-- In whatever order the writes, threads and other events come, the machine is that after its own events, each update
-- made as a whole at its first write.
abbrev pub MachineGoesOn : Type 0
MachineGoesOn =
    (live : Phased) (events : List LiveEvent)
    → (live_after_all live events).machine ≡ after_events live.machine (machine_events live events)

abbrev pub first_live : Image → Phased
first_live image = phased (first_machine image) Done

-- an address that a live update retired
abbrev pub IsReplaced : AbstractMachine → ℕ → Type 0
IsReplaced k address = IsTrue (list_any (lies_in address) (retired_of k))

-- What holds of the system at every moment: the machine's updates lie each on what was there without it; a home that is
-- open is that of the one function that the newest update replaced, while it added and dropped none; and in the system's
-- memory, with the five bytes of its phase, no thread meets code that a live update replaced.
pub record IsLive (live : Phased) : Type 0 where
  pub built : IsBuilt live.machine
  pub opened : IfSome (open_home live.phase) (OpensOne live.machine)
  pub replaced : (address : ℕ) → IsReplaced live.machine address
      → bytes_met (view_at (patched_in live.phase live.machine) address) ≡ None

abbrev pub AlwaysLive : Type 0
AlwaysLive =
    (file : List ℕ) (image : Image) (events : List LiveEvent)
    → image_of file ≡ Ok image → IsLive (live_after_all (first_live image) events)
