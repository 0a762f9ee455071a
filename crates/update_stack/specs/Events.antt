-- The events of the machine: what each answers, and what lists of them leave.
use Rattle.std.specs.Prelude.{ℕ, List, length, Option, None, Result, Ok, Err}
use Rattle.std.specs.List.{fold, AllByRecursion}
use Rattle.ks_base.specs.declared.refusals.Refusal.{Refusal}
use Rattle.ks_base.specs.declared.reports.Report.{Report}
use Rattle.ks_base.specs.declared.reports.HookReport.{HookReport}
use Rattle.ia32_step.specs.declared.types.Outcome.{Outcome}
use Rattle.update_stack.specs.AbstractMachine.{AbstractMachine, Update}
use Rattle.update_stack.specs.Steps.{moved, spawned}
use Rattle.update_stack.specs.Apply.{applied}
use Rattle.update_stack.specs.Hooks.{hooked}
use Rattle.update_stack.specs.Undo.{newest_update, named, undone, undone_named}

-- One event: a thread is started, a thread makes one step, an update is made as a whole, with the functions run that its
-- new object lists or without, or one is taken back as a whole, the newest or that of a name. What is refused changes
-- nothing.
pub data Event : Type 0 where
  Spawn : (name : List ℕ) (argument : ℕ) → Event
  Step : (thread : ℕ) → Event
  Apply : (name pre post : List ℕ) → Event
  Hooks : (name pre post : List ℕ) → Event
  Undo : Event
  UndoNamed : (name : List ℕ) → Event

-- whether each event of a list is a step of a thread
abbrev pub IsStep : Event → Type 0
IsStep (Step thread) = Unit {0}
IsStep other = ⊥

abbrev pub AreSteps : List Event → Type 0
AreSteps events = AllByRecursion IsStep events

-- what an event answers
pub data Answer : Type 0 where
  -- the thread's number
  Spawned : (thread : ℕ) → Answer
  Stepped : (outcome : Outcome) → Answer
  Applied : (report : Report) → Answer
  -- with the functions that were run
  Hooked : (done : HookReport) → Answer
  -- the name of the update that was taken back
  Undone : (name : List ℕ) → Answer

-- the machine after an event, and its answer
pub record Happened : Type 0 where
  pub machine : AbstractMachine
  pub answer : Answer

abbrev pub happened : AbstractMachine → Answer → Happened
happened k answer = record { machine = k; answer = answer }

-- the thread that was started is the last
abbrev pub spawn_answered : ℕ → Result AbstractMachine Refusal → Result Happened Refusal
spawn_answered number (Err refusal) = Err refusal
spawn_answered number (Ok now) = Ok (happened now (Spawned number))

abbrev pub step_answered : Result (AbstractMachine × Outcome) Refusal → Result Happened Refusal
step_answered (Err refusal) = Err refusal
step_answered (Ok left) = Ok (happened left.0 (Stepped left.1))

abbrev pub apply_answered : Result (AbstractMachine × Report) Refusal → Result Happened Refusal
apply_answered (Err refusal) = Err refusal
apply_answered (Ok left) = Ok (happened left.0 (Applied left.1))

abbrev pub hooks_answered : Result (AbstractMachine × HookReport) Refusal → Result Happened Refusal
hooks_answered (Err refusal) = Err refusal
hooks_answered (Ok left) = Ok (happened left.0 (Hooked left.1))

abbrev pub undo_answered : Result (AbstractMachine × List ℕ) Refusal → Result Happened Refusal
undo_answered (Err refusal) = Err refusal
undo_answered (Ok left) = Ok (happened left.0 (Undone left.1))

unfoldable pub answered : AbstractMachine → Event → Result Happened Refusal
answered k (Spawn name argument) = spawn_answered (length k.threads) (spawned k name argument)
answered k (Step thread) = step_answered (moved k thread)
answered k (Apply name pre post) = apply_answered (applied k name pre post)
answered k (Hooks name pre post) = hooks_answered (hooked k name pre post)
answered k Undo = undo_answered (undone k)
answered k (UndoNamed name) = undo_answered (undone_named k name)

-- the update that an event takes back, if it is accepted
abbrev pub update_taken : AbstractMachine → Event → Option Update
update_taken k Undo = newest_update k
update_taken k (UndoNamed name) = named k name
update_taken k other = None

abbrev pub machine_after : AbstractMachine → Result Happened Refusal → AbstractMachine
machine_after k (Err refusal) = k
machine_after k (Ok now) = now.machine

unfoldable pub after_event : AbstractMachine → Event → AbstractMachine
after_event k event = machine_after k (answered k event)

-- the machine after a list of events
unfoldable pub after_events : AbstractMachine → List Event → AbstractMachine
after_events k events = fold after_event k events
