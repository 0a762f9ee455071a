-- What is made ready before functions are run, and what they leave.
use Rattle.std.specs.Prelude.{◌≡◌, ℕ, Some}
use Rattle.ks_base.specs.declared.places.Range.{Range}
use Rattle.ks_base.specs.declared.reports.HookRun.{HookRun}
use Rattle.update_plan.specs.declared.types.Hook.{Hook}
use Rattle.update_stack.specs.AbstractMachine.{AbstractMachine}
use Rattle.update_stack.specs.Aside.{LeavesAside}
use Rattle.update_stack.specs.Scratch.{unscratched}
use Rattle.update_stack.specs.Stacked.{IsBuilt}

-- a function that was not run yet
abbrev pub waiting : Hook → HookRun
waiting hook = record { function = hook.function; steps = 0 }

abbrev pub with_steps : ℕ → HookRun → HookRun
with_steps steps run = record run { steps = steps }

-- What is left of a machine where functions ran, the last of which failed, or none ran: it is as it was, or a scratch piece
-- came to it, on which threads that are none of its own made steps, and went again.
pub data LeavesRuns (k : AbstractMachine) : AbstractMachine → Type 0 where
  NoneRan : LeavesRuns k k
  SomeRan : (ready now : AbstractMachine) (range : Range) → IsBuilt ready → ready.scratch ≡ Some range
      → unscratched ready ≡ k → LeavesAside ready now → LeavesRuns k (unscratched now)
