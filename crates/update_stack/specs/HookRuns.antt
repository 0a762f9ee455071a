-- The run of a function on the scratch piece: until it returns, stops, or has made as many steps as it may.
use Rattle.std.specs.Prelude.{ℕ, zero, suc, ◌+◌, List, [], ◌∷◌, ◌++◌, Result, Ok, Err}
use Rattle.ks_base.specs.declared.places.Range.{Range}
use Rattle.ks_base.specs.declared.refusals.Refusal.{Refusal}
use Rattle.ks_base.specs.declared.refusals.Refusal.TheVariants.{HookFault, HookBudget}
use Rattle.ks_base.specs.declared.reports.HookRun.{HookRun}
use Rattle.image_file.specs.Fields.{◌>>=◌}
use Rattle.image_memory.specs.declared.types.Kind.TheVariants.{Writable}
use Rattle.image_memory.specs.declared.types.Piece.{Piece}
use Rattle.image_memory.specs.Ranges.{from_to}
use Rattle.ia32_step.specs.declared.types.Thread.{Thread}
use Rattle.ia32_step.specs.declared.types.State.{State}
use Rattle.ia32_step.specs.declared.types.State.TheVariants.{Running, Exited, Stopped}
use Rattle.ia32_step.specs.Step.{Left}
use Rattle.image_threads.specs.Spawning.{first_bytes, first_thread}
use Rattle.update_plan.specs.declared.types.Hook.{Hook}
use Rattle.update_stack.specs.declared.updates.HookEnd.{HookEnd}
use Rattle.update_stack.specs.declared.updates.HookEnd.TheVariants.{Returned, Faulted, Unreturned}
use Rattle.update_stack.specs.AbstractMachine.{AbstractMachine}
use Rattle.update_stack.specs.PutBack.{with_saved}
use Rattle.update_stack.specs.Scratch.{scratch_size, scratched, unscratched, after_aside}
use Rattle.update_stack.specs.Steps.{step_in}

-- so many steps a function may make, the one that ends it among them
unfoldable pub hook_budget : ℕ
hook_budget = 1000000

-- the scratch piece at a base
abbrev pub scratch_range : ℕ → Range
scratch_range base = from_to base (base + scratch_size)

-- A run begins as a thread does that is started with the argument 0, on the scratch piece: the bytes of that are set anew.
abbrev pub fresh_piece : Range → Piece
fresh_piece stack = record { kind = Writable; base = stack.low; bytes = first_bytes stack 0 }

abbrev pub begun_aside : AbstractMachine → ℕ → AbstractMachine
begun_aside k base = with_saved k (fresh_piece (scratch_range base) ∷ [])

-- its thread's number has no say
abbrev pub aside_thread : (base pc : ℕ) → Thread
aside_thread base pc = first_thread 0 (scratch_range base) pc

-- the machine after it, and how it ended
pub record HookLeft : Type 0 where
  pub machine : AbstractMachine
  pub end : HookEnd

abbrev pub hook_left : AbstractMachine → HookEnd → HookLeft
hook_left k end = record { machine = k; end = end }

-- after so many steps: what is left where the thread runs on and more may follow; where it has ended; where it has stopped
abbrev pub gone_on : (AbstractMachine → Thread → HookLeft) → (made : ℕ) → AbstractMachine → Thread → State → HookLeft
gone_on rest made k thread Running = rest k thread
gone_on rest made k thread (Exited value) = hook_left k (Returned made)
gone_on rest made k thread (Stopped fault) = hook_left k (Faulted fault thread.pc)

abbrev pub after_one : (AbstractMachine → Thread → HookLeft) → (made : ℕ) → AbstractMachine → Left → HookLeft
after_one rest made k left = gone_on rest made (after_aside k left) left.thread left.thread.state

-- at most `left` steps of a thread that has made so many
unfoldable pub hook_steps : (made left : ℕ) → AbstractMachine → Thread → HookLeft
hook_steps made zero k thread = hook_left k Unreturned
hook_steps made (suc left) k thread = after_one (hook_steps (made + 1) left) (made + 1) k (step_in k thread)

-- the run of a function on the scratch piece at a base
unfoldable pub hook_run : AbstractMachine → (base address : ℕ) → HookLeft
hook_run k base address = hook_steps 0 hook_budget (begun_aside k base) (aside_thread base address)

-- what is left of runs: the machine, and each run
abbrev pub Ran : Type 0
Ran = AbstractMachine × List HookRun

abbrev pub after_hook : (AbstractMachine → List HookRun → Result Ran Refusal) → Hook → List HookRun
    → AbstractMachine → HookEnd → Result Ran Refusal
after_hook rest hook runs k (Returned steps) =
    rest k (runs ++ record { function = hook.function; steps = steps } ∷ [])
after_hook rest hook runs k (Faulted fault pc) = Err (HookFault hook.function fault pc)
after_hook rest hook runs k Unreturned = Err (HookBudget hook.function)

abbrev pub after_run : (AbstractMachine → List HookRun → Result Ran Refusal) → Hook → List HookRun → HookLeft
    → Result Ran Refusal
after_run rest hook runs left = after_hook rest hook runs left.machine left.end

-- the machine after functions were run one after another, and their runs behind those before; or the first that failed
unfoldable pub all_run : List Hook → (base : ℕ) → AbstractMachine → List HookRun → Result Ran Refusal
all_run [] base k runs = Ok (k, runs)
all_run (hook ∷ hooks) base k runs = after_run (all_run hooks base) hook runs (hook_run k base hook.address)

-- Functions are run one after another on a scratch piece, which is gone afterwards: the machine then, and the runs. It is
-- refused where that has no place, or by the first function that stops or doesn't return.
unfoldable pub ran_aside : List Hook → AbstractMachine → Result Ran Refusal
ran_aside hooks k = do
  ready ← scratched k
  ran ← all_run hooks ready.1 ready.0 []
  Ok (unscratched ran.0, ran.1)
