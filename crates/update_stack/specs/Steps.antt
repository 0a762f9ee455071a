-- A thread's start and its step, on the abstract machine.
use Rattle.std.specs.Prelude.{ℕ, ◌==◌, if◌then◌else◌, List, set, Option, Some, None, Result, Ok, Err}
use Rattle.ks_base.specs.declared.refusals.Fault.TheVariants as faults
use Rattle.ks_base.specs.declared.refusals.Refusal.{Refusal}
use Rattle.ks_base.specs.declared.refusals.Refusal.TheVariants.{NoThread}
use Rattle.image_memory.specs.Contents.{Contents}
use Rattle.image_memory.specs.Fetch.{View, Unmapped, AtHome, Stray, Bytes}
use Rattle.ia32_decode.specs.Decode.{decoded_from}
use Rattle.ia32_step.specs.declared.types.Thread.{Thread}
use Rattle.ia32_step.specs.declared.types.Flow.TheVariants.{Plain}
use Rattle.ia32_step.specs.declared.types.Outcome.{Outcome}
use Rattle.ia32_step.specs.declared.types.Outcome.TheVariants.{Moved}
use Rattle.ia32_step.specs.Step.{Left, left_by, context_of, stops, exits, done, change_by}
use Rattle.image_threads.specs.Program.{running_at}
use Rattle.image_threads.specs.Spawning.{Started, started}
use Rattle.update_stack.specs.AbstractMachine.{AbstractMachine, contents_of, view_in, base_of}

-- A thread's step at what it meets. At a home it goes on at the newest version, and nothing else changes; there no
-- byte is fetched.
abbrev pub step_at : Contents → Thread → ℕ → View → Left
step_at contents thread base Unmapped = stops contents thread faults.Unmapped
step_at contents thread base AtHome = left_by contents (record thread { pc = base }) (Moved Plain)
step_at contents thread base Stray = stops contents thread faults.Stray
step_at contents thread base (Bytes code) =
    done contents thread (change_by contents.pieces (context_of thread) (decoded_from code))

-- one step of a running thread; at 0xFFFF0000, to which the function returns that it was started at, it ends
unfoldable pub step_in : AbstractMachine → Thread → Left
step_in k thread =
    if thread.pc == 0xFFFF_0000 then exits (contents_of k) thread
    else step_at (contents_of k) thread (base_of k thread.pc) (view_in k thread.pc)

abbrev pub after_step : AbstractMachine → ℕ → Left → AbstractMachine
after_step k number left = record k { pieces = left.contents.pieces; threads = set k.threads number left.thread }

-- the machine after a step of the running thread of a number, and what the step came to
abbrev pub moved_by : AbstractMachine → ℕ → Option Thread → Result (AbstractMachine × Outcome) Refusal
moved_by k number None = Err (NoThread number)
moved_by k number (Some thread) = Ok (after_step k number (step_in k thread), (step_in k thread).outcome)

unfoldable pub moved : AbstractMachine → ℕ → Result (AbstractMachine × Outcome) Refusal
moved k number = moved_by k number (running_at k.threads number)

abbrev pub after_start : AbstractMachine → Result Started Refusal → Result AbstractMachine Refusal
after_start k (Err refusal) = Err refusal
after_start k (Ok after) = Ok (record k { pieces = after.pieces; threads = after.threads })

-- the machine after a thread was started at the function of a name, or why none is
unfoldable pub spawned : AbstractMachine → List ℕ → (argument : ℕ) → Result AbstractMachine Refusal
spawned k name argument = after_start k (started k.symbols k.pieces k.stacks k.threads name argument)
