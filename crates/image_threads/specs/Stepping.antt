-- One step of one thread of a program, and a thread that is sent to another address.
use Rattle.std.specs.Prelude.{ℕ, set, Option, Some, None, Result, Ok, Err}
use Rattle.ks_base.specs.declared.refusals.Refusal.{Refusal}
use Rattle.ks_base.specs.declared.refusals.Refusal.TheVariants.{NoThread}
use Rattle.ia32_step.specs.declared.types.Thread.{Thread}
use Rattle.ia32_step.specs.declared.types.Flow.TheVariants.{Plain}
use Rattle.ia32_step.specs.declared.types.Outcome.{Outcome}
use Rattle.ia32_step.specs.declared.types.Outcome.TheVariants.{Moved}
use Rattle.ia32_step.specs.Step.{Left, stepped}
use Rattle.image_threads.specs.Program.{Program, running_at}

-- the program with what a thread's step leaves
abbrev pub continued : Program → ℕ → Left → Program
continued program n left =
    record program { contents = left.contents; threads = set program.threads n left.thread }

abbrev pub moved_by : Program → ℕ → Option Thread → Result (Program × Outcome) Refusal
moved_by program n None = Err (NoThread n)
moved_by program n (Some thread) =
    Ok (continued program n (stepped program.contents thread), (stepped program.contents thread).outcome)

-- the program after a step of the running thread of a number, and what the step came to; refused where no running
-- thread has the number
unfoldable pub moved : Program → ℕ → Result (Program × Outcome) Refusal
moved program n = moved_by program n (running_at program.threads n)

-- the program with the running thread of a number at an address, as after a plain step, and nothing else changed
abbrev pub sent_by : Program → (n pc : ℕ) → Option Thread → Result (Program × Outcome) Refusal
sent_by program n pc None = Err (NoThread n)
sent_by program n pc (Some thread) =
    Ok (record program { threads = set program.threads n (record thread { pc = pc }) }, Moved Plain)

unfoldable pub sent : Program → (n pc : ℕ) → Result (Program × Outcome) Refusal
sent program n pc = sent_by program n pc (running_at program.threads n)
