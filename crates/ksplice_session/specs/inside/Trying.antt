-- The tries of an update.
use Rattle.std.specs.Prelude.{◌≡◌, ◌≢◌, ℕ, ◌-◌, List, true, false, Result, Ok, Err}
use Rattle.std.specs.declared.alloc.AllocError.{AllocError}
use Rattle.ks_base.specs.declared.refusals.Refusal.{Refusal}
use Rattle.ks_base.specs.declared.refusals.Refusal.TheVariants.{Memory}
use Rattle.ks_base.specs.declared.reports.Report.{Report}
use Rattle.ks_base.specs.Refusals.{refusal_line}
use Rattle.update_stack.specs.PlanType.{Plan}
use Rattle.update_stack.specs.Plan.{unless}
use Rattle.update_stack.specs.Standing.{thread_refusal}
use Rattle.update_stack.specs.AbstractMachine.{AbstractMachine}
use Rattle.update_stack.specs.Apply.{planned_in}
use Rattle.ksplice_session.specs.declared.types.Answer.{Answer}
use Rattle.ksplice_session.specs.declared.types.Trial.{Trial as Shown}
use Rattle.ksplice_session.specs.Lines.{applied_lines}
use Rattle.ksplice_session.specs.Watching.{Watched}
use Rattle.ksplice_session.specs.Replies.{Trial, applied_by, try_told, tried}
use Rattle.ksplice_session.specs.Answers.{Answers}

-- an update that a line tries to make, with what its parts point to
abbrev pub trial_of : Shown → Trial
trial_of trial = record { name = trial.name.now; pre = trial.pre.now; post = trial.post.now }

abbrev pub done : List ℕ → Answer
done line = record { line = line; refused = false }

abbrev pub not_done : List ℕ → Answer
not_done line = record { line = line; refused = true }

-- the answer to a try of a number, by what came of it; there is none where memory ran out
abbrev pub IsTryAnswer : List ℕ → ℕ → Result Report Refusal → Answer → Type 0
IsTryAnswer name try (Ok report) answer = answer ≡ done (applied_lines name try report)
IsTryAnswer name try (Err refusal) answer = (answer ≡ not_done (refusal_line refusal)) × (refusal ≢ Memory)

-- the plan of an update in a machine, or why there is none
abbrev pub plan_for : AbstractMachine → Trial → Result Plan Refusal
plan_for k trial = planned_in k trial.name trial.pre trial.post

-- what was planned, unless a thread stands in its way
abbrev pub checked : AbstractMachine → Result Plan Refusal → Result Plan Refusal
checked k (Err refusal) = Err refusal
checked k (Ok plan) = unless (thread_refusal k.pieces plan.guarded k.threads) plan

-- Tries that were put off, up to the one of a number: the plan is the same then, and whatever this try comes to, they all
-- come to.
pub record Waited (trial : Trial) (planned : Result Plan Refusal) (gap tries : ℕ) (s now : Watched) (number : ℕ)
    : Type 0 where
  pub plan : plan_for now.machine trial ≡ planned
  pub comes : (final : Watched) (r : Result Answer AllocError)
      → Answers now (try_told trial number (applied_by now.machine trial)) final r
      → Answers s (tried trial gap 1 (tries - 1) s.machine) final r
