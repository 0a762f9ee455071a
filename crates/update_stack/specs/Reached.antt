-- That the new code of a replaced function is reached: a thread that comes to the function's home goes on there.
use Rattle.std.specs.Prelude.{◌≡◌, ℕ, List}
use Rattle.std.specs.List.{All, Contains}
use Rattle.ks_base.specs.declared.reports.Report.{Report}
use Rattle.ks_base.specs.declared.reports.Replaced.{Replaced}
use Rattle.image_memory.specs.declared.types.Kind.TheVariants.{Code}
use Rattle.image_memory.specs.declared.types.Piece.{Piece}
use Rattle.image_memory.specs.Fetch.{AtHome, Bytes, window_of}
use Rattle.ia32_step.specs.declared.types.Thread.{Thread}
use Rattle.ia32_step.specs.declared.types.Flow.TheVariants.{Plain}
use Rattle.ia32_step.specs.declared.types.Outcome.TheVariants.{Moved}
use Rattle.ia32_step.specs.Step.{left_by}
use Rattle.update_plan.specs.Addresses.{AreSteps}
use Rattle.update_plan.specs.NewCode.{HasNewCode, linked_code}
use Rattle.update_stack.specs.AbstractMachine.{AbstractMachine, contents_of, view_in, base_of}
use Rattle.update_stack.specs.Steps.{step_in}
use Rattle.update_stack.specs.Apply.{running_of, gaps_of}

-- A home leads to a piece of code. A thread that comes to the home goes on at its newest base, where the piece begins,
-- in one step that changes nothing else. There it meets the piece's bytes: at most 15, which end at the piece's end and
-- before the next retired range.
pub record LeadsTo (k : AbstractMachine) (home : ℕ) (piece : Piece) : Type 0 where
  pub met : view_in k home ≡ AtHome
  pub newest : base_of k home ≡ piece.base
  pub step : (thread : Thread) → thread.pc ≡ home
      → step_in k thread ≡ left_by (contents_of k) (record thread { pc = piece.base }) (Moved Plain)
  pub stands : Contains k.pieces piece
  pub code : piece.kind ≡ Code
  pub arrives : view_in k piece.base ≡ Bytes (window_of k.retired piece.base piece.bytes)

-- A function that an update of k replaces has its new code in the machine now, and its home leads there.
pub record IsReached (k : AbstractMachine) (pre_file post_file : List ℕ)
    (steps : AreSteps (running_of k) (gaps_of k) pre_file post_file) (now : AbstractMachine) (replaced : Replaced)
    : Type 0 where
  pub code : HasNewCode (running_of k) (gaps_of k) pre_file post_file steps now.pieces replaced
  pub leads : LeadsTo now replaced.home
      (linked_code steps.post steps.placement steps.values code.new.name replaced.base)

-- So it is of each function that a report says is replaced, by the steps of the update's plan.
pub record AreReached (k : AbstractMachine) (pre_file post_file : List ℕ) (now : AbstractMachine) (report : Report)
    : Type 0 where
  pub steps : AreSteps (running_of k) (gaps_of k) pre_file post_file
  pub each : All (IsReached k pre_file post_file steps now) report.replaced
