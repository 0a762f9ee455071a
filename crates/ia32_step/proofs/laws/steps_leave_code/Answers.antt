use Rattle.ia32_step.proofs.CodeLaws.{step_keeps, done_keeps}
use Rattle.ia32_step.proofs.laws.steps_leave_code.Goals as goal

pub returns-clause-steps : goal.returns-clause-steps
returns-clause-steps c contents thread placed = step_keeps contents thread placed

pub returns-clause-changes : goal.returns-clause-changes
returns-clause-changes c contents thread change placed = done_keeps contents thread change placed
