use Rattle.ia32_step.proofs.Keeping.{keeps}
use Rattle.ia32_step.proofs.laws.steps_keep.Goals as goal

pub returns-clause-number : goal.returns-clause-number
returns-clause-number c contents thread = (keeps contents thread).number

pub returns-clause-stack : goal.returns-clause-stack
returns-clause-stack c contents thread = (keeps contents thread).stack

pub returns-clause-fences : goal.returns-clause-fences
returns-clause-fences c contents thread = (keeps contents thread).fences

pub returns-clause-shapes : goal.returns-clause-shapes
returns-clause-shapes c contents thread = (keeps contents thread).shapes
