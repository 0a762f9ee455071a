use Rattle.ia32_step.proofs.StoreLaws.{clear, all}
use Rattle.ia32_step.proofs.laws.steps_write_one_number.Goals as goal

pub returns-clause-clear : goal.returns-clause-clear
returns-clause-clear c contents thread = clear contents thread

pub returns-clause-all : goal.returns-clause-all
returns-clause-all c contents thread = all contents thread
