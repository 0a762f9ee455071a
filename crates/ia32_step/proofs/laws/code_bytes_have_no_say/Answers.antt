use Rattle.ia32_step.proofs.CodeLaws.{same_change, same_fault, same_left, same_instruction, code_written}
use Rattle.ia32_step.proofs.laws.code_bytes_have_no_say.Goals as goal

pub returns-clause-changes : goal.returns-clause-changes
returns-clause-changes c a b same context decoded = same_change a b same context decoded

pub returns-clause-faults : goal.returns-clause-faults
returns-clause-faults c a b same store = same_fault a b same store

pub returns-clause-left : goal.returns-clause-left
returns-clause-left c a b same thread change = same_left a b same thread change

pub returns-clause-instructions : goal.returns-clause-instructions
returns-clause-instructions c a b same thread decoded = same_instruction a b same thread decoded

pub returns-clause-written : goal.returns-clause-written
returns-clause-written c pieces start bytes placed code = code_written pieces start bytes placed code
