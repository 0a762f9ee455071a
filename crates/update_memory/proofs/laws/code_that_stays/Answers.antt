use Rattle.update_memory.proofs.WithdrawLaws.{code_left, bytes_left}
use Rattle.update_memory.proofs.laws.code_that_stays.Goals as goal

pub returns-clause-code : goal.returns-clause-code
returns-clause-code c contents bases address count valid code = code_left contents bases address count valid code

pub returns-clause-bytes : goal.returns-clause-bytes
returns-clause-bytes c contents bases address count valid code = bytes_left contents bases address count valid code
