use Rattle.ia32_decode.proofs.Jumps.{jump_decodes, jump_of_number}
use Rattle.ia32_decode.proofs.laws.jumps_decode.Goals as goal

pub returns-clause-bytes : goal.returns-clause-bytes
returns-clause-bytes c = jump_decodes

pub returns-clause-number : goal.returns-clause-number
returns-clause-number c = jump_of_number
