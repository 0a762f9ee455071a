use Rattle.update_memory.proofs.WithdrawLaws.{valid_left}
use Rattle.update_memory.proofs.laws.memory_stays_memory.Goals as goal

pub returns : goal.returns
returns c contents bases taken valid = valid_left contents bases taken valid
