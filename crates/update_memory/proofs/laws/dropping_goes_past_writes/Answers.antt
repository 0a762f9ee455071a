use Rattle.update_memory.proofs.WithdrawLaws.{dropped_past_written, dropped_past_jumps, dropped_past_olds}
use Rattle.update_memory.proofs.laws.dropping_goes_past_writes.Goals as goal

pub returns-clause-written : goal.returns-clause-written
returns-clause-written c bases start bytes pieces = dropped_past_written bases start bytes pieces

pub returns-clause-jumped : goal.returns-clause-jumped
returns-clause-jumped c bases rows pieces = dropped_past_jumps bases rows pieces

pub returns-clause-unjumped : goal.returns-clause-unjumped
returns-clause-unjumped c bases olds pieces = dropped_past_olds bases olds pieces
