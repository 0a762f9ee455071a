use Rattle.splice_jump.proofs.DataLaws.{writes_past, writes_past_old}
use Rattle.splice_jump.proofs.laws.data_are_written_past_jumps.Goals as goal

pub returns-clause-jumps : goal.returns-clause-jumps
returns-clause-jumps c contents rows start bytes valid spliced good =
    writes_past contents rows start bytes valid spliced good

pub returns-clause-old : goal.returns-clause-old
returns-clause-old c contents home start old bytes valid code good =
    writes_past_old contents home start old bytes valid code good
