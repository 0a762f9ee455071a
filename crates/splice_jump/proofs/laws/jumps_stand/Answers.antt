use Rattle.splice_jump.proofs.JumpLaws.{jump_stands}
use Rattle.splice_jump.proofs.laws.jumps_stand.Goals as goal

pub returns : goal.returns
returns c contents rows valid spliced = jump_stands contents rows valid spliced
