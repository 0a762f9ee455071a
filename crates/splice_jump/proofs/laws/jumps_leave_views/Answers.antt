use Rattle.splice_jump.proofs.JumpLaws.{view_stays}
use Rattle.splice_jump.proofs.laws.jumps_leave_views.Goals as goal

pub returns : goal.returns
returns c contents rows pc valid spliced = view_stays contents rows pc valid spliced
