use Rattle.splice_jump.proofs.PhaseLaws.{never_half}
use Rattle.splice_jump.proofs.laws.jump_is_never_half.Goals as goal

pub returns : goal.returns
returns c phase home base old = never_half phase home base old
