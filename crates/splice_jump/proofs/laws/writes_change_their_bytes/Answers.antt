use Rattle.std.proofs.Common.{refl}
use Rattle.splice_jump.proofs.laws.writes_change_their_bytes.Goals as goal

pub returns : goal.returns
returns c home base old = record { mark = refl; tail = refl; seal = refl }
