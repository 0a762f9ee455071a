use Rattle.splice_jump.specs.laws.PhaseLaws.{last_stands}
use Rattle.splice_jump.proofs.laws.last_bytes_stand.Goals as goal

pub returns : goal.returns
returns c pieces home one other same = last_stands pieces home one other same
