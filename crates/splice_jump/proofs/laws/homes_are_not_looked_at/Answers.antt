use Rattle.splice_jump.proofs.PhaseLaws.{not_looked_at}
use Rattle.splice_jump.proofs.laws.homes_are_not_looked_at.Goals as goal

pub returns : goal.returns
returns c contents home five valid spliced is = not_looked_at contents home five valid spliced is
