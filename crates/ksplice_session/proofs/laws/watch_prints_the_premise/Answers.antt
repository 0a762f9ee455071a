use Rattle.ksplice_session.proofs.PremiseLaws.{tells_discipline}
use Rattle.ksplice_session.proofs.laws.watch_prints_the_premise.Goals as goal

pub returns : goal.returns
returns c = λ k before held. tells_discipline k before held
