use Rattle.propagation.proofs.LeastLaws.{are_closed, are_least}
use Rattle.propagation.proofs.laws.sets_are_least.Goals as goal

pub returns-clause-closed : goal.returns-clause-closed
returns-clause-closed c = λ start rules all. are_closed rules all

pub returns-clause-least : goal.returns-clause-least
returns-clause-least c = λ start rules all excluded forced closed. are_least rules all excluded forced closed
