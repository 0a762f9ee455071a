use Rattle.run_pre_match.proofs.Told.{claims_agreed, interiors_agreed}
use Rattle.run_pre_match.proofs.Valuations.{comes}
use Rattle.run_pre_match.proofs.laws.agreeing_values_match.Goals as goal

pub returns-clause-comes : goal.returns-clause-comes
returns-clause-comes c = comes

pub returns-clause-says : goal.returns-clause-says
returns-clause-says c = claims_agreed

pub returns-clause-interiors : goal.returns-clause-interiors
returns-clause-interiors c = interiors_agreed
