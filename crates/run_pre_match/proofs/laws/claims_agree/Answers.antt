use Rattle.run_pre_match.proofs.Claims.{claims_agree, home_first_claim}
use Rattle.run_pre_match.proofs.laws.claims_agree.Goals as goal

pub returns-clause-agree : goal.returns-clause-agree
returns-clause-agree c = claims_agree

pub returns-clause-home : goal.returns-clause-home
returns-clause-home c = home_first_claim
