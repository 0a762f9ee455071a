use Rattle.run_pre_match.proofs.Told.{matched_under, said_under}
use Rattle.run_pre_match.proofs.Valuations.{match_agrees, comes, one_valuation}
use Rattle.run_pre_match.proofs.laws.matches_have_one_valuation.Goals as goal

pub returns-clause-some : goal.returns-clause-some
returns-clause-some c = matched_under

pub returns-clause-comes : goal.returns-clause-comes
returns-clause-comes c = λ candidate v match. comes candidate v (match_agrees candidate v match)

pub returns-clause-one : goal.returns-clause-one
returns-clause-one c = one_valuation

pub returns-clause-says : goal.returns-clause-says
returns-clause-says c = said_under
