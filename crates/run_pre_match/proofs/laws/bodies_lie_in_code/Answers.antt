use Rattle.run_pre_match.proofs.Lengths.{kept_where_decoded, matched_ends}
use Rattle.run_pre_match.proofs.laws.bodies_lie_in_code.Goals as goal

pub returns-clause-kept : goal.returns-clause-kept
returns-clause-kept c = kept_where_decoded

pub returns-clause-some : goal.returns-clause-some
returns-clause-some c = λ candidate m valid some is.
    (matched_ends c.run_code_goes_on.ensures.ends candidate m valid some is).0

pub returns-clause-low : goal.returns-clause-low
returns-clause-low c = λ candidate m valid some is.
    (matched_ends c.run_code_goes_on.ensures.ends candidate m valid some is).1
