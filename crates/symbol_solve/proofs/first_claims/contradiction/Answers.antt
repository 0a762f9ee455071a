use Rattle.std.proofs.Common.{◌∙◌, None, Some}
use Rattle.symbol_solve.proofs.FirstClaims.{found_first, same_value, other_value}
use Rattle.symbol_solve.proofs.first_claims.contradiction.Goals as goal

pub returns-in_default : goal.returns-in_default
returns-in_default c = λ claims are one.
    found_first c.args.first.now.entries
    claims c.args.claim.now c.in_ok-unknown.unknown None c.in_ok-unknown.ensures c.in_default.ensures.value are one

pub returns-then-other-claim : goal.returns-then-other-claim
returns-then-other-claim c = λ claims are one.
    same_value c.args.claim.now c.in-Some.other.now.now c.if-other-claim.true
    ∙ found_first c.args.first.now.entries claims c.args.claim.now c.in_ok-unknown.unknown
    (Some c.in-Some.other.now) c.in_ok-unknown.ensures c.in-Some.ensures.value are one

pub returns : goal.returns
returns c = λ claims are one.
    other_value c.args.claim.now c.in-Some.other.now.now c.if-other-claim.false
    ∙ found_first c.args.first.now.entries claims c.args.claim.now c.in_ok-unknown.unknown
    (Some c.in-Some.other.now) c.in_ok-unknown.ensures c.in-Some.ensures.value are one
