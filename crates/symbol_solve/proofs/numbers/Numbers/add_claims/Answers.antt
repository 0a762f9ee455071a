-- What had a number keeps one, and the next one has one.
use Rattle.symbol_solve.proofs.NumberLaws.{at_end, grows_on, claims_more}
use Rattle.symbol_solve.specs.inside.Numbers.{IsUnknownNumbered}
use Rattle.symbol_solve.proofs.numbers.Numbers.add_claims.Goals as goal

pub loop-claim-preserved : goal.loop-claim-preserved
loop-claim-preserved c =
    let before = c.loop-claim.self in
    let after = c.add_claim.new.self in
    record {
      grows = grows_on c.args.self.now before after c.loop-claim.invariant.grows c.in_ok-add_claim.ensures.grows;
      numbered = claims_more before
          after c.args.claims.now c.loop-claim.claim-index c.claim-item.result c.loop-claim-test.true c.claim-item.is
          c.in_ok-add_claim.ensures.grows c.in_ok-add_claim.ensures.numbered c.loop-claim.invariant.numbered;
    }

pub returns-clause-numbered : goal.returns-clause-numbered
returns-clause-numbered c =
    at_end (IsUnknownNumbered c.loop-claim.self)
    c.args.claims.now c.loop-claim.claim-index c.loop-claim-test.false c.loop-claim.invariant.numbered
