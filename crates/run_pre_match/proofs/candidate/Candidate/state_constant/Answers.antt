-- One field more.
use Rattle.std.proofs.Common.{◌≡◌}
use Rattle.run_pre_match.specs.Matched.{Statement, stated_in_constant, claim_of, interior_of}
use Rattle.run_pre_match.proofs.Statements.{said_more, statement, stated_there}
use Rattle.run_pre_match.proofs.candidate.Candidate.state_constant.Goals as goal

pub loop-k-preserved : goal.loop-k-preserved
loop-k-preserved g c =
    let there = stated_in_constant c.args.self.now c.args.section.now c.args.base in
    let here : Statement = statement c.args.section.now c.index-refs-k.result c.given_in_constant-given.result in
    let is : here ≡ there c.index-refs-k.result =
    stated_there c.args.self.now c.args.section.now c.args.base c.index-refs-k.result
    c.given_in_constant-given.result c.given_in_constant-given.ensures.given in
    record {
      claims =
          said_more (claim_of c.args.self.now) there c.as_slice-refs.result.now c.loop-k.k c.index-refs-k.result here
          c.args.said.now.claims c.loop-k.said.claims c.state.new.said.claims
          c.loop-k-test.true c.index-refs-k.is is c.loop-k.invariant.claims c.in_ok-state.ensures.claims;
      interiors =
          said_more (interior_of c.args.self.now) there c.as_slice-refs.result.now c.loop-k.k c.index-refs-k.result here
          c.args.said.now.interiors c.loop-k.said.interiors c.state.new.said.interiors
          c.loop-k-test.true c.index-refs-k.is is c.loop-k.invariant.interiors c.in_ok-state.ensures.interiors;
    }
