-- One field more.
use Rattle.std.proofs.Common.{◌≡◌}
use Rattle.run_pre_match.specs.Matched.{Statement, stated_in_pair, claim_of, interior_of}
use Rattle.run_pre_match.proofs.Statements.{said_more, statement, stated_in}
use Rattle.run_pre_match.proofs.candidate.Candidate.state_pair.Goals as goal

pub loop-j-preserved : goal.loop-j-preserved
loop-j-preserved g c =
    let there = stated_in_pair c.args.self.now c.args.pair.now in
    let here : Statement =
    statement c.own_section-section.result.now c.index-refs-j.result c.given_in_pair-given.result in
    let is : here ≡ there c.index-refs-j.result =
    stated_in c.args.self.now c.args.pair.now c.own_section-section.result.now c.index-refs-j.result
    c.given_in_pair-given.result c.own_section-section.ensures.section c.given_in_pair-given.ensures.given in
    record {
      claims =
          said_more (claim_of c.args.self.now) there c.references-refs.result.now c.loop-j.j c.index-refs-j.result here
          c.args.said.now.claims c.loop-j.said.claims c.state.new.said.claims
          c.loop-j-test.true c.index-refs-j.is is c.loop-j.invariant.claims c.in_ok-state.ensures.claims;
      interiors =
          said_more (interior_of c.args.self.now) there c.references-refs.result.now c.loop-j.j c.index-refs-j.result
          here c.args.said.now.interiors c.loop-j.said.interiors c.state.new.said.interiors
          c.loop-j-test.true c.index-refs-j.is is c.loop-j.invariant.interiors c.in_ok-state.ensures.interiors;
    }
