-- One entry more, and all of them.
use Rattle.std.proofs.Common.{◌≡◌, ℕ, ◌∷◌}
use Rattle.run_pre_match.specs.declared.values.First.{First}
use Rattle.run_pre_match.specs.Matched.{claim_of, interior_of}
use Rattle.run_pre_match.proofs.Reached.{entry_more, entries_all}
use Rattle.run_pre_match.proofs.candidate.Candidate.state_constants.Goals as goal

pub loop-place-preserved : goal.loop-place-preserved
loop-place-preserved g c =
    let e : ℕ × First = (c.in-Some.place.now, c.in-Some.first.now) in
    let first : c.loop-place.place-iterator ≡ e ∷ c.next.new.self = c.in-Some.ensures.steps in
    record {
      claims =
          entry_more (claim_of c.args.self.now) c.args.self.now e c.args.values.now.constants.entries
          c.loop-place.place-iterator c.next.new.self c.args.said.now.claims c.loop-place.said.claims
          c.state_reached.new.said.claims first c.loop-place.invariant.claims c.in_ok-state_reached.ensures.claims;
      interiors =
          entry_more (interior_of c.args.self.now) c.args.self.now e c.args.values.now.constants.entries
          c.loop-place.place-iterator c.next.new.self c.args.said.now.interiors c.loop-place.said.interiors
          c.state_reached.new.said.interiors first c.loop-place.invariant.interiors
          c.in_ok-state_reached.ensures.interiors;
    }

pub returns-clause-claims : goal.returns-clause-claims
returns-clause-claims g c = λ found keeps.
    entries_all (claim_of c.args.self.now) c.args.self.now found c.args.values.now.constants.entries
    c.loop-place.place-iterator c.args.said.now.claims c.loop-place.said.claims c.in-None.ensures.steps.0
    c.iter-place-items.ensures.ordered keeps.constants c.loop-place.invariant.claims

pub returns-clause-interiors : goal.returns-clause-interiors
returns-clause-interiors g c = λ found keeps.
    entries_all (interior_of c.args.self.now) c.args.self.now found c.args.values.now.constants.entries
    c.loop-place.place-iterator c.args.said.now.interiors c.loop-place.said.interiors c.in-None.ensures.steps.0
    c.iter-place-items.ensures.ordered keeps.constants c.loop-place.invariant.interiors
