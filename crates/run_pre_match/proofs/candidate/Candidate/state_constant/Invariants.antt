-- What the fields so far say is added.
use Rattle.std.proofs.Common.{◌≡◌, ◌++◌, map, take}
use Rattle.std.specs.List.{filter_map}
use Rattle.run_pre_match.specs.Matched.{stated_in_constant, claim_of, interior_of}
use Rattle.run_pre_match.proofs.candidate.Candidate.state_constant.Given as goal

abbrev pub invariant-loop-k : goal.invariant-loop-k
invariant-loop-k g l = record {
  claims : l.said.claims ≡ l.fn.said.claims
      ++ filter_map (claim_of l.self) (map (stated_in_constant l.self l.section l.base) (take l.k l.refs));
  interiors : l.said.interiors ≡ l.fn.said.interiors
      ++ filter_map (interior_of l.self) (map (stated_in_constant l.self l.section l.base) (take l.k l.refs));
}
