-- What the fields so far say is added.
use Rattle.std.proofs.Common.{◌≡◌, ◌++◌, map, take}
use Rattle.std.specs.List.{filter_map}
use Rattle.run_pre_match.specs.Matched.{stated_in_pair, claim_of, interior_of}
use Rattle.run_pre_match.proofs.candidate.Candidate.state_pair.Given as goal

abbrev pub invariant-loop-j : goal.invariant-loop-j
invariant-loop-j g l = record {
  claims : l.said.claims ≡ l.fn.said.claims
      ++ filter_map (claim_of l.self) (map (stated_in_pair l.self l.pair) (take l.j l.refs));
  interiors : l.said.interiors ≡ l.fn.said.interiors
      ++ filter_map (interior_of l.self) (map (stated_in_pair l.self l.pair) (take l.j l.refs));
}
