-- What was said so far, and then what the fields of the other sections say, is what is to be said.
use Rattle.std.proofs.Common.{◌≡◌, ◌++◌}
use Rattle.std.specs.List.{filter_map, flat_map}
use Rattle.run_pre_match.specs.Matched.{claim_of, interior_of}
use Rattle.run_pre_match.specs.inside.Reached.{stated_by}
use Rattle.run_pre_match.proofs.candidate.Candidate.state_constants.Given as goal

abbrev pub invariant-loop-place : goal.invariant-loop-place
invariant-loop-place g l = record {
  claims : l.said.claims ++ filter_map (claim_of l.self) (flat_map (stated_by l.self) l.place-iterator)
      ≡ l.fn.said.claims ++ filter_map (claim_of l.self) (flat_map (stated_by l.self) l.values.constants.entries);
  interiors : l.said.interiors ++ filter_map (interior_of l.self) (flat_map (stated_by l.self) l.place-iterator)
      ≡ l.fn.said.interiors
      ++ filter_map (interior_of l.self) (flat_map (stated_by l.self) l.values.constants.entries);
}
