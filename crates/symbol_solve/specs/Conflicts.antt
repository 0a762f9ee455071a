-- What is reported where two candidates must be chosen and clash: the first clash, in the order of sections and homes,
-- claims and interiors.
use Rattle.std.specs.Prelude.{ℕ, List, map, Option, Some, None}
use Rattle.std.specs.Option.{option_map, option_or, option_and_then}
use Rattle.std.specs.List.{filter, find, range_with_len}
use Rattle.ks_base.specs.declared.refusals.Refusal.{Refusal}
use Rattle.ks_base.specs.declared.refusals.Refusal.TheVariants.{Conflict}
use Rattle.symbol_table.specs.declared.values.Unknown.{Unknown}
use Rattle.symbol_table.specs.declared.values.Unknown.TheVariants.{Code, Data, Outside}
use Rattle.run_pre_match.specs.declared.types.Claim.{Claim}
use Rattle.run_pre_match.specs.declared.types.Interior.{Interior}
use Rattle.run_pre_match.specs.Candidate.{Candidate, body_of}
use Rattle.run_pre_match.specs.Bodies.{address_of}
use Rattle.run_pre_match.specs.Matched.{spot_at}
use Rattle.propagation.specs.Rounds.{forced}
use Rattle.propagation.specs.Conflicts.{first_some, conflict}
use Rattle.match_candidates.specs.Candidates.{is_of}
use Rattle.symbol_solve.specs.Clashes.{claims_of, interiors_of, contradict, is_unmet, candidate_rules}

abbrev pub unknown_name : Unknown → List ℕ
unknown_name (Code name) = name
unknown_name (Data name) = name
unknown_name (Outside name) = name

-- what is reported of two claims that give one unknown two values
abbrev pub claims_conflict : Claim → Claim → Refusal
claims_conflict a b =
    Conflict (record { name = unknown_name a.unknown; offset = None }) a.value b.value a.place b.place

-- the first claim of the first candidate that a claim of the second contradicts, with the first such claim
abbrev pub conflict_of_claims : Candidate → Candidate → Option Refusal
conflict_of_claims c d =
    first_some (λ a. option_map (claims_conflict a) (find (contradict a) (claims_of d))) (claims_of c)

-- what is reported of an interior that isn't met in a candidate, with the address of the instruction to which it would
-- have to go
abbrev pub interior_conflict : Candidate → Interior → Refusal
interior_conflict d i =
    Conflict (record { name = i.section; offset = Some i.offset }) i.address
    (address_of (body_of d) i.offset) i.place (spot_at i.section i.offset)

abbrev pub conflict_of_interiors : Candidate → Candidate → Option Refusal
conflict_of_interiors c d = option_map (interior_conflict d) (find (is_unmet d) (interiors_of c))

-- what is reported of two candidates that clash
abbrev pub clash_between : Candidate × Candidate → Option Refusal
clash_between pair =
    option_or (conflict_of_claims pair.0 pair.1)
    (option_or (conflict_of_interiors pair.0 pair.1) (conflict_of_interiors pair.1 pair.0))

-- candidates by the places of so many sections
abbrev pub by_place : ℕ → List Candidate → List (List Candidate)
by_place count all = map (λ place. filter (is_of place) all) (range_with_len 0 count)

-- what is reported of the first two forced candidates that clash, nothing where none do
unfoldable pub reported : ℕ → List Candidate → Option Refusal
reported count all =
    option_and_then clash_between (conflict candidate_rules (by_place count (forced candidate_rules all)))
