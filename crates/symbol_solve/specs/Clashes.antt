-- When two candidates can't both be chosen.
use Rattle.std.specs.Prelude.{Bool, not, ◌&&◌, ◌||◌, ◌==◌, List, [], Result, Ok, Err}
use Rattle.std.specs.List.{list_any}
use Rattle.i386_reloc.specs.Normal.{same_bytes}
use Rattle.symbol_table.specs.Unknowns.{same_unknown}
use Rattle.run_pre_match.specs.declared.types.Claim.{Claim}
use Rattle.run_pre_match.specs.declared.types.Interior.{Interior}
use Rattle.run_pre_match.specs.declared.types.Matched.{Matched}
use Rattle.run_pre_match.specs.declared.types.MatchFault.{MatchFault}
use Rattle.run_pre_match.specs.Candidate.{Candidate, same_number}
use Rattle.run_pre_match.specs.Matched.{outcome}
use Rattle.propagation.specs.Rounds.{Rules}
use Rattle.match_candidates.specs.Candidates.{matches}

-- what a candidate claims, nothing where it doesn't match
abbrev pub claims_in : Result Matched MatchFault → List Claim
claims_in (Ok matched) = matched.claims
claims_in (Err fault) = []

abbrev pub claims_of : Candidate → List Claim
claims_of c = claims_in (outcome c)

-- its references to interiors of other sections
abbrev pub interiors_in : Result Matched MatchFault → List Interior
interiors_in (Ok matched) = matched.interiors
interiors_in (Err fault) = []

abbrev pub interiors_of : Candidate → List Interior
interiors_of c = interiors_in (outcome c)

abbrev pub same_section : Candidate → Candidate → Bool
same_section c d = c.place == d.place

abbrev pub same_candidate : Candidate → Candidate → Bool
same_candidate c d = same_section c d && c.home == d.home

-- two claims that give one unknown two values
abbrev pub contradict : Claim → Claim → Bool
contradict a b = same_unknown a.unknown b.unknown && not (a.value == b.value)

-- whether an interior goes to a candidate's section and doesn't stand, in its body, for the number of its offset
abbrev pub is_unmet : Candidate → Interior → Bool
is_unmet d i = same_bytes i.section d.section.name && not (same_number d i.offset i.address)

abbrev pub claims_clash : Candidate → Candidate → Bool
claims_clash c d = list_any (λ a. list_any (contradict a) (claims_of d)) (claims_of c)

abbrev pub interiors_clash : Candidate → Candidate → Bool
interiors_clash c d = list_any (is_unmet d) (interiors_of c)

-- Two matching candidates of two sections clash where their claims give one unknown two values, or an interior of one
-- isn't met in the other's body.
unfoldable pub clashes : Candidate → Candidate → Bool
clashes c d =
    not (same_section c d) && matches c && matches d
    && (claims_clash c d || interiors_clash c d || interiors_clash d c)

-- how candidates stand to one another
abbrev pub candidate_rules : Rules Candidate
candidate_rules =
    record { same_section = same_section; same = same_candidate; matches = matches; clashes = clashes }
