-- What is wrong with one code section of an object by itself: its code can't be matched, it has no candidate, or no
-- candidate matches. Then what is kept of the candidates that were tried.
use Rattle.std.specs.Prelude.{◌≡◌, ℕ, if◌then◌else◌, List, [], ◌∷◌, Option, Some, None, Result, Ok, Err}
use Rattle.std.specs.Option.{option_map, option_or}
use Rattle.std.specs.List.{list_any, slice_get, AllZip}
use Rattle.ks_base.specs.declared.refusals.Refusal.{Refusal}
use Rattle.ks_base.specs.declared.refusals.Refusal.TheVariants.{NoCandidate, Mismatch, PreUndecoded}
use Rattle.i386_reloc.specs.declared.types.NormalSection.{NormalSection}
use Rattle.run_pre_match.specs.declared.types.Matched.{Matched}
use Rattle.run_pre_match.specs.declared.types.MatchFault.{MatchFault}
use Rattle.run_pre_match.specs.declared.types.MatchFault.TheVariants.{Differs, Undecoded, Memory}
use Rattle.run_pre_match.specs.Candidate.{Candidate}
use Rattle.match_instructions.specs.Landing.{undecoded_offset}
use Rattle.run_pre_match.specs.Matched.{PreSection, candidate, outcome}
use Rattle.i386_reloc.specs.Normal.{function_name}
use Rattle.propagation.specs.Conflicts.{first_some}
use Rattle.match_candidates.specs.declared.trials.Tried.{Tried}
use Rattle.match_candidates.specs.Candidates.{Running, code_sections, candidates_of, candidates, matches}

-- the first code section whose code can't be matched, and the least offset at which it can't
abbrev pub undecoded_in : PreSection → Option Refusal
undecoded_in pre = option_map (PreUndecoded pre.section.name) (undecoded_offset pre.object pre.section)

abbrev pub first_undecoded : List NormalSection → Option Refusal
first_undecoded object = first_some undecoded_in (code_sections object)

-- the first code section without a candidate
abbrev pub missing_in : PreSection → List Candidate → Option Refusal
missing_in pre [] = Some (NoCandidate (function_name pre.section))
missing_in pre (c ∷ cs) = None

abbrev pub first_missing : Running → List NormalSection → Option Refusal
first_missing running object = first_some (λ pre. missing_in pre (candidates_of running pre)) (code_sections object)

-- the first code section of which every candidate differs by itself, with the difference of the lowest home
abbrev pub difference_in : {X : Type 0} → PreSection → Result X MatchFault → Option Refusal
difference_in pre (Ok found) = None
difference_in pre (Err (Differs difference)) = Some (Mismatch pre.section.name difference)
difference_in pre (Err (Undecoded offset)) = None
difference_in pre (Err Memory) = None

abbrev pub mismatch_in : PreSection → List Candidate → Option Refusal
mismatch_in pre [] = None
mismatch_in pre (c ∷ cs) = if list_any matches (c ∷ cs) then None else difference_in pre (outcome c)

abbrev pub first_mismatch : Running → List NormalSection → Option Refusal
first_mismatch running object = first_some (λ pre. mismatch_in pre (candidates_of running pre)) (code_sections object)

-- the first of these that is there
unfoldable pub own_fault : Running → List NormalSection → Option Refusal
own_fault running object =
    option_or (first_undecoded object) (option_or (first_missing running object) (first_mismatch running object))

-- what is kept of what came of a candidate: how many bytes its running body has, or why it doesn't match
abbrev pub length_of : Result Matched MatchFault → Result ℕ MatchFault
length_of (Ok matched) = Ok matched.length
length_of (Err fault) = Err fault

-- What is kept of a candidate of one of some code sections: the number of its section among these, its home and base,
-- and its length or why it doesn't match.
pub record IsTried (codes : List PreSection) (c : Candidate) (t : Tried) : Type 0 where
  pub code : slice_get codes t.section ≡ Some (record { object = c.object; place = c.place; section = c.section })
  pub home : t.home ≡ c.home
  pub base : t.base ≡ c.base
  pub outcome : length_of (outcome c) ≡ t.outcome

-- the same of all candidates of an object, in order
abbrev pub AreTried : Running → List NormalSection → List Tried → Type 0
AreTried running object tried = AllZip (IsTried (code_sections object)) (candidates running object) tried

-- the candidate that was tried, given its section, and what comes of it
abbrev pub candidate_of : Running → PreSection → Tried → Candidate
candidate_of running pre t = candidate pre running.contents running.symbols t.home t.base

abbrev pub outcome_of : Running → PreSection → Tried → Result Matched MatchFault
outcome_of running pre t = outcome (candidate_of running pre t)

-- code sections, and what is kept of all that they may be
pub record Trials : Type 0 where
  pub codes : List PreSection
  pub tried : List Tried
