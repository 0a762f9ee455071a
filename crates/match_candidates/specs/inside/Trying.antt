-- What comes of trying the homes of code sections, said of any list of such sections.
use Rattle.std.specs.Prelude.{ℕ, suc, Bool, if◌then◌else◌, List, [], ◌∷◌, ◌++◌, map, Option, None}
use Rattle.std.specs.List.{list_any}
use Rattle.ks_base.specs.declared.refusals.Refusal.{Refusal}
use Rattle.i386_reloc.specs.declared.types.NormalSection.{NormalSection}
use Rattle.symbol_table.specs.Bodies.{newest}
use Rattle.run_pre_match.specs.Matched.{PreSection, outcome}
use Rattle.propagation.specs.Conflicts.{first_some}
use Rattle.match_candidates.specs.declared.trials.Tried.{Tried}
use Rattle.match_candidates.specs.Candidates.{Running, homes_of, candidates_of, candidate_at, code_from, is_match}
use Rattle.match_candidates.specs.OwnFaults.{undecoded_in, missing_in, difference_in, mismatch_in, length_of}

-- the first fault of each kind in some sections
abbrev pub undecoded_from : List NormalSection → ℕ → List NormalSection → Option Refusal
undecoded_from object place sections = first_some undecoded_in (code_from object place sections)

abbrev pub missing_among : Running → List PreSection → Option Refusal
missing_among running codes = first_some (λ pre. missing_in pre (candidates_of running pre)) codes

abbrev pub mismatch_among : Running → List PreSection → Option Refusal
mismatch_among running codes = first_some (λ pre. mismatch_in pre (candidates_of running pre)) codes

-- what is kept of a home of the code section of a number, when it is tried
abbrev pub tried_at : Running → PreSection → ℕ → ℕ → Tried
tried_at running pre number home = record {
  section = number;
  home = home;
  base = newest running.bodies home;
  outcome = length_of (outcome (candidate_at running pre home));
}

-- some homes of it, and all of them
abbrev pub all_tried : Running → PreSection → ℕ → List ℕ → List Tried
all_tried running pre number homes = map (tried_at running pre number) homes

abbrev pub tried_of : Running → PreSection → ℕ → List Tried
tried_of running pre number = all_tried running pre number (homes_of running pre)

-- all homes of sections whose numbers begin at one
unfoldable pub tried_from : Running → ℕ → List PreSection → List Tried
tried_from running number [] = []
tried_from running number (pre ∷ pres) = tried_of running pre number ++ tried_from running (suc number) pres

abbrev pub has_matched : Tried → Bool
has_matched t = is_match t.outcome

-- that a section differs from all that it may be, by what came of these
abbrev pub mismatch_by : PreSection → List Tried → Option Refusal
mismatch_by pre [] = None
mismatch_by pre (t ∷ ts) = if list_any has_matched (t ∷ ts) then None else difference_in pre t.outcome
