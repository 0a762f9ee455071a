-- A solution, said by the addresses that it gives, with no word of how or in which order any of them is found: to each
-- function, data section and outside name one address, or none. It is said of objects whose code can be matched
-- (Landing).
use Rattle.std.specs.Prelude.{◌≡◌, ◌≢◌, ℕ, List, Option, Some, map}
use Rattle.std.specs.List.{All, AllZip, Contains, filter}
use Rattle.ks_base.specs.declared.refusals.Refusal.{Refusal}
use Rattle.ks_base.specs.declared.refusals.Refusal.TheVariants.{PreUndecoded, Ambiguous}
use Rattle.i386_reloc.specs.declared.types.NormalSection.{NormalSection}
use Rattle.symbol_table.specs.declared.values.Unknown.{Unknown}
use Rattle.symbol_table.specs.declared.values.Unknown.TheVariants as unknown
use Rattle.symbol_table.specs.Unknowns.{address_in}
use Rattle.run_pre_match.specs.declared.goals.Goal.{Goal}
use Rattle.run_pre_match.specs.declared.goals.Goal.TheVariants.{Entry, Inside, Variable, Outside}
use Rattle.run_pre_match.specs.declared.goals.Given.{Given}
use Rattle.run_pre_match.specs.Candidate.{Candidate}
use Rattle.run_pre_match.specs.Goals.{interior_address}
use Rattle.run_pre_match.specs.Match.{Valuation, Match, IsField, StandForOne}
use Rattle.run_pre_match.specs.Matched.{PreSection, name_at}
use Rattle.match_candidates.specs.Candidates.{Running, candidates_of, code_sections}
use Rattle.symbol_solve.specs.Answered.{is_about}
use Rattle.symbol_solve.specs.Solve.{Value, left_of}

-- an address for each unknown that has one
abbrev pub Assignment : Type 0
Assignment = Unknown → Option ℕ

-- What a goal is to all sections together: functions, data sections and outside names have one address for all of them.
-- Read-only sections and texts need not.
pub data IsOf (c : Candidate) : Goal → Unknown → Type 0 where
  OfFunction : (place : ℕ) → IsOf c (Entry place) (unknown.Code (name_at c place))
  OfData : (place : ℕ) → IsOf c (Variable place) (unknown.Data (name_at c place))
  OfName : (name : List ℕ) → IsOf c (Outside name) (unknown.Outside name)

-- a candidate's valuation gives an address to what is unknown
pub record Gives (c : Candidate) (v : Valuation) (about : Unknown) (address : ℕ) : Type 0 where
  pub goal : Goal
  pub speaks : IsOf c goal about
  pub is : v goal ≡ Some address

-- A code section is what runs at a candidate's base under an assignment: they match under a valuation whose addresses
-- of functions, data sections and outside names are those assigned.
pub record Fits (assigned : Assignment) (c : Candidate) : Type 0 where
  pub valuation : Valuation
  pub match : Match c valuation
  pub assigns : (about : Unknown) (address : ℕ) → Gives c valuation about address → assigned about ≡ Some address

-- one of a section's candidates that fits
pub record IsFitting (running : Running) (assigned : Assignment) (pre : PreSection) (c : Candidate) : Type 0 where
  pub among : Contains (candidates_of running pre) c
  pub fits : Fits assigned c

-- Where a field of a match goes to an interior of a section, its address stands, in the body that is chosen for that
-- section, for the number of the interior's offset.
abbrev pub AreMet : Candidate → Candidate → Type 0
AreMet c d =
    (v : Valuation) (field : Given) (offset : ℕ) → Match c v → IsField c v field → field.goal ≡ Inside d.place offset
    → StandForOne d offset (interior_address field.value offset)

-- a match of one that was chosen gives an address to what is unknown
pub record IsGiven (chosen : List Candidate) (about : Unknown) (address : ℕ) : Type 0 where
  pub candidate : Candidate
  pub among : Contains chosen candidate
  pub valuation : Valuation
  pub match : Match candidate valuation
  pub gives : Gives candidate valuation about address

-- An assignment solves an object by a choice of candidates: one for each code section, in order, which fits; interiors
-- are met; and nothing is assigned but what the match of one of them gives.
pub record Solves (running : Running) (object : List NormalSection) (assigned : Assignment) (chosen : List Candidate)
    : Type 0 where
  pub choice : AllZip (IsFitting running assigned) (code_sections object) chosen
  pub met : All (λ c. All (AreMet c) chosen) chosen
  pub no_more : (about : Unknown) (address : ℕ) → assigned about ≡ Some address → IsGiven chosen about address

-- the addresses that are listed for an unknown, a function's being its home
abbrev pub addresses_of : List Value → Unknown → List ℕ
addresses_of values about = map (λ (value : Value). address_in value.1) (filter (is_about about) values)

-- A refusal that may come though an assignment solves the object: that its own code can't be matched, and that of a
-- section two candidates are left, for two homes, since nothing is tried out.
pub data IsOpen (running : Running) (object : List NormalSection) : Refusal → Type 0 where
  NotDecoded : (name : List ℕ) (offset : ℕ) → IsOpen running object (PreUndecoded name offset)
  TwoLeft : (one other : Candidate) → Contains (left_of running object) one
      → Contains (left_of running object) other → one.place ≡ other.place → one.home ≢ other.home
      → IsOpen running object (Ambiguous one.section.name one.home other.home)
