-- What comes of a candidate: the length of the run body with the claims and interiors that it makes, or the first
-- difference.
use Rattle.std.specs.Prelude.{◌≡◌, ◌≢◌, ℕ, suc, ◌-◌, ◌==◌, List, [], ◌∷◌, ◌++◌, map, if◌then◌else◌, Option, Some, None}
use Rattle.std.specs.Prelude.{Result, Ok, Err}
use Rattle.std.specs.Option.{option_map}
use Rattle.std.specs.List.{filter_map, flat_map, slice_get}
use Rattle.ks_base.specs.declared.places.Spot.{Spot}
use Rattle.ks_base.specs.declared.refusals.Difference.{Difference}
use Rattle.i386_reloc.specs.declared.types.Ref.{Ref}
use Rattle.i386_reloc.specs.declared.types.NormalSection.{NormalSection}
use Rattle.image_memory.specs.Contents.{Contents}
use Rattle.symbol_table.specs.declared.symbols.Symbol.{Symbol}
use Rattle.symbol_table.specs.declared.values.Unknown.{Unknown}
use Rattle.symbol_table.specs.declared.values.Unknown.TheVariants as unknown
use Rattle.run_pre_match.specs.declared.goals.Goal.{Goal}
use Rattle.run_pre_match.specs.declared.goals.Goal.TheVariants.{Entry, Inside, Variable, Constant, Outside, Text}
use Rattle.run_pre_match.specs.declared.types.Claim.{Claim}
use Rattle.run_pre_match.specs.declared.types.Interior.{Interior}
use Rattle.run_pre_match.specs.declared.types.Matched.{Matched}
use Rattle.run_pre_match.specs.declared.types.MatchFault.{MatchFault}
use Rattle.run_pre_match.specs.declared.types.MatchFault.TheVariants.{Differs, Undecoded, Memory}
use Rattle.run_pre_match.specs.declared.goals.Given.{Given}
use Rattle.match_instructions.specs.Instructions.{end_of}
use Rattle.match_instructions.specs.Landing.{undecoded_offset}
use Rattle.run_pre_match.specs.Candidate.{Candidate, run_list, Pair, pairs}
use Rattle.run_pre_match.specs.Goals.{interior_address}
use Rattle.run_pre_match.specs.Found.{Found, first_value, given_in_pair, given_in_constant, own_home, all_found}
use Rattle.run_pre_match.specs.Differences.{difference_from}

-- what a field says, and where the field is
pub record Statement : Type 0 where
  pub spot : Spot
  pub given : Given

abbrev pub spot_at : List ℕ → ℕ → Spot
spot_at section offset = record { section = section; offset = offset }

abbrev pub stated_in_pair : Candidate → Pair → Ref → Statement
stated_in_pair c pair r = record { spot = spot_at c.section.name r.offset; given = given_in_pair c pair r }

abbrev pub stated_by_pair : Candidate → Pair → List Statement
stated_by_pair c pair = map (stated_in_pair c pair) pair.pre.references

abbrev pub stated_in_constant : Candidate → NormalSection → ℕ → Ref → Statement
stated_in_constant c section base r =
    record { spot = spot_at section.name r.offset; given = given_in_constant c base r }

-- what the fields of a read-only section say, where a field says that it lies at a base
abbrev pub stated_at : Candidate → NormalSection → Option ℕ → List Statement
stated_at c section None = []
stated_at c section (Some base) = map (stated_in_constant c section base) section.refs

-- the sections from a place on
unfoldable pub stated_from : Candidate → List Found → ℕ → List NormalSection → List Statement
stated_from c found place [] = []
stated_from c found place (section ∷ sections) =
    stated_at c section (first_value found (Constant place)) ++ stated_from c found (suc place) sections

-- By place: first the fields of the code section, then those of the read-only sections that it reaches, in section
-- order; within a section by offset.
abbrev pub statements : Candidate → List Found → List Statement
statements c found = flat_map (stated_by_pair c) (pairs c) ++ stated_from c found 0 c.object

-- the name of the section at a place
abbrev pub name_in : Option NormalSection → List ℕ
name_in None = []
name_in (Some section) = section.name

abbrev pub name_at : Candidate → ℕ → List ℕ
name_at c place = name_in (slice_get c.object place)

-- what a field claims: nothing of read-only sections, texts and interiors
abbrev pub unknown_of : Candidate → Goal → Option Unknown
unknown_of c (Entry place) = Some (unknown.Code (name_at c place))
unknown_of c (Variable place) = Some (unknown.Data (name_at c place))
unknown_of c (Outside name) = Some (unknown.Outside name)
unknown_of c (Inside place offset) = None
unknown_of c (Constant place) = None
unknown_of c (Text place offset text) = None

abbrev pub claim_about : Statement → Unknown → Claim
claim_about s about = record { unknown = about; value = s.given.value; place = s.spot }

abbrev pub claim_of : Candidate → Statement → Option Claim
claim_of c s = option_map (claim_about s) (unknown_of c s.given.goal)

-- the candidate's own home, at the offset 0 of its section
abbrev pub home_claim : Candidate → Claim
home_claim c = record { unknown = unknown.Code c.section.name; value = c.home; place = spot_at c.section.name 0 }

-- a reference to the interior of another code section
abbrev pub interior_at : Candidate → Statement → Goal → Option Interior
interior_at c s (Inside place offset) =
    if place == c.place then None
    else Some (record {
      section = name_at c place;
      offset = offset;
      address = interior_address s.given.value offset;
      place = s.spot;
    })
interior_at c s (Entry place) = None
interior_at c s (Variable place) = None
interior_at c s (Constant place) = None
interior_at c s (Outside name) = None
interior_at c s (Text place offset text) = None

abbrev pub interior_of : Candidate → Statement → Option Interior
interior_of c s = interior_at c s s.given.goal

abbrev pub matched_by : Candidate → List Statement → Matched
matched_by c said = record {
  length = end_of c.base (run_list c) - c.base;
  claims = home_claim c ∷ filter_map (claim_of c) said;
  interiors = filter_map (interior_of c) said;
}

abbrev pub matched_unless : Option Difference → Matched → Result Matched MatchFault
matched_unless (Some difference) matched = Err (Differs difference)
matched_unless None matched = Ok matched

-- what comes of a candidate whose section can be matched
unfoldable pub outcome : Candidate → Result Matched MatchFault
outcome c = matched_unless (difference_from c (own_home c ∷ []) (pairs c)) (matched_by c (statements c (all_found c)))

abbrev pub outcome_unless : Option ℕ → Result Matched MatchFault → Result Matched MatchFault
outcome_unless (Some offset) other = Err (Undecoded offset)
outcome_unless None other = other

-- what comes of a candidate: where its section can't be matched, the least offset at which it can't
abbrev pub answer : Candidate → Result Matched MatchFault
answer c = outcome_unless (undecoded_offset c.object c.section) (outcome c)

-- What a call returned is what is to come, unless memory ran out.
abbrev pub Comes : {X : Type 0} → Result X MatchFault → Result X MatchFault → Type 0
Comes given (Ok found) = given ≡ Ok found
Comes given (Err fault) = fault ≢ Memory → given ≡ Err fault

-- a section of an object, and its place
pub record PreSection : Type 0 where
  pub object : List NormalSection
  pub place : ℕ
  pub section : NormalSection

-- a section beside the running code of a function that it may be
abbrev pub candidate : PreSection → Contents → List Symbol → ℕ → ℕ → Candidate
candidate pre contents symbols home base = record {
  object = pre.object;
  place = pre.place;
  section = pre.section;
  contents = contents;
  symbols = symbols;
  home = home;
  base = base;
}

-- the section, or the least offset at which its code can't be matched
abbrev pub code_unless : Option ℕ → PreSection → Result PreSection MatchFault
code_unless (Some offset) pre = Err (Undecoded offset)
code_unless None pre = Ok pre

abbrev pub listed_code : PreSection → Result PreSection MatchFault
listed_code pre = code_unless (undecoded_offset pre.object pre.section) pre
