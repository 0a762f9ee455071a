-- What the code keeps of the values that are found: for each goal the first, and whether it holds.
use Rattle.std.specs.Prelude.{◌≡◌, ℕ, Bool, true, false, ◌||◌, ◌&&◌, not, ◌==◌, if◌then◌else◌, List, [], ◌∷◌, ◌++◌, map}
use Rattle.std.specs.Prelude.{Option, Some, None, option_map}
use Rattle.std.specs.List.{slice_get, list_any, filter_map, flat_map}
use Rattle.std.specs.Ordering.{nat_cmp}
use Rattle.std.specs.Cmp.Lexicographic.{slice_cmp}
use Rattle.std.specs.BTreeMap.{BTreeMap, get, get_by}
use denote.Ref.{Bor}
use Rattle.run_pre_match.specs.declared.goals.Goal.{Goal}
use Rattle.run_pre_match.specs.declared.goals.Goal.TheVariants.{Entry, Inside, Variable, Constant, Outside, Text}
use Rattle.run_pre_match.specs.declared.goals.Verdict.{Verdict}
use Rattle.run_pre_match.specs.declared.goals.Verdict.TheVariants.{Holds, Refused, Absent}
use Rattle.run_pre_match.specs.declared.values.First.{First}
use Rattle.run_pre_match.specs.declared.values.Values.{Values}
use Rattle.run_pre_match.specs.declared.values.Marks.{Marks}
use Rattle.ks_base.specs.declared.refusals.DifferenceKind.{DifferenceKind}
use Rattle.ks_base.specs.declared.refusals.DifferenceKind.TheVariants.{Target, Value, Content}
use Rattle.run_pre_match.specs.Candidate.{Candidate, Pair, pairs}
use Rattle.run_pre_match.specs.declared.goals.Given.{Given}
use Rattle.run_pre_match.specs.declared.judging.Judged.{Judged}
use Rattle.i386_reloc.specs.declared.types.NormalSection.{NormalSection}
use Rattle.run_pre_match.specs.Found.{Found, first_value, is_listed, section_stands, verdict_on, opened_by, judged}
use Rattle.run_pre_match.specs.Found.{given_in_constant, found_in, own_home, all_found}
use Rattle.run_pre_match.specs.Matched.{claim_of, interior_of, stated_by_pair}
use Rattle.run_pre_match.specs.declared.stating.Said.{Said}
use Rattle.ks_base.specs.declared.refusals.Difference.{Difference}
use Rattle.run_pre_match.specs.Differences.{is_refused_here, is_refused_target, is_unmet, kind_of, difference_from}

-- what a map has at a name
abbrev pub first_of : BTreeMap (Bor (List ℕ)) First → List ℕ → Option First
first_of outsides name = get_by (λ k. slice_cmp nat_cmp name k.now) outsides

-- of a read-only section
abbrev pub standing : Candidate → ℕ → ℕ → First
standing c place value = record { value = value; holds = section_stands c value (slice_get c.object place) }

-- of an outside name
abbrev pub listed : Candidate → List ℕ → ℕ → First
listed c name value = record { value = value; holds = is_listed c.symbols name value }

-- For each thing of a kind that a first value is kept where one was found, with whether it holds, and nothing
-- otherwise.
abbrev pub IsKept : {K : Type 0} → (K → Option First) → (K → Goal) → (K → ℕ → First) → List Found → Type 0
IsKept {K} kept goal with_value found =
    (key : K) → kept key ≡ option_map (with_value key) (first_value found (goal key))

abbrev pub taken_at : ℕ → ℕ → First
taken_at place value = record { value = value; holds = true }

-- the code keeps what was found
pub record Keeps (c : Candidate) (found : List Found) (kept : Values) : Type 0 where
  pub entries : IsKept (get nat_cmp kept.entries) Entry taken_at found
  pub variables : IsKept (get nat_cmp kept.variables) Variable taken_at found
  pub constants : IsKept (get nat_cmp kept.constants) Constant (standing c) found
  pub outsides : IsKept (first_of kept.outsides) Outside (listed c) found

-- the marks of what is found
abbrev pub marks_of : Candidate → List Found → Marks
marks_of c here = record {
  target = list_any (is_refused_target c.place) here;
  refused = list_any is_refused_here here;
  unmet = list_any is_unmet here;
}

abbrev pub joined : Marks → Marks → Marks
joined a b = record { target = a.target || b.target; refused = a.refused || b.refused; unmet = a.unmet || b.unmet }

-- what is said of a value, by the first one
abbrev pub verdict_by : First → ℕ → Verdict → Verdict
verdict_by first value failing = if first.value == value then (if first.holds then Holds else failing) else Refused

abbrev pub given : Goal → ℕ → Given
given goal value = record { goal = goal; value = value }

-- what the fields of the read-only section of a goal give, where it lies at a base
abbrev pub fields_of : Candidate → ℕ → Option NormalSection → List Given
fields_of c base None = []
fields_of c base (Some section) = map (given_in_constant c base) section.refs

abbrev pub fields_for : Candidate → Goal → ℕ → List Given
fields_for c (Constant place) base = fields_of c base (slice_get c.object place)
fields_for c (Entry place) value = []
fields_for c (Inside place offset) value = []
fields_for c (Variable place) value = []
fields_for c (Outside name) value = []
fields_for c (Text place offset text) value = []

-- what is said of a value after what was found before, what it opens, and that it is kept
pub record Judges (c : Candidate) (before : List Found) (g : Given) (j : Judged) (kept : Values) : Type 0 where
  pub verdict : j.verdict ≡ verdict_on c before g.goal g.value
  pub opens : opened_by c before g.goal g.value ≡ (if j.opens then fields_for c g.goal g.value else [])
  pub keeps : (own : Bool) → Keeps c (before ++ judged c own before g ∷ []) kept

-- the marks of one that is found
abbrev pub marks_for : (own is_inside : Bool) → Verdict → Marks
marks_for own is_inside Holds = record { target = false; refused = false; unmet = false }
marks_for own is_inside Refused = record { target = own && is_inside; refused = own; unmet = not own }
marks_for own is_inside Absent = record { target = false; refused = false; unmet = true }

-- what was found by some fields after what was found before: it is kept, and its marks are added
pub record Follows (c : Candidate) (before new : List Found) (old_marks new_marks : Marks)
    (kept : Values) : Type 0 where
  pub keeps : Keeps c (before ++ new) kept
  pub marks : new_marks ≡ joined old_marks (marks_of c new)

abbrev pub no_marks : Marks
no_marks = record { target = false; refused = false; unmet = false }

-- the first kind of difference that marks mean, in a pair of direct branches or not
abbrev pub kind_marked : Marks → Bool → Option DifferenceKind
kind_marked marks branches =
    if marks.target && branches then Some Target else if marks.refused then Some Value else if marks.unmet
    then Some Content else None

-- The first kind in which a pair differs; where there is none, what its fields give is kept.
pub record IsKind (c : Candidate) (before : List Found) (pair : Pair) (kind : Option DifferenceKind)
    (kept : Values) : Type 0 where
  pub first : kind ≡ kind_of c (found_in c before pair) pair
  pub keeps : kind ≡ None → Keeps c (before ++ found_in c before pair) kept

-- The first difference of all pairs; where there is none, all that is found is kept, and what all fields say is added.
pub record Compared (c : Candidate) (old new : Said) (difference : Option Difference) (kept : Values) : Type 0 where
  pub first : difference ≡ difference_from c (own_home c ∷ []) (pairs c)
  pub keeps : difference ≡ None → Keeps c (all_found c) kept
  pub claims : difference ≡ None → new.claims ≡ old.claims
      ++ filter_map (claim_of c) (flat_map (stated_by_pair c) (pairs c))
  pub interiors : difference ≡ None → new.interiors ≡ old.interiors
      ++ filter_map (interior_of c) (flat_map (stated_by_pair c) (pairs c))
