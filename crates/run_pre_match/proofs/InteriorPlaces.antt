-- Interiors stand at the fields that go there, no two at one place.
use Rattle.std.proofs.Common.{◌≡◌, ◌≢◌, ◌↔◌, ◌==◌, inl, inr, ℕ, List, Some, None, All, refl, sym, ◌∙◌, ap, subst}
use Rattle.std.proofs.Common.{Ok}
use mathlib.Core.Path.{fun_ext}
use Rattle.std.specs.List.{AllPairs, Contains, filter_map}
use Rattle.std.proofs.lemmas.Bool.{cases_Bool}
use Rattle.std.proofs.lemmas.Option.{same_Some}
use Rattle.std.proofs.lemmas.List.Elements.{All-weaker, All-contains}
use Rattle.ks_base.specs.declared.places.Spot.{Spot}
use Rattle.run_pre_match.specs.declared.goals.Goal.{Goal}
use Rattle.run_pre_match.specs.declared.goals.Goal.TheVariants.{Entry, Inside, Variable, Constant, Outside, Text}
use Rattle.run_pre_match.specs.declared.types.Interior.{Interior}
use Rattle.run_pre_match.specs.declared.types.Matched.{Matched}
use Rattle.run_pre_match.specs.Candidate.{Candidate}
use Rattle.run_pre_match.specs.Goals.{interior_address}
use Rattle.run_pre_match.specs.Found.{all_found}
use Rattle.run_pre_match.specs.Matched.{Statement, statements, interior_at, interior_of, outcome}
use Rattle.run_pre_match.specs.Match.{Valuation, Match}
use Rattle.run_pre_match.specs.Places.{IsFieldAt, IsInteriorAt, HasFieldsApart}
use Rattle.run_pre_match.proofs.Claims.{no_difference}
use Rattle.run_pre_match.proofs.ClaimPlaces.{DifferInSpot, spots_apart}
use Rattle.run_pre_match.proofs.ConstantGoals.{IsInObject}
use Rattle.run_pre_match.proofs.ListPairs.{pairs_said}
use Rattle.run_pre_match.proofs.ListParts.{SaysAll, all_said, contains_said}
use Rattle.run_pre_match.proofs.Told.{Firsts, SaysField, all_fields, statement_at, field_stated, interior_by, named_in}
use Rattle.run_pre_match.proofs.Told.{said_other, Made}
use Rattle.run_pre_match.proofs.Valuations.{matches, one_valuation}

place_of_interior : (c : Candidate) (s : Statement) (interior : Interior) (goal : Goal) →
    interior_at c s goal ≡ Some interior → interior.place ≡ s.spot
place_of_interior c s interior (Inside place offset) is = elim (cases_Bool (place == c.place)) [
  | inl own ↦ absurd (let none : interior_at c s (Inside place offset) ≡ None = rw own refl in cc)
  | inr other ↦
      let said : Some (interior_by c s place offset) ≡ Some interior = sym (rw other refl) ∙ is in
      ap (λ (i : Interior). i.place) (sym (same_Some (interior_by c s place offset) interior said))
]
place_of_interior c s interior (Entry place) is = absurd cc
place_of_interior c s interior (Variable place) is = absurd cc
place_of_interior c s interior (Constant place) is = absurd cc
place_of_interior c s interior (Outside name) is = absurd cc
place_of_interior c s interior (Text place offset text) is = absurd cc

interior_stands : (c : Candidate) (s : Statement) (interior : Interior) → SaysField c s →
    interior_of c s ≡ Some interior → IsInteriorAt c (Firsts c) interior
interior_stands c s interior stands is = record {
  field = s.given;
  stands = subst (λ (spot : Spot). IsFieldAt c (Firsts c) spot s.given)
      (sym (place_of_interior c s interior s.given.goal is)) stands;
  named = named_in c s interior s.given.goal refl is;
}

all_interiors : (c : Candidate) → Match c (Firsts c) →
    All (IsInteriorAt c (Firsts c)) (filter_map (interior_of c) (statements c (all_found c)))
all_interiors c m =
    all_said (IsInteriorAt c (Firsts c)) (interior_of c) (statements c (all_found c))
    (All-weaker (SaysField c) (SaysAll (IsInteriorAt c (Firsts c)) (interior_of c))
    (λ s stands interior is. interior_stands c s interior stands is) (statements c (all_found c)) (all_fields c m))

abbrev with_parts : Interior → List ℕ → ℕ → Interior
with_parts interior section address = record {
  section = section;
  offset = interior.offset;
  address = address;
  place = interior.place;
}

interior_made : (c : Candidate) (interior : Interior) → IsInteriorAt c (Firsts c) interior →
    Contains (filter_map (interior_of c) (statements c (all_found c))) interior
interior_made c interior by =
    let s : Statement = statement_at interior.place by.field in
    let named = by.named in
    let address : ℕ = interior_address by.field.value interior.offset in
    let same : interior_by c s named.place interior.offset ≡ interior =
    ap (λ (section : List ℕ). with_parts interior section address) (sym named.section)
    ∙ ap (with_parts interior interior.section) (sym named.address) in
    subst (Contains (filter_map (interior_of c) (statements c (all_found c)))) same
    (contains_said (interior_of c) (statements c (all_found c)) s (interior_by c s named.place interior.offset)
    (field_stated c interior.place by.field by.stands)
    (said_other c s named.place interior.offset named.goes named.other))

abbrev AreInteriors : Candidate → Valuation → Matched → Type 0
AreInteriors c v m = (interior : Interior) → (Contains m.interiors interior ↔ IsInteriorAt c v interior)

stand_there : (c : Candidate) → Match c (Firsts c) → AreInteriors c (Firsts c) (Made c)
stand_there c m = λ interior. (
  (λ has. All-contains (IsInteriorAt c (Firsts c)) (filter_map (interior_of c) (statements c (all_found c))) interior
      (all_interiors c m) has),
  interior_made c interior,
)

pub interiors_under : (c : Candidate) (v : Valuation) (m : Matched) → Match c v → outcome c ≡ Ok m →
    (interior : Interior) → (Contains m.interiors interior ↔ IsInteriorAt c v interior)
interiors_under c v m match is =
    let (none, made) = no_difference c m is in
    let first : Match c (Firsts c) = matches c none in
    let same : Firsts c ≡ v = fun_ext (one_valuation c (Firsts c) v first match) in
    subst (λ (v : Valuation). AreInteriors c v m) same
    (subst (λ (m : Matched). AreInteriors c (Firsts c) m) (sym made) (stand_there c first))

abbrev DifferInPlace : Interior → Interior → Type 0
DifferInPlace interior other = interior.place ≢ other.place

pub each_once : (c : Candidate) (m : Matched) → IsInObject c → All HasFieldsApart c.object → outcome c ≡ Ok m →
    AllPairs DifferInPlace m.interiors
each_once c m own fields is =
    let (none, made) = no_difference c m is in
    subst (λ (m : Matched). AllPairs DifferInPlace m.interiors) (sym made)
    (pairs_said DifferInSpot DifferInPlace (interior_of c)
    (λ s t a b is_a is_b apart same. apart (sym (place_of_interior c s a s.given.goal is_a)
    ∙ same ∙ place_of_interior c t b t.given.goal is_b))
    (statements c (all_found c)) (spots_apart c own fields (matches c none)))
