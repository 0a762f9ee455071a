-- What is said of a match is what the first values give.
use Rattle.std.proofs.Common.{◌≡◌, ◌==◌, ◌≢◌, inl, inr, ℕ, zero, suc, ◌+◌, ◌<◌, true, List, []}
use Rattle.std.proofs.Common.{◌∷◌, length, Option, Some, None, option_map, All, refl, sym, ◌∙◌, ap, subst}
use Rattle.std.proofs.Common.{arith, Ok}
use mathlib.Core.Path.{fun_ext}
use Rattle.std.specs.List.{Contains, slice_get, filter_map, flat_map}
use Rattle.std.proofs.lemmas.Bool.{cases_Bool, eqb-true, eq-eqb}
use Rattle.std.proofs.lemmas.List.Elements.{All-nil, All-weaker, All-append, All-map}
use Rattle.std.proofs.lemmas.List.Elements.{All-contains, All-contains_itself, Contains-append_left}
use Rattle.std.proofs.lemmas.List.Elements.{Contains-append_right}
use Rattle.ks_base.specs.declared.places.Spot.{Spot}
use Rattle.i386_reloc.specs.declared.types.Ref.{Ref}
use Rattle.i386_reloc.specs.declared.types.NormalSection.{NormalSection}
use Rattle.symbol_table.specs.declared.values.Unknown.{Unknown}
use Rattle.run_pre_match.specs.declared.goals.Goal.{Goal}
use Rattle.run_pre_match.specs.declared.goals.Goal.TheVariants.{Entry, Inside, Variable, Constant, Outside, Text}
use Rattle.run_pre_match.specs.declared.goals.Given.{Given}
use Rattle.run_pre_match.specs.declared.types.Interior.{Interior}
use Rattle.run_pre_match.specs.declared.types.Matched.{Matched}
use Rattle.run_pre_match.specs.Candidate.{Candidate, Pair, pairs}
use Rattle.run_pre_match.specs.Goals.{interior_address}
use Rattle.run_pre_match.specs.Found.{Found, first_value, all_found}
use Rattle.run_pre_match.specs.Matched.{Statement, spot_at, stated_in_pair, stated_by_pair, stated_in_constant}
use Rattle.run_pre_match.specs.Matched.{stated_at, stated_from, statements, name_at, unknown_of, claim_about, claim_of}
use Rattle.run_pre_match.specs.Matched.{home_claim, interior_at, interior_of, matched_by, outcome}
use Rattle.run_pre_match.specs.Match.{Valuation, is_valued, IsField, InCode, InConstant, IsMeant, Match, IsSaid}
use Rattle.run_pre_match.specs.Match.{Agrees, IsClaimed, IsNamed, Says}
use Rattle.run_pre_match.specs.Places.{IsFieldAt, AtCode, AtConstant}
use Rattle.run_pre_match.proofs.Claims.{no_difference, all_stated, Claimed, claimed}
use Rattle.run_pre_match.proofs.Valuations.{matches, one_valuation, value_of_both, field_of_both}
use Rattle.run_pre_match.proofs.ListParts.{front, behind, each_of, unmapped, all_flat, SaysAll, all_said, contains_said}

each_stated : (P : Statement → Type 0) (c : Candidate) (found : List Found) (place : ℕ)
    (sections : List NormalSection) → All P (stated_from c found place sections) →
    (k : ℕ) (section : NormalSection) → slice_get sections k ≡ Some section →
    All P (stated_at c section (first_value found (Constant (k + place))))
unfolding stated_from
each_stated P c found place [] all k section at = absurd cc
each_stated P c found place (s ∷ sections) all zero section at =
    let e : s ≡ section = cc in
    let zeroth : place ≡ 0 + place = omega arith in
    subst (λ (n : ℕ). All P (stated_at c section (first_value found (Constant n)))) zeroth
    (subst (λ (s : NormalSection). All P (stated_at c s (first_value found (Constant place)))) e
    (front P (stated_at c s (first_value found (Constant place))) (stated_from c found (suc place) sections) all))
each_stated P c found place (s ∷ sections) all (suc k) section at =
    let next : k + suc place ≡ suc k + place = omega arith in
    subst (λ (n : ℕ). All P (stated_at c section (first_value found (Constant n)))) next
    (each_stated P c found (suc place) sections
    (behind P (stated_at c s (first_value found (Constant place))) (stated_from c found (suc place) sections) all) k
    section at)

-- a field that counts, at its place and by itself
field_of : (c : Candidate) (v : Valuation) (spot : Spot) (field : Given) → IsFieldAt c v spot field → IsField c v field
field_of c v spot field (AtCode pair r in_pairs in_pair) = InCode pair r in_pairs in_pair
field_of c v spot field (AtConstant by place base section r counts goes value at in_section) =
    InConstant by place base section r counts goes value at in_section

spot_of : (c : Candidate) (v : Valuation) (field : Given) → IsField c v field → (spot : Spot) × IsFieldAt c v spot field
spot_of c v field (InCode pair r in_pairs in_pair) =
    (spot_at c.section.name r.offset, AtCode pair r in_pairs in_pair)
spot_of c v field (InConstant by place base section r counts goes value at in_section) =
    (spot_at section.name r.offset, AtConstant by place base section r counts goes value at in_section)

-- all that is said is what fields give that count, each at its place
abbrev pub Firsts : Candidate → Valuation
Firsts c = first_value (all_found c)

abbrev pub SaysField : Candidate → Statement → Type 0
SaysField c s = IsFieldAt c (Firsts c) s.spot s.given

pub constant_meant : (c : Candidate) → Match c (Firsts c) → (place base : ℕ) → Firsts c (Constant place) ≡ Some base →
    IsMeant c (Firsts c) (Constant place)
constant_meant c m place base is = elim (m.no_more (Constant place) base is).1 [
  | inl own ↦ absurd cc
  | inr meant ↦
      meant
]

stated_field : (c : Candidate) → Match c (Firsts c) → (place : ℕ) (section : NormalSection) (o : Option ℕ) →
    slice_get c.object place ≡ Some section → Firsts c (Constant place) ≡ o →
    All (SaysField c) (stated_at c section o)
stated_field c m place section None at is = All-nil (SaysField c)
stated_field c m place section (Some base) at is =
    let by = constant_meant c m place base is in
    All-map (SaysField c) (stated_in_constant c section base) section.refs
    (All-weaker (Contains section.refs) (λ (r : Ref). SaysField c (stated_in_constant c section base r))
    (λ r here. AtConstant by.field place base section r by.counts by.goes_there is at here) section.refs
    (All-contains_itself section.refs))

pair_fields : (c : Candidate) (pair : Pair) → Contains (pairs c) pair → All (SaysField c) (stated_by_pair c pair)
pair_fields c pair has =
    All-map (SaysField c) (stated_in_pair c pair) pair.pre.references
    (All-weaker (Contains pair.pre.references) (λ (r : Ref). SaysField c (stated_in_pair c pair r))
    (λ r here. AtCode pair r has here) pair.pre.references
    (All-contains_itself pair.pre.references))

pub all_fields : (c : Candidate) → Match c (Firsts c) → All (SaysField c) (statements c (all_found c))
all_fields c m =
    All-append (SaysField c) (flat_map (stated_by_pair c) (pairs c)) (stated_from c (all_found c) 0 c.object)
    (all_flat (SaysField c) (stated_by_pair c) (pairs c)
    (All-weaker (Contains (pairs c)) (λ (pair : Pair). All (SaysField c) (stated_by_pair c pair)) (pair_fields c)
    (pairs c) (All-contains_itself (pairs c))))
    (all_stated (SaysField c) c (all_found c) 0 c.object (λ k section at.
    let same : k ≡ k + 0 = omega arith in
    stated_field c m (k + 0) section (first_value (all_found c) (Constant (k + 0)))
    (subst (λ (n : ℕ). slice_get c.object n ≡ Some section) same at) refl))

-- and each such field says what it gives
abbrev pub statement_at : Spot → Given → Statement
statement_at spot field = record { spot = spot; given = field }

pub field_stated : (c : Candidate) (spot : Spot) (field : Given) → IsFieldAt c (Firsts c) spot field →
    Contains (statements c (all_found c)) (statement_at spot field)
field_stated c spot field (AtCode pair r in_pairs in_pair) =
    let P : Statement → Type 0 = Contains (statements c (all_found c)) in
    let of_pairs = each_of P (stated_by_pair c) (pairs c)
    (front P (flat_map (stated_by_pair c) (pairs c)) (stated_from c (all_found c) 0 c.object)
    (All-contains_itself (statements c (all_found c)))) in
    let of_pair = unmapped P (stated_in_pair c pair) pair.pre.references
    (All-contains (λ (pair : Pair). All P (stated_by_pair c pair)) (pairs c) pair of_pairs in_pairs) in
    All-contains (λ (r : Ref). P (stated_in_pair c pair r)) pair.pre.references r of_pair in_pair
field_stated c spot field (AtConstant by place base section r counts goes value at in_section) =
    let P : Statement → Type 0 = Contains (statements c (all_found c)) in
    let same : place + 0 ≡ place = omega arith in
    let there = each_stated P c (all_found c) 0 c.object
    (behind P (flat_map (stated_by_pair c) (pairs c)) (stated_from c (all_found c) 0 c.object)
    (All-contains_itself (statements c (all_found c)))) place section at in
    let here : All P (stated_at c section (Some base)) =
    subst (λ (o : Option ℕ). All P (stated_at c section o)) (ap (λ n. Firsts c (Constant n)) same ∙ value) there in
    All-contains (λ (r : Ref). P (stated_in_constant c section base r)) section.refs r
    (unmapped P (stated_in_constant c section base) section.refs here) in_section

-- interiors that are said
abbrev pub interior_by : Candidate → Statement → ℕ → ℕ → Interior
interior_by c s place offset = record {
  section = name_at c place;
  offset = offset;
  address =
      interior_address s.given.value offset;
  place = s.spot;
}

pub named_in : (c : Candidate) (s : Statement) (interior : Interior) (goal : Goal) → s.given.goal ≡ goal →
    interior_at c s goal ≡ Some interior → IsNamed c interior s.given
named_in c s interior (Inside place offset) goes is = elim (cases_Bool (place == c.place)) [
  | inl own ↦ absurd (let none : interior_at c s (Inside place offset) ≡ None = rw own refl in cc)
  | inr other ↦
      let said : Some (interior_by c s place offset) ≡ Some interior = sym (rw other refl) ∙ is in
      let same : interior_by c s place offset ≡ interior = cc in
      subst (λ (i : Interior). IsNamed c i s.given) same (record {
        place = place;
        goes = goes;
        other = λ e. absurd (let own : place == c.place ≡ true = eq-eqb place c.place e in cc);
        section = refl;
        address = refl;
      })
]
named_in c s interior (Entry place) goes is = absurd cc
named_in c s interior (Variable place) goes is = absurd cc
named_in c s interior (Constant place) goes is = absurd cc
named_in c s interior (Outside name) goes is = absurd cc
named_in c s interior (Text place offset text) goes is = absurd cc

pub said_other : (c : Candidate) (s : Statement) (place offset : ℕ) → s.given.goal ≡ Inside place offset →
    place ≢ c.place → interior_of c s ≡ Some (interior_by c s place offset)
said_other c s place offset goes other = ap (interior_at c s) goes ∙ elim (cases_Bool (place == c.place)) [
  | inl own ↦ absurd (other (eqb-true place c.place own))
  | inr apart ↦ rw apart refl
]

-- what a match says
abbrev pub Made : Candidate → Matched
Made c = matched_by c (statements c (all_found c))

all_claimed : (c : Candidate) → slice_get c.object c.place ≡ Some c.section → Match c (Firsts c) →
    (goal : Goal) (about : Unknown) (value : ℕ) → unknown_of c goal ≡ Some about →
    Firsts c goal ≡ Some value → IsClaimed (Made c).claims about value
all_claimed c at m goal about value speaks is =
    let (valued, meant) = m.no_more goal value is in
    elim meant [
      | inl own ↦
          let home : Firsts c goal ≡ Some c.home = ap (Firsts c) own ∙ m.home in
          let name : unknown_of c goal ≡ Some (home_claim c).unknown = ap (unknown_of c) own ∙ rw at refl in
          record {
            claim = home_claim c;
            made = Contains-append_left (home_claim c ∷ []) (filter_map (claim_of c) (statements c (all_found c)))
                (home_claim c) (0, (let lt : 0 < length (home_claim c ∷ []) = omega arith in lt), refl);
            speaks = cc;
            says = cc;
          }
      | inr by ↦
          let (spot, stands) = spot_of c (Firsts c) by.field by.counts in
          let s : Statement = statement_at spot by.field in
          let says : claim_of c s ≡ Some (claim_about s about) =
          ap (option_map (claim_about s)) (ap (unknown_of c) by.goes_there ∙ speaks) in
          let gives : Firsts c goal ≡ Some by.field.value =
          ap (Firsts c) (sym by.goes_there)
          ∙ m.one_value by.field by.counts (ap is_valued by.goes_there ∙ valued) in
          record {
            claim = claim_about s about;
            made = Contains-append_right (home_claim c ∷ []) (filter_map (claim_of c) (statements c (all_found c)))
                (claim_about s about)
                (contains_said (claim_of c) (statements c (all_found c)) s (claim_about s about)
                (field_stated c spot by.field stands) says);
            speaks = refl;
            says = cc;
          }
    ]

says : (c : Candidate) → slice_get c.object c.place ≡ Some c.section → outcome c ≡ Ok (Made c) → Match c (Firsts c) →
    Says c (Firsts c) (Made c)
says c at is m = record {
  claims = All-weaker (Claimed c (all_found c)) (IsSaid c (Firsts c))
      (λ claim said. record { goal = said.goal; speaks = said.speaks; value = said.first }) (Made c).claims
      (claimed c (Made c) at is);
  all_claims = all_claimed c at m;
  interiors =
      all_said (λ (interior : Interior). (field : Given) × IsField c (Firsts c) field × IsNamed c interior field)
      (interior_of c) (statements c (all_found c))
      (All-weaker (SaysField c) (SaysAll (λ (interior : Interior). (field : Given) × IsField c (Firsts c) field
      × IsNamed c interior field) (interior_of c))
      (λ s stands interior e.
      (s.given, field_of c (Firsts c) s.spot s.given stands, named_in c s interior s.given.goal refl e))
      (statements c (all_found c)) (all_fields c m));
  all_interiors = λ field place offset counts goes other.
      let (spot, stands) = spot_of c (Firsts c) field counts in
      let s : Statement = statement_at spot field in (
        interior_by c s place offset,
        contains_said (interior_of c) (statements c (all_found c)) s (interior_by c s place offset)
            (field_stated c spot field stands) (said_other c s place offset goes other),
        record { place = place; goes = goes; other = other; section = refl; address = refl },
      );
}

-- where a candidate comes to a match, there is a valuation
pub matched_under : (c : Candidate) (m : Matched) → outcome c ≡ Ok m → (v : Valuation) × Match c v
matched_under c m is = (Firsts c, matches c (no_difference c m is).0)

-- what is said of a match is what its valuation gives
pub said_under : (c : Candidate) (v : Valuation) (m : Matched) → slice_get c.object c.place ≡ Some c.section →
    Match c v →
    outcome c ≡ Ok m → Says c v m
said_under c v m at match is =
    let (none, made) = no_difference c m is in
    let first : Match c (Firsts c) = matches c none in
    let same : Firsts c ≡ v = fun_ext (one_valuation c (Firsts c) v first match) in
    subst (λ (v : Valuation). Says c v m) same
    (subst (λ (m : Matched). Says c (Firsts c) m) (sym made) (says c at (is ∙ ap (λ (m : Matched). Ok m) made) first))

-- Where all agrees under a valuation that may give more, each claim has its value, and each interior is that of a field
-- that counts under it.
pub claims_agreed : (c : Candidate) (v : Valuation) (m : Matched) → slice_get c.object c.place ≡ Some c.section →
    Agrees c v → outcome c ≡ Ok m → All (IsSaid c v) m.claims
claims_agreed c v m at agrees is =
    let (w, match) = matched_under c m is in
    All-weaker (IsSaid c w) (IsSaid c v)
    (λ claim said. record {
      goal = said.goal;
      speaks = said.speaks;
      value = value_of_both c w v match agrees said.goal claim.value said.value;
    }) m.claims
    (said_under c w m at match is).claims

pub interiors_agreed : (c : Candidate) (v : Valuation) (m : Matched) → slice_get c.object c.place ≡ Some c.section →
    Agrees c v → outcome c ≡ Ok m →
    All (λ interior. (field : Given) × IsField c v field × IsNamed c interior field) m.interiors
interiors_agreed c v m at agrees is =
    let (w, match) = matched_under c m is in
    All-weaker (λ (interior : Interior). (field : Given) × IsField c w field × IsNamed c interior field)
    (λ (interior : Interior). (field : Given) × IsField c v field × IsNamed c interior field)
    (λ interior (field, counts, named).
    (field, field_of_both c w v match.one_value agrees.one_value field counts, named)) m.interiors
    (said_under c w m at match is).interiors
