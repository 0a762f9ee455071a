-- Candidates stand to one another as the choices that they are.
use Rattle.std.proofs.Common.{◌≡◌, ℕ, zero, suc, ◌+◌, ◌<◌, ◌≤◌, Bool, true, false, not, ◌&&◌}
use Rattle.std.proofs.Common.{◌||◌, cond, eqb, List, [], ◌∷◌, length, map, get_or, Option}
use Rattle.std.proofs.Common.{Some, None, Contains, refl, sym, ◌∙◌, ap, subst, inl, inr, arith}
use Rattle.std.specs.List.{All, cons_option, filter, filter_map, list_any}
use Rattle.std.specs.List.{position, position_or_len, range_with_len, slice_get}
use Rattle.std.specs.Option.{option_map, unwrap_or}
use Rattle.std.proofs.lemmas.Bool.{cases_Bool, cases_lt, cases_eq, false≢true, eq-eqb, ne_eqb, lt-ltb}
use Rattle.std.proofs.lemmas.Cmp.{nat_list_eq_equiv}
use Rattle.std.proofs.lemmas.List.Elements.{All-head, All-tail}
use Rattle.std.proofs.lemmas.List.Sums.{fails_before_first}
use Rattle.std.proofs.lemmas.List.Quantifiers.{position-Some}
use Rattle.std.proofs.lemmas.Option.{same_Some, slice_get-get_or}
use Rattle.std.specs.Cmp.Lexicographic.{bytes_decides}
use Rattle.i386_reloc.specs.declared.types.NormalSection.{NormalSection}
use Rattle.i386_reloc.specs.Normal.{same_bytes}
use Rattle.i386_reloc.specs.Places.{place_named}
use Rattle.i386_reloc.specs.laws.NamedPlaces.{section_at_place}
use Rattle.symbol_table.specs.declared.values.Unknown.{Unknown}
use Rattle.symbol_table.specs.declared.values.Unknown.TheVariants.{Code, Data, Outside}
use Rattle.symbol_table.specs.Unknowns.{same_unknown}
use Rattle.run_pre_match.specs.declared.types.Claim.{Claim}
use Rattle.run_pre_match.specs.declared.types.Interior.{Interior}
use Rattle.run_pre_match.specs.Candidate.{Candidate, same_number}
use Rattle.run_pre_match.specs.Matched.{outcome}
use Rattle.propagation.specs.laws.RoundLaws.{Maps}
use Rattle.propagation.specs.Choices as chosen
use Rattle.propagation.specs.Choices.{choice_rules, clash}
use Rattle.match_candidates.specs.Candidates.{Running, matches}
use Rattle.symbol_solve.specs.Clashes.{claims_of, interiors_of, contradict, is_unmet}
use Rattle.symbol_solve.specs.Clashes.{claims_clash, interiors_clash, clashes, candidate_rules}
use Rattle.symbol_solve.specs.declared.numbers.Point.{Point}
use Rattle.symbol_solve.specs.inside.Numbers.{Numbers, number_of, claim_of, point_at, demand_at, demand_of}
use Rattle.symbol_solve.specs.inside.Numbers.{same_point, point_number, meets, met_among, choice_of}
use Rattle.symbol_solve.specs.inside.Numbers.{IsUnknownNumbered, IsInteriorNumbered, IsNumbered, HasPoint}
use Rattle.symbol_solve.proofs.NumberLaws.{one_unknown, one_point}
use Rattle.symbol_solve.proofs.CandidateLaws.{IsHere}

-- a candidate whose claims and interiors have numbers
pub record IsKnown (running : Running) (object : List NormalSection) (numbers : Numbers) (c : Candidate) : Type 0 where
  pub here : IsHere running object c
  pub named : place_named object c.section.name ≡ Some c.place
  pub numbered : IsNumbered object numbers (outcome c)

-- ---- what has a number stands there
first_place : {X : Type 0} (p : X → Bool) (xs : List X) (x : X)
    → Contains xs x → p x ≡ true → position_or_len p xs < length xs
first_place p xs x has passes =
    elim (cases_lt (position_or_len p xs) (length xs)) [
      | inl below ↦ below
      | inr past ↦
          let fails : p (get_or xs has.0 x) ≡ false =
          fails_before_first p xs has.0 x (let lt = has.1 in omega (arith, lt, past)) in
          absurd (false≢true (sym (ap p (sym has.2) ∙ fails) ∙ passes))
    ]

first_at : {X : Type 0} (eq : X → X → Bool)
    → ((a b : X) → eq a b ≡ true → a ≡ b) → ((a : X) → eq a a ≡ true) → (xs : List X) (x : X) → Contains xs x
    → (unwrap_or (position (eq x) xs) 0 < length xs) × (slice_get xs (unwrap_or (position (eq x) xs) 0) ≡ Some x)
first_at eq one self xs x has =
    let k : ℕ = position_or_len (eq x) xs in
    let below : k < length xs = first_place (eq x) xs x has (self x) in
    let found : position (eq x) xs ≡ Some k = ap (λ b. cond b (Some k) None) (lt-ltb k (length xs) below) in
    let number : unwrap_or (position (eq x) xs) 0 ≡ k = ap (λ o. unwrap_or o 0) found in
    let passes = (position-Some (eq x) xs k x found).1 in
    let there : slice_get xs k ≡ Some x =
    slice_get-get_or xs k x below ∙ ap (λ y. Some y) (sym (one x (get_or xs k x) passes)) in
    (subst (λ n. n < length xs) (sym number) below, ap (slice_get xs) number ∙ there)

pub same_self : (u : Unknown) → same_unknown u u ≡ true
same_self (Code a) = nat_list_eq_equiv.refl a
same_self (Data a) = nat_list_eq_equiv.refl a
same_self (Outside a) = nat_list_eq_equiv.refl a

point_self : (p : Point) → same_point p p ≡ true
point_self p = rw (eq-eqb p.place p.place refl, eq-eqb p.offset p.offset refl, eq-eqb p.address p.address refl) refl

unknown_at : (unknowns : List Unknown) (u : Unknown)
    → Contains unknowns u → slice_get unknowns (number_of unknowns u) ≡ Some u
unknown_at unknowns u has = (first_at same_unknown one_unknown same_self unknowns u has).1

pub same_number_same_unknown : (unknowns : List Unknown) (u v : Unknown)
    → Contains unknowns u → Contains unknowns v → number_of unknowns u ≡ number_of unknowns v → u ≡ v
same_number_same_unknown unknowns u v has_u has_v same =
    same_Some u v (sym (unknown_at unknowns u has_u) ∙ ap (slice_get unknowns) same ∙ unknown_at unknowns v has_v)

numbers_agree : (unknowns : List Unknown) (u v : Unknown)
    → Contains unknowns u → Contains unknowns v → eqb (number_of unknowns u) (number_of unknowns v) ≡ same_unknown u v
numbers_agree unknowns u v has_u has_v =
    elim (cases_Bool (same_unknown u v)) [
      | inl same ↦ eq-eqb _ _ (ap (number_of unknowns) (one_unknown u v same)) ∙ sym same
      | inr apart ↦
          ne_eqb _ _
          (λ e.
          let one = same_number_same_unknown unknowns u v has_u has_v e in
          false≢true (sym apart ∙ ap (same_unknown u) (sym one) ∙ same_self u))
          ∙ sym apart
    ]

-- ---- tests of mapped lists
pub any_map : {X Y : Type 0} (P : X → Type 0) (p : Y → Bool) (q : X → Bool) (f : X → Y)
    → ((x : X) → P x → p (f x) ≡ q x) → (xs : List X) → All P xs → list_any p (map f xs) ≡ list_any q xs
any_map P p q f e [] each = refl
any_map P p q f e (x ∷ xs) each =
    ap (λ b. b || list_any p (map f xs)) (e x (All-head P x xs each))
    ∙ ap (λ b. q x || b) (any_map P p q f e xs (All-tail P x xs each))

any_agree : {X : Type 0} (P : X → Type 0) (p q : X → Bool)
    → ((x : X) → P x → p x ≡ q x) → (xs : List X) → All P xs → list_any p xs ≡ list_any q xs
any_agree P p q e [] each = refl
any_agree P p q e (x ∷ xs) each =
    ap (λ b. b || list_any p xs) (e x (All-head P x xs each))
    ∙ ap (λ b. q x || b) (any_agree P p q e xs (All-tail P x xs each))

abbrev holds_of : {Y : Type 0} → (Y → Bool) → Option Y → Bool
holds_of p None = false
holds_of p (Some y) = p y

any_filter_map : {X Y : Type 0} (p : Y → Bool) (h : X → Option Y) (xs : List X)
    → list_any p (filter_map h xs) ≡ list_any (λ x. holds_of p (h x)) xs
any_filter_map p h [] = refl
any_filter_map {X} {Y} p h (x ∷ xs) = by (h x) (any_filter_map p h xs)
  where
    by : (o : Option Y) → list_any p (filter_map h xs) ≡ list_any (λ y. holds_of p (h y)) xs
        → list_any p (cons_option o (filter_map h xs)) ≡ (holds_of p o || list_any (λ y. holds_of p (h y)) xs)
    by None rest = rest
    by (Some y) rest = ap (λ b. p y || b) rest

-- ---- claims
claims_alike : (unknowns : Numbers) (a b : Claim) → IsUnknownNumbered unknowns a
    → IsUnknownNumbered unknowns b → chosen.contradict (claim_of unknowns a) (claim_of unknowns b) ≡ contradict a b
claims_alike numbers a b has_a has_b =
    ap (λ same. same && not (eqb a.value b.value)) (numbers_agree numbers.unknowns a.unknown b.unknown has_a has_b)

claims_map : (numbers : Numbers) (ones others : List Claim)
    → All (IsUnknownNumbered numbers) ones → All (IsUnknownNumbered numbers) others
    → list_any (λ a. list_any (chosen.contradict a) (map (claim_of numbers) others)) (map (claim_of numbers) ones)
    ≡ list_any (λ a. list_any (contradict a) others) ones
claims_map numbers ones others each these =
    any_map (IsUnknownNumbered numbers) (λ a. list_any (chosen.contradict a) (map (claim_of numbers) others))
    (λ a. list_any (contradict a) others) (claim_of numbers)
    (λ a has. any_map (IsUnknownNumbered numbers) (chosen.contradict (claim_of numbers a))
    (contradict a) (claim_of numbers) (λ b here. claims_alike numbers a b has here) others these)
    ones each

-- ---- a number among those that pass
none_later : (test : ℕ → Bool) (k a n : ℕ) → k < a → list_any (λ m. eqb m k) (filter test (range_with_len a n)) ≡ false
none_later test k a zero above = refl
none_later test k a (suc n) above =
    let other : eqb a k ≡ false = ne_eqb a k (λ e. omega (arith, e, above)) in
    let rest = none_later test k (a + 1) n (omega arith) in
    elim (test a) as (λ b. list_any (λ m. eqb m k)
    (cond b (a ∷ filter test (range_with_len (a + 1) n)) (filter test (range_with_len (a + 1) n))) ≡ false) [
      | true ↦ ap (λ b. b || list_any (λ m. eqb m k) (filter test (range_with_len (a + 1) n))) other ∙ rest
      | false ↦ rest
    ]

any_from : (test : ℕ → Bool) (k a n : ℕ)
    → a ≤ k → k < a + n → list_any (λ m. eqb m k) (filter test (range_with_len a n)) ≡ test k
any_from test k a zero low high = absurd (omega arith)
any_from test k a (suc n) low high =
    let tail : List ℕ = filter test (range_with_len (a + 1) n) in
    elim (cases_eq a k) [
      | inl here ↦
          let rest : list_any (λ m. eqb m k) tail ≡ false = none_later test k (a + 1) n (omega arith) in
          let by : (b : Bool) → list_any (λ m. eqb m k) (cond b (a ∷ tail) tail) ≡ b =
          λ b. elim b as (λ t. list_any (λ m. eqb m k) (cond t (a ∷ tail) tail) ≡ t)
          [ true ↦ ap (λ t. t || list_any (λ m. eqb m k) tail) (eq-eqb a k here) | false ↦ rest ] in
          by (test a) ∙ ap test here
      | inr apart ↦
          let rest : list_any (λ m. eqb m k) tail ≡ test k = any_from test k (a + 1) n (omega arith) (omega arith) in
          let by : (b : Bool) → list_any (λ m. eqb m k) (cond b (a ∷ tail) tail) ≡ test k =
          λ b. elim b as (λ t. list_any (λ m. eqb m k) (cond t (a ∷ tail) tail) ≡ test k)
          [ true ↦ ap (λ t. t || list_any (λ m. eqb m k) tail) (ne_eqb a k apart) ∙ rest | false ↦ rest ] in
          by (test a)
    ]

met_here : (numbers : Numbers) (d : Candidate) (p : Point) → Contains numbers.points p
    → list_any (λ n. eqb n (point_number numbers.points p)) (met_among numbers d) ≡ meets d (Some p)
met_here numbers d p has =
    let (below, there) = first_at same_point one_point point_self numbers.points p has in
    any_from (λ n. meets d (slice_get numbers.points n))
    (point_number numbers.points p) 0 (length numbers.points) (omega arith) (omega (arith, below))
    ∙ ap (meets d) there

-- ---- interiors
-- the place of a name is that of a candidate exactly where the name is its section's
place_alike : (object : List NormalSection) (d : Candidate) (name : List ℕ) (p : ℕ)
    → slice_get object d.place ≡ Some d.section → place_named object d.section.name ≡ Some d.place
    → place_named object name ≡ Some p → eqb p d.place ≡ same_bytes name d.section.name
place_alike object d name p at named there =
    elim (cases_Bool (same_bytes name d.section.name)) [
      | inl same ↦
          let e : name ≡ d.section.name = (bytes_decides name d.section.name).0 same in
          let one : p ≡ d.place = same_Some p d.place (sym there ∙ ap (place_named object) e ∙ named) in
          eq-eqb p d.place one ∙ sym same
      | inr apart ↦
          ne_eqb p d.place
          (λ e.
          let (s, found, name_is) = section_at_place object name p there in
          let one : s ≡ d.section = same_Some s d.section (sym found ∙ ap (slice_get object) e ∙ at) in
          let names : name ≡ d.section.name = sym name_is ∙ ap (λ (t : NormalSection). t.name) one in
          false≢true (sym apart ∙ (bytes_decides name d.section.name).1 names))
          ∙ sym apart
    ]

no_place : (object : List NormalSection) (d : Candidate) (name : List ℕ) → place_named object d.section.name
    ≡ Some d.place → place_named object name ≡ None → same_bytes name d.section.name ≡ false
no_place object d name named none =
    elim (cases_Bool (same_bytes name d.section.name)) [
      | inl same ↦
          let e : None ≡ Some d.place =
          sym none ∙ ap (place_named object) ((bytes_decides name d.section.name).0 same) ∙ named in
          absurd cc
      | inr apart ↦ apart
    ]

only_here : (a b : Bool) → (a && not (a && b)) ≡ (a && not b)
only_here true b = refl
only_here false b = refl

-- what a demand of an interior asks of a candidate that matches, by the place of the interior's section
unmet_by : (object : List NormalSection) (numbers : Numbers) (d : Candidate) (i : Interior)
    → slice_get object d.place ≡ Some d.section → place_named object d.section.name ≡ Some d.place → matches d ≡ true
    → (o : Option ℕ) → place_named object i.section ≡ o → HasPoint numbers.points (option_map (point_at i) o)
    → holds_of (chosen.is_unmet (choice_of object numbers d))
    (option_map (demand_at numbers) (option_map (point_at i) o)) ≡ is_unmet d i
unfolding choice_of
unmet_by object numbers d i at named matching None there has =
    sym (ap (λ b. b && not (same_number d i.offset i.address)) (no_place object d i.section named there))
unmet_by object numbers d i at named matching (Some p) there has =
    ap (λ b. eqb p d.place && not (list_any (λ n. eqb n (point_number numbers.points (point_at i p)))
    (cond b (met_among numbers d) []))) matching
    ∙ ap (λ b. eqb p d.place && not b) (met_here numbers d (point_at i p) has)
    ∙ only_here (eqb p d.place) (same_number d i.offset i.address)
    ∙ ap (λ b. b && not (same_number d i.offset i.address)) (place_alike object d i.section p at named there)

interiors_map : (object : List NormalSection) (numbers : Numbers) (d : Candidate) (is : List Interior)
    → slice_get object d.place ≡ Some d.section
    → place_named object d.section.name ≡ Some d.place → matches d ≡ true → All (IsInteriorNumbered object numbers) is
    → list_any (chosen.is_unmet (choice_of object numbers d)) (filter_map (demand_of object numbers) is)
    ≡ list_any (is_unmet d) is
interiors_map object numbers d is at named matching each =
    any_filter_map (chosen.is_unmet (choice_of object numbers d)) (demand_of object numbers) is
    ∙ any_agree (IsInteriorNumbered object numbers)
    (λ i. holds_of (chosen.is_unmet (choice_of object numbers d)) (demand_of object numbers i)) (is_unmet d)
    (λ i has. unmet_by object numbers d i at named matching (place_named object i.section) refl has) is each

-- ---- all rules
gate : (s m n p q : Bool) → (m ≡ true → n ≡ true → p ≡ q) → (s && m && n && p) ≡ (s && m && n && q)
gate true true true p q same = same refl refl
gate true true false p q same = refl
gate true false n p q same = refl
gate false m n p q same = refl

module _ (running : Running) (object : List NormalSection) (numbers : Numbers) where
  either_same : (a b : Candidate)
      → IsKnown running object numbers a → IsKnown running object numbers b → matches a ≡ true → matches b ≡ true →
      (chosen.claims_clash (choice_of object numbers a) (choice_of object numbers b)
      || chosen.demands_clash (choice_of object numbers a) (choice_of object numbers b)
      || chosen.demands_clash (choice_of object numbers b) (choice_of object numbers a))
      ≡ (claims_clash a b || interiors_clash a b || interiors_clash b a)
  unfolding choice_of
  either_same a b here there is_a is_b =
      let one = claims_map numbers (claims_of a) (claims_of b) here.numbered.claims there.numbered.claims in
      let two =
      interiors_map object numbers b (interiors_of a) there.here.at there.named is_b here.numbered.interiors in
      let three =
      interiors_map object numbers a (interiors_of b) here.here.at here.named is_a there.numbered.interiors in
      λ i. one i || two i || three i

  clash_same : (a b : Candidate) → IsKnown running object numbers a → IsKnown running object numbers b
      → clash (choice_of object numbers a) (choice_of object numbers b) ≡ clashes a b
  unfolding choice_of clash clashes
  clash_same a b here there =
      gate (not (eqb a.place b.place)) (matches a) (matches b)
      (chosen.claims_clash (choice_of object numbers a) (choice_of object numbers b)
      || chosen.demands_clash (choice_of object numbers a) (choice_of object numbers b)
      || chosen.demands_clash (choice_of object numbers b) (choice_of object numbers a))
      (claims_clash a b || interiors_clash a b || interiors_clash b a)
      (either_same a b here there)

  pub candidates_map : Maps (IsKnown running object numbers) candidate_rules choice_rules (choice_of object numbers)
  unfolding choice_of
  candidates_map = record {
    same_section = λ a b here there. refl;
    same = λ a b here there. refl;
    matches = λ a here. refl;
    clashes = clash_same;
  }
