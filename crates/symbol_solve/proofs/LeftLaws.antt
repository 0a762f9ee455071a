-- What propagation of choices says of the candidates.
use Rattle.std.proofs.Common.{◌≡◌, ℕ, zero, suc, ◌<◌, Bool, true, false, cond, List, [], ◌∷◌}
use Rattle.std.proofs.Common.{length, map, get_or, Option, Some, None, refl, sym, ◌∙◌, ap, subst}
use Rattle.std.specs.List.{All, AllByRecursion, IsDistinct, filter, range_with_len, slice_get}
use Rattle.std.specs.Option.{option_map, option_or, option_and_then}
use Rattle.std.proofs.lemmas.List.Elements.{All-head, All-tail, All-map, All-filter}
use Rattle.std.proofs.lemmas.Option.{same_Some, slice_get-map, slice_get_within, get_or_from_slice_get}
use Rattle.std.proofs.lemmas.Cmp.{nat_list_eq_equiv}
use Rattle.i386_reloc.specs.declared.types.NormalSection.{NormalSection}
use Rattle.i386_reloc.specs.Normal.{same_bytes, name_of}
use Rattle.i386_reloc.specs.Places.{place_named}
use Rattle.run_pre_match.specs.Candidate.{Candidate}
use Rattle.run_pre_match.specs.Matched.{outcome}
use Rattle.propagation.specs.declared.choice.Choice.{Choice}
use Rattle.propagation.specs.Rounds.{Rules, remaining, forced, is_among}
use Rattle.propagation.specs.Conflicts.{first_some, first_of_two, first_between, clashing, conflict}
use Rattle.propagation.specs.laws.RoundLaws.{both, remaining_maps, remaining_each, forced_maps, forced_each, conflict_maps}
use Rattle.propagation.specs.Choices as chosen
use Rattle.propagation.specs.Choices.{AreChoices, choice_rules, by_section}
use Rattle.match_candidates.specs.Candidates.{Running, candidate_at, candidates, is_of}
use Rattle.symbol_solve.specs.Clashes.{candidate_rules}
use Rattle.symbol_solve.specs.Conflicts.{by_place}
use Rattle.symbol_solve.specs.inside.Numbers.{Numbers, choice_of, IsNumbered}
use Rattle.symbol_solve.specs.inside.Left as left
use Rattle.symbol_solve.specs.inside.Left.{pair_at}
use Rattle.symbol_solve.proofs.CandidateLaws.{placed, candidates_here}
use Rattle.symbol_solve.proofs.OrderLaws.{MatchesAgree, are_choices}
use Rattle.symbol_solve.proofs.MapLaws.{IsKnown, any_map, candidates_map}

-- ---- lists and pairs
map_on : {X Y Z : Type 0} (P : X → Type 0) (g : Y → Z) (h : X → Z) (f : X → Y)
    → ((x : X) → P x → g (f x) ≡ h x) → (xs : List X) → All P xs → map g (map f xs) ≡ map h xs
map_on P g h f same [] each = refl
map_on P g h f same (x ∷ xs) each =
    λ i. same x (All-head P x xs each) i ∷ map_on P g h f same xs (All-tail P x xs each) i

pub filter_through : {X Y : Type 0} (p : Y → Bool) (q : X → Bool) (f : X → Y)
    → ((x : X) → p (f x) ≡ q x) → (xs : List X) → filter p (map f xs) ≡ map f (filter q xs)
filter_through p q f same [] = refl
filter_through {X} {Y} p q f same (x ∷ xs) =
    ap (λ b. cond b (f x ∷ filter p (map f xs)) (filter p (map f xs))) (same x)
    ∙ by (q x) (filter_through p q f same xs)
  where
    by : (b : Bool) → filter p (map f xs) ≡ map f (filter q xs)
        → cond b (f x ∷ filter p (map f xs)) (filter p (map f xs)) ≡ map f (cond b (x ∷ filter q xs) (filter q xs))
    by true rest = ap (λ l. f x ∷ l) rest
    by false rest = rest

-- both of a pair, where there is one
abbrev pub OfPair : {X : Type 0} → (X → Type 0) → Option (X × X) → Type 0
OfPair P None = Unit {0}
OfPair P (Some pair) = P pair.0 × P pair.1

pair_or : {X : Type 0} (P : X → Type 0) (a b : Option (X × X)) → OfPair P a → OfPair P b → OfPair P (option_or a b)
pair_or P None b one two = two
pair_or P (Some pair) b one two = one

first_pair : {X Y : Type 0} (P : X → Type 0) (Q : Y → Type 0) (g : Y → Option (X × X))
    → ((y : Y) → Q y → OfPair P (g y)) → (ys : List Y) → All Q ys → OfPair P (first_some g ys)
unfolding first_some
first_pair P Q g holds [] each = tt
first_pair P Q g holds (y ∷ ys) each =
    pair_or P
    (g y) (first_some g ys) (holds y (All-head Q y ys each)) (first_pair P Q g holds ys (All-tail Q y ys each))

clashing_pair : {X : Type 0} (P : X → Type 0) (rules : Rules X) (a b : X) → P a → P b → OfPair P (clashing rules a b)
clashing_pair P rules a b here there =
    elim (rules.clashes a b) as (λ t. OfPair P (cond t (Some (a, b)) None)) [ true ↦ (here, there) | false ↦ tt ]

pub conflict_pair : {X : Type 0} (P : X → Type 0) (rules : Rules X) (sections : List (List X))
    → All (All P) sections → OfPair P (conflict rules sections)
unfolding first_between
conflict_pair P rules [] each = tt
conflict_pair P rules (ones ∷ rest) each =
    let here = All-head (All P) ones rest each in
    let later = All-tail (All P) ones rest each in
    pair_or P (first_some (first_of_two (clashing rules) ones) rest) (first_between (clashing rules) rest)
    (first_pair P (All P) (first_of_two (clashing rules) ones)
    (λ others these. first_pair P P (λ x. first_some (clashing rules x) others)
    (λ x h. first_pair P P (clashing rules x) (λ y k. clashing_pair P rules x y h k) others these) ones here)
    rest later)
    (conflict_pair P rules rest later)

-- two at places are of a list
at_each : {X : Type 0} (P : X → Type 0) (xs : List X)
    → All P xs → (i : ℕ) (o : Option X) → slice_get xs i ≡ o → (x : X) → o ≡ Some x → P x
at_each P xs each i o at x is =
    let here = at ∙ is in
    subst P (get_or_from_slice_get xs i x x here) (each i x (slice_get_within xs i x here))

pairs_known : (P : Candidate → Type 0) (cs : List Candidate)
    → All P cs → (o : Option (ℕ × ℕ)) → OfPair P (option_and_then (pair_at cs) o)
pairs_known P cs each None = tt
pairs_known P cs each (Some places) = by (slice_get cs places.0) (slice_get cs places.1)
    (at_each P cs each places.0 (slice_get cs places.0) refl) (at_each P cs each places.1 (slice_get cs places.1) refl)
  where
    by : (a b : Option Candidate)
        → ((x : Candidate) → a ≡ Some x → P x) → ((x : Candidate) → b ≡ Some x → P x) → OfPair P (left.pair_of a b)
    by None b one two = tt
    by (Some c) None one two = tt
    by (Some c) (Some d) one two = (one c refl, two d refl)

pairs_map : (f : Candidate → Choice) (cs : List Candidate) (o : Option (ℕ × ℕ))
    → option_and_then (chosen.pair_at (map f cs)) o ≡ option_map (both f) (option_and_then (pair_at cs) o)
pairs_map f cs None = refl
pairs_map f cs (Some places) =
    (λ i. chosen.pair_of (slice_get-map f cs places.0 i) (slice_get-map f cs places.1 i))
    ∙ by (slice_get cs places.0) (slice_get cs places.1)
  where
    by : (a b : Option Candidate)
        → chosen.pair_of (option_map f a) (option_map f b) ≡ option_map (both f) (left.pair_of a b)
    by None b = refl
    by (Some c) None = refl
    by (Some c) (Some d) = refl

-- ---- the propagated choices
module _ (running : Running) (object : List NormalSection) (numbers : Numbers) where
  -- one choice is of one candidate
  one_candidate : (c d : Candidate) → IsKnown running object numbers c
      → IsKnown running object numbers d → choice_of object numbers c ≡ choice_of object numbers d → c ≡ d
  unfolding choice_of
  one_candidate c d here there same =
      let place : c.place ≡ d.place = ap (λ (x : Choice). x.section) same in
      let home : c.home ≡ d.home = ap (λ (x : Choice). x.home) same in
      let section : c.section ≡ d.section =
      same_Some c.section d.section (sym here.here.at ∙ ap (slice_get object) place ∙ there.here.at) in
      here.here.own ∙ (λ i. candidate_at running (placed object (place i) (section i)) (home i)) ∙ sym there.here.own

  one_pair : (a b : Option (Candidate × Candidate))
      → OfPair (IsKnown running object numbers) a → OfPair (IsKnown running object numbers) b
      → option_map (both (choice_of object numbers)) a ≡ option_map (both (choice_of object numbers)) b → a ≡ b
  one_pair None None one two same = refl
  one_pair None (Some d) one two same = absurd cc
  one_pair (Some c) None one two same = absurd cc
  one_pair (Some c) (Some d) one two same =
      let pair = same_Some (both (choice_of object numbers) c) (both (choice_of object numbers) d) same in
      let first : c.0 ≡ d.0 = one_candidate c.0 d.0 one.0 two.0 (ap (λ (p : Choice × Choice). p.0) pair) in
      let second : c.1 ≡ d.1 = one_candidate c.1 d.1 one.1 two.1 (ap (λ (p : Choice × Choice). p.1) pair) in
      λ i. Some (first i, second i)

  -- the choices of sections are those of their candidates
  sections_alike : (cs : List Candidate) (places : List ℕ)
      → map (λ place. filter (chosen.is_of place) (map (choice_of object numbers) cs)) places
      ≡ map (map (choice_of object numbers)) (map (λ place. filter (is_of place) cs) places)
  unfolding choice_of
  sections_alike cs [] = refl
  sections_alike cs (place ∷ places) =
      λ i. filter_through
      (chosen.is_of place) (is_of place) (choice_of object numbers) (λ c. refl) cs i ∷ sections_alike cs places i

  module _ (cs : List Candidate) (known : All (IsKnown running object numbers) cs) where
    pub left_alike : map (is_among choice_rules (remaining choice_rules (map (choice_of object numbers) cs)))
        (map (choice_of object numbers) cs) ≡ map (is_among candidate_rules (remaining candidate_rules cs)) cs
    left_alike =
        let f : Candidate → Choice = choice_of object numbers in
        let maps = candidates_map running object numbers in
        let rest : List Candidate = remaining candidate_rules cs in
        ap (λ l. map (is_among choice_rules l) (map f cs))
        (remaining_maps (IsKnown running object numbers) candidate_rules choice_rules f maps cs known)
        ∙ map_on (IsKnown running object numbers) (is_among choice_rules (map f rest)) (is_among candidate_rules rest) f
        (λ x h. any_map (IsKnown running object numbers) (choice_rules.same (f x)) (candidate_rules.same x) f
        (λ y k. maps.same x y h k) rest (remaining_each (IsKnown running object numbers) candidate_rules cs known))
        cs known

    pub conflict_alike : (count : ℕ) (places : Option (ℕ × ℕ))
        → option_and_then (chosen.pair_at (map (choice_of object numbers) cs)) places
        ≡ conflict choice_rules (by_section count (forced choice_rules (map (choice_of object numbers) cs)))
        → option_and_then (pair_at cs) places ≡ conflict candidate_rules (by_place count (forced candidate_rules cs))
    conflict_alike count places same =
        let f : Candidate → Choice = choice_of object numbers in
        let maps = candidates_map running object numbers in
        let ones : List Candidate = forced candidate_rules cs in
        let ones_known : All (IsKnown running object numbers) ones =
        forced_each (IsKnown running object numbers) candidate_rules cs known in
        let sections_known : All (All (IsKnown running object numbers)) (by_place count ones) =
        All-map (All (IsKnown running object numbers)) (λ place. filter (is_of place) ones) (range_with_len 0 count)
        (λ k d lt. All-filter _ (IsKnown running object numbers) ones ones_known) in
        let there = ap (λ l. conflict choice_rules (by_section count l))
        (forced_maps (IsKnown running object numbers) candidate_rules choice_rules f maps cs known)
        ∙ ap (conflict choice_rules) (sections_alike ones (range_with_len 0 count))
        ∙ conflict_maps (IsKnown running object numbers) candidate_rules choice_rules f maps
        (by_place count ones) sections_known in
        one_pair (option_and_then (pair_at cs) places) (conflict candidate_rules (by_place count ones))
        (pairs_known (IsKnown running object numbers) cs known places)
        (conflict_pair (IsKnown running object numbers) candidate_rules (by_place count ones) sections_known)
        (sym (pairs_map f cs places) ∙ same ∙ there)

-- ---- all candidates are known
place_at : (name : List ℕ) (sections : List NormalSection) (j : ℕ) (s : NormalSection)
    → AllByRecursion (λ other. same_bytes name other ≡ false) (map name_of sections)
    → slice_get sections j ≡ Some s → same_bytes name s.name ≡ false
place_at name [] j s apart at = absurd cc
place_at name (x ∷ xs) zero s apart at =
    subst (λ (t : NormalSection). same_bytes name t.name ≡ false) (same_Some x s at) apart.0
place_at name (x ∷ xs) (suc j) s apart at = place_at name xs j s apart.1 at

pub place_of_distinct : (sections : List NormalSection) (i : ℕ) (s : NormalSection) → IsDistinct same_bytes
    (map name_of sections) → slice_get sections i ≡ Some s → place_named sections s.name ≡ Some i
unfolding IsDistinct
place_of_distinct [] i s distinct at = absurd cc
place_of_distinct (x ∷ xs) zero s distinct at =
    let own : same_bytes x.name s.name ≡ true = subst
    (λ (t : NormalSection). same_bytes x.name t.name ≡ true) (same_Some x s at) (nat_list_eq_equiv.refl x.name) in
    ap (λ b. cond b (Some 0) (option_map suc (place_named xs s.name))) own
place_of_distinct (x ∷ xs) (suc j) s distinct at =
    ap (λ b. cond b (Some 0) (option_map suc (place_named xs s.name))) (place_at x.name xs j s distinct.0 at)
    ∙ ap (option_map suc) (place_of_distinct xs j s distinct.1 at)

pub all_known : (running : Running) (object : List NormalSection) (numbers : Numbers) → IsDistinct same_bytes
    (map name_of object) → All (λ c. IsNumbered object numbers (outcome c)) (candidates running object)
    → All (IsKnown running object numbers) (candidates running object)
all_known running object numbers distinct each = λ k d lt.
    let here = candidates_here running object k d lt in
    record {
      here = here;
      named = place_of_distinct object _ _ distinct here.at;
      numbered = each k d lt;
    }

-- the section of each choice is one of the object's
pub choices_within : (running : Running) (object : List NormalSection) (numbers : Numbers)
    (choices : List Choice) (count : ℕ) → choices ≡ map (choice_of object numbers) (candidates running object)
    → count ≡ length object → All (λ choice. choice.section < count) choices
unfolding choice_of
choices_within running object numbers choices count is count_is =
    subst (All (λ choice. choice.section < count)) (sym is)
    (All-map (λ (x : Choice). x.section < count) (choice_of object numbers) (candidates running object)
    (λ k d lt.
    let c : Candidate = get_or (candidates running object) k d in
    subst (λ n. c.place < n)
    (sym count_is) (slice_get_within object c.place c.section ((candidates_here running object k d lt).at))))

-- ---- what is propagated, for choices that are those of all candidates
module _ (running : Running) (object : List NormalSection)
    (numbers : Numbers) (choices : List Choice) (distinct : IsDistinct same_bytes (map name_of object))
    (each : All (λ c. IsNumbered object numbers (outcome c)) (candidates running object))
    (are : choices ≡ map (choice_of object numbers) (candidates running object)) where
  pub choices_ready : MatchesAgree → AreChoices choices
  choices_ready agree =
      subst AreChoices (sym are)
      (are_choices agree running object numbers distinct (all_known running object numbers distinct each))

  pub left_told : (marks : List Bool)
      → marks ≡ map (is_among choice_rules (remaining choice_rules choices)) choices → marks ≡ map
      (is_among candidate_rules (remaining candidate_rules (candidates running object))) (candidates running object)
  left_told marks same =
      same ∙ ap (λ (l : List Choice). map (is_among choice_rules (remaining choice_rules l)) l) are
      ∙ left_alike running object numbers (candidates running object) (all_known running object numbers distinct each)

  pub conflict_told : (count : ℕ) (places : Option (ℕ × ℕ)) → count ≡ length object → option_and_then
      (chosen.pair_at choices) places ≡ conflict choice_rules (by_section count (forced choice_rules choices))
      → option_and_then (pair_at (candidates running object)) places
      ≡ conflict candidate_rules (by_place (length object) (forced candidate_rules (candidates running object)))
  conflict_told count places count_is same =
      conflict_alike running object numbers
      (candidates running object) (all_known running object numbers distinct each) count places
      (subst (λ (l : List Choice). option_and_then (chosen.pair_at l) places
      ≡ conflict choice_rules (by_section count (forced choice_rules l))) are same)
      ∙ ap (λ n. conflict candidate_rules (by_place n (forced candidate_rules (candidates running object)))) count_is
