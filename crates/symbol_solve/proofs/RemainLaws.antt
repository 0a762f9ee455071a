-- Marks for what is left pick out what is left, where no two items are the same.
use Rattle.std.proofs.Common.{◌≡◌, ℕ, zero, suc, Bool, true, false, not, ◌&&◌, ◌||◌}
use Rattle.std.proofs.Common.{cond, List, [], ◌∷◌, length, map, refl, sym, ap, ◌∙◌}
use Rattle.std.specs.List.{All, filter, list_any}
use Rattle.std.proofs.lemmas.List.Elements.{All-nil, All-cons, All-head, All-tail}
use Rattle.run_pre_match.specs.Candidate.{Candidate}
use Rattle.propagation.specs.Rounds.{Rules, left_in, remaining, forced_among, clashes_with_one, is_among}
use Rattle.symbol_solve.specs.inside.Left.{marked}

filter_both : {X : Type 0} (q r : X → Bool) (xs : List X) → filter r (filter q xs) ≡ filter (λ x. q x && r x) xs
filter_both q r [] = refl
filter_both {X} q r (x ∷ xs) = by (q x) (filter_both q r xs)
  where
    by : (b : Bool)
        → filter r (filter q xs) ≡ filter (λ y. q y && r y) xs → filter r (cond b (x ∷ filter q xs) (filter q xs))
        ≡ cond (b && r x) (x ∷ filter (λ y. q y && r y) xs) (filter (λ y. q y && r y) xs)
    by true rest = ap (λ (l : List X). cond (r x) (x ∷ l) l) rest
    by false rest = rest

filter_alike : {X : Type 0} (p q : X → Bool) (xs : List X) → All (λ x. p x ≡ q x) xs → filter p xs ≡ filter q xs
filter_alike p q [] each = refl
filter_alike p q (x ∷ xs) each =
    let here : p x ≡ q x = All-head (λ y. p y ≡ q y) x xs each in
    let rest : filter p xs ≡ filter q xs = filter_alike p q xs (All-tail (λ y. p y ≡ q y) x xs each) in
    λ i. cond (here i) (x ∷ rest i) (rest i)

module _ {X : Type 0} (rules : Rules X) where
  -- what is left in a round passes a test
  pub kept_in : (round : ℕ) (all : List X) → (q : X → Bool) × (left_in rules round all ≡ filter q all)
  unfolding left_in
  kept_in zero all = (rules.matches, refl)
  kept_in (suc round) all =
      let (q, is) = kept_in round all in
      let r : X → Bool = λ x. not (clashes_with_one rules (forced_among rules all (left_in rules round all)) x) in
      ((λ x. q x && r x), ap (filter r) is ∙ filter_both q r all)

  -- that two aren't the same, either way
  abbrev pub AreApart : X → X → Type 0
  AreApart x y = (rules.same x y ≡ false) × (rules.same y x ≡ false)

  -- that no two of a list are
  abbrev pub AllApart : List X → Type 0
  AllApart [] = Unit {0}
  AllApart (x ∷ xs) = All (AreApart x) xs × AllApart xs

  not_among : (q : X → Bool) (x : X) (xs : List X) → All (AreApart x) xs → is_among rules (filter q xs) x ≡ false
  not_among q x [] each = refl
  not_among q x (y ∷ ys) each =
      let here : rules.same x y ≡ false = (All-head (AreApart x) y ys each).0 in
      let rest : list_any (rules.same x) (filter q ys) ≡ false = not_among q x ys (All-tail (AreApart x) y ys each) in
      elim (q y) as (λ b. list_any (rules.same x) (cond b (y ∷ filter q ys) (filter q ys)) ≡ false) [
        | true ↦ ap (λ b. b || list_any (rules.same x) (filter q ys)) here ∙ rest
        | false ↦ rest
      ]

  module _ (self : (x : X) → rules.same x x ≡ true) where
    -- one of a list is among those that pass a test where it passes
    among : (q : X → Bool) (xs : List X) → AllApart xs → All (λ x. is_among rules (filter q xs) x ≡ q x) xs
    among q [] apart = All-nil (λ x. is_among rules (filter q []) x ≡ q x)
    among q (x ∷ xs) apart =
        let passing : List X = filter q xs in
        let here : is_among rules (cond (q x) (x ∷ passing) passing) x ≡ q x =
        elim (q x) as (λ b. list_any (rules.same x) (cond b (x ∷ passing) passing) ≡ b) [
          | true ↦ ap (λ b. b || list_any (rules.same x) passing) (self x)
          | false ↦ not_among q x xs apart.0
        ] in
        let skips : (y : X)
        → rules.same y x ≡ false → is_among rules (cond (q x) (x ∷ passing) passing) y ≡ is_among rules passing y =
        λ y other. elim (q x)
        as (λ b. list_any (rules.same y) (cond b (x ∷ passing) passing) ≡ list_any (rules.same y) passing) [
          | true ↦ ap (λ b. b || list_any (rules.same y) passing) other
          | false ↦ refl
        ] in
        let rest : All (λ y. is_among rules passing y ≡ q y) xs = among q xs apart.1 in
        All-cons (λ y. is_among rules (cond (q x) (x ∷ passing) passing) y ≡ q y) x xs here
        (λ k d lt. skips _ ((apart.0 k d lt).1) ∙ rest k d lt)

    pub remaining_among : (all : List X)
        → AllApart all → filter (is_among rules (remaining rules all)) all ≡ remaining rules all
    unfolding remaining
    remaining_among all apart =
        let (q, is) = kept_in (length all) all in
        ap (λ l. filter (is_among rules l) all) is
        ∙ filter_alike (is_among rules (filter q all)) q all (among q all apart) ∙ sym is

-- marks by a test pick out what passes
pub marked_test : (p : Candidate → Bool) (cs : List Candidate) → marked (map p cs) cs ≡ filter p cs
unfolding marked
marked_test p [] = refl
marked_test p (c ∷ cs) = ap (λ (rest : List Candidate). cond (p c) (c ∷ rest) rest) (marked_test p cs)
