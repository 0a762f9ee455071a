-- Laws of the first that a function gives.
use Rattle.std.proofs.Common.{◌≡◌, ℕ, zero, suc, ◌+◌, ◌<◌, ◌≤◌, Bool, true, false, ◌&&◌, cond, List, [], ◌∷◌, map}
use Rattle.std.proofs.Common.{filter, Contains, Option, Some, None, slice_get, refl, ◌∙◌, ap, inl, inr, arith}
use Rattle.std.specs.List.{range_with_len}
use Rattle.std.specs.Option.{option_or}
use Rattle.std.proofs.lemmas.Bool.{cases_Bool, cases_eq, cond-true, cond-false}
use Rattle.propagation.specs.Conflicts.{first_some, first_of_two, first_between}
use Rattle.propagation.proofs.ListLaws.{Contains-here, Contains-there}

pub first_none : {X Y : Type 0} (f : X → Option Y) (xs : List X) → ((x : X) → Contains xs x → f x ≡ None)
    → first_some f xs ≡ None
unfolding first_some
first_none f [] each = refl
first_none f (x ∷ xs) each =
    ap (λ o. option_or o (first_some f xs)) (each x (Contains-here x xs))
    ∙ first_none f xs (λ y h. each y (Contains-there x y xs h))

filter_cons : {X : Type 0} (p q : X → Bool) (x : X) (xs : List X) → filter q (filter p xs) ≡ filter (λ y. p y && q y) xs
    → filter q (filter p (x ∷ xs)) ≡ filter (λ y. p y && q y) (x ∷ xs)
filter_cons p q x xs rest = by_case (p x)
  where
    by_case : (b : Bool)
        → filter q (cond b (x ∷ filter p xs) (filter p xs))
        ≡ cond (b && q x) (x ∷ filter (λ y. p y && q y) xs) (filter (λ y. p y && q y) xs)
    by_case true = ap (λ l. cond (q x) (x ∷ l) l) rest
    by_case false = rest

pub filter_both : {X : Type 0} (p q : X → Bool) (xs : List X) → filter q (filter p xs) ≡ filter (λ y. p y && q y) xs
filter_both p q [] = refl
filter_both p q (x ∷ xs) = filter_cons p q x xs (filter_both p q xs)

-- the first item that passes a test and gives something
pub first_at : {X Y : Type 0} (f : X → Option Y) (p : X → Bool) (xs : List X) (k : ℕ) (x : X) (v : Y)
    → slice_get xs k ≡ Some x → p x ≡ true → f x ≡ Some v
    → ((j : ℕ) (z : X) → j < k → slice_get xs j ≡ Some z → p z ≡ true → f z ≡ None)
    → first_some f (filter p xs) ≡ Some v
unfolding first_some
first_at f p [] k x v at t e before = let no : None ≡ Some x = at in cc
first_at f p (y ∷ ys) zero x v at t e before =
    let same : y ≡ x = (let both : Some y ≡ Some x = at in cc) in
    ap (first_some f) (cond-true (p y) (y ∷ filter p ys) (filter p ys) (ap p same ∙ t))
    ∙ ap (λ o. option_or o (first_some f (filter p ys))) (ap f same ∙ e)
first_at f p (y ∷ ys) (suc k) x v at t e before =
    let rest = first_at f p ys k x v at t e (λ j z less there. before (suc j) z (omega (arith, less)) there) in
    elim (cases_Bool (p y)) [
      | inl passes ↦
          ap (first_some f) (cond-true (p y) (y ∷ filter p ys) (filter p ys) passes)
          ∙ ap (λ o. option_or o (first_some f (filter p ys))) (before zero y (omega arith) refl passes)
          ∙ rest
      | inr fails ↦ ap (first_some f) (cond-false (p y) (y ∷ filter p ys) (filter p ys) fails) ∙ rest
    ]

-- ---- over a range of sections
module _ {X Y : Type 0} (g : ℕ → X) (f : X → Option Y) where
  pub range_none : (a n : ℕ) → ((t : ℕ) → a ≤ t → t < a + n → f (g t) ≡ None)
      → first_some f (map g (range_with_len a n)) ≡ None
  unfolding first_some
  range_none a zero each = refl
  range_none a (suc n) each =
      ap (λ o. option_or o (first_some f (map g (range_with_len (a + 1) n)))) (each a (omega arith) (omega arith))
      ∙ range_none (a + 1) n (λ t le less. each t (omega (arith, le)) (omega (arith, less)))

  pub range_at : (a n t : ℕ) (v : Y) → a ≤ t → t < a + n → f (g t) ≡ Some v → ((s : ℕ) → a ≤ s → s < t → f (g s) ≡ None)
      → first_some f (map g (range_with_len a n)) ≡ Some v
  unfolding first_some
  range_at a zero t v le less e before = absurd (omega (arith, le, less))
  range_at a (suc n) t v le less e before =
      elim (cases_eq a t) [
        | inl same ↦
            ap (λ o. option_or o (first_some f (map g (range_with_len (a + 1) n)))) (ap (λ s. f (g s)) same ∙ e)
        | inr ne ↦
            ap (λ o. option_or o (first_some f (map g (range_with_len (a + 1) n))))
            (before a (omega arith) (omega (arith, le, ne)))
            ∙ range_at (a + 1) n t v
            (omega (arith, le, ne)) (omega (arith, less)) e (λ s low high. before s (omega (arith, low)) high)
      ]

module _ {X Y : Type 0} (g : ℕ → List X) (f : X → X → Option Y) where
  pub between_none : (a n : ℕ) → ((s t : ℕ) → a ≤ s → s < t → t < a + n → first_of_two f (g s) (g t) ≡ None)
      → first_between f (map g (range_with_len a n)) ≡ None
  unfolding first_between
  between_none a zero each = refl
  between_none a (suc n) each =
      ap (λ o. option_or o (first_between f (map g (range_with_len (a + 1) n))))
      (range_none g (first_of_two f (g a))
      (a + 1) n (λ t le less. each a t (omega arith) (omega (arith, le)) (omega (arith, less))))
      ∙ between_none (a + 1) n (λ s t le less below. each s t (omega (arith, le)) less (omega (arith, below)))

  pub between_at : (a n s t : ℕ) (v : Y) → a ≤ s → s < t → t < a + n → first_of_two f (g s) (g t) ≡ Some v
      → ((s' t' : ℕ) → a ≤ s' → s' < s → s' < t' → t' < a + n → first_of_two f (g s') (g t') ≡ None)
      → ((t' : ℕ) → s < t' → t' < t → first_of_two f (g s) (g t') ≡ None)
      → first_between f (map g (range_with_len a n)) ≡ Some v
  unfolding first_between
  between_at a zero s t v le less below e before inside = absurd (omega (arith, le, less, below))
  between_at a (suc n) s t v le less below e before inside =
      elim (cases_eq a s) [
        | inl same ↦
            ap (λ o. option_or o (first_between f (map g (range_with_len (a + 1) n))))
            (range_at g (first_of_two f (g a)) (a + 1) n t v
            (omega (arith, same, less)) (omega (arith, below)) (ap (λ r. first_of_two f (g r) (g t)) same ∙ e)
            (λ t' low high. ap (λ r. first_of_two f (g r) (g t')) same ∙ inside t' (omega (arith, same, low)) high))
        | inr ne ↦
            ap (λ o. option_or o (first_between f (map g (range_with_len (a + 1) n))))
            (range_none g (first_of_two f (g a)) (a + 1) n (λ t' low high.
            before a t' (omega arith) (omega (arith, le, ne)) (omega (arith, low)) (omega (arith, high))))
            ∙ between_at
            (a + 1) n s t v (omega (arith, le, ne)) less (omega (arith, below)) e (λ s' t' low high apart most.
            before s' t' (omega (arith, low)) high apart (omega (arith, most))) inside
      ]
