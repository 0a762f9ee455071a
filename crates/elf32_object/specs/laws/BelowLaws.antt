-- Laws of what the numbers below a bound have, for the crates above: what follows where there is no first, which is the
-- first, and what the lists of what all of them have hold.
use Rattle.std.proofs.Common.{◌≡◌, ℕ, zero, suc, ◌<◌, Option, Some, None, refl, sym, ap, ◌∙◌, inl, inr, arith, ◌+◌}
use Rattle.std.proofs.Common.{List, [], ◌∷◌, ◌++◌, length, get_or, add-one, length-append}
use Rattle.std.proofs.lemmas.Bool.{cases_lt}
use Rattle.std.proofs.lemmas.List.{get_or_append_left, get_or_at}
use Rattle.elf32_object.specs.Below.{first_of, first_below, each_below, all_below}

-- where there is no first of two, neither of them is there
pub none_first : {X : Type 0} (a b : Option X) → first_of a b ≡ None → a ≡ None
none_first (Some x) b e = e
none_first None b e = refl

pub none_second : {X : Type 0} (a b : Option X) → first_of a b ≡ None → b ≡ None
none_second (Some x) b e = cc
none_second None b e = e

pub both_none : {X : Type 0} (a b : Option X) → first_of a b ≡ None → (a ≡ None) × (b ≡ None)
both_none a b e = (none_first a b e, none_second a b e)

-- where no number below a bound has a first, none of them has one
pub none_below : {X : Type 0} (f : ℕ → Option X) (n : ℕ) → first_below f n ≡ None → (i : ℕ) → i < n → f i ≡ None
none_below f zero e i h = absurd (omega arith)
none_below f (suc n) e i h =
    elim (cases_lt i n) [
      | inl lt ↦ none_below f n (none_first (first_below f n) (f n) e) i lt
      | inr le ↦ ap f (let same : i ≡ n = omega arith in same) ∙ none_second (first_below f n) (f n) e
    ]

-- the first that there is, where none stands below it
pub first_at : {X : Type 0} (f : ℕ → Option X) (n i : ℕ) (x : X) → first_below f i ≡ None → f i ≡ Some x → i < n
    → first_below f n ≡ Some x
first_at f zero i x none here h = absurd (omega arith)
first_at f (suc n) i x none here h =
    elim (cases_lt i n) [
      | inl lt ↦ ap (λ a. first_of a (f n)) (first_at f n i x none here lt)
      | inr le ↦
          let same : i ≡ n = omega arith in
          ap (λ a. first_of a (f n)) (sym (ap (first_below f) same) ∙ none) ∙ sym (ap f same) ∙ here
    ]

-- a list of what the numbers below a bound have is as long as the bound
pub length-each_below : {X : Type 0} (f : ℕ → X) (n : ℕ) → length (each_below f n) ≡ n
length-each_below f zero = refl
length-each_below f (suc n) =
    omega (arith, length-append (each_below f n) (f n ∷ []), length-each_below f n)

-- and at each place stands what the number of the place has
pub get_or-each_below : {X : Type 0} (f : ℕ → X) (n k : ℕ) (d : X) → k < n → get_or (each_below f n) k d ≡ f k
get_or-each_below f zero k d l = absurd (omega arith)
get_or-each_below f (suc n) k d l =
    elim (cases_lt k n) [
      | inl lt ↦
          get_or_append_left (each_below f n) (f n ∷ []) d k (omega (arith, length-each_below f n))
          ∙ get_or-each_below f n k d lt
      | inr le ↦
          let same : length (each_below f n) ≡ k = omega (arith, length-each_below f n) in
          let last : n ≡ k = omega arith in
          get_or_at (each_below f n) (f n) [] d k same ∙ ap f last
    ]

-- what a bound that is one higher adds
pub each_below_more : {X : Type 0} (f : ℕ → X) (n : ℕ) → each_below f (n + 1) ≡ each_below f n ++ f n ∷ []
each_below_more f n = ap (each_below f) (add-one n)

pub all_below_more : {X : Type 0} (f : ℕ → List X) (n : ℕ) → all_below f (n + 1) ≡ all_below f n ++ f n
all_below_more f n = ap (all_below f) (add-one n)
