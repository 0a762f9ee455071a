-- Counts: of ascending numbers below a bound, and of ranges that one range meets.
use Rattle.std.proofs.Common.{◌≡◌, ℕ, zero, suc, ◌+◌, ◌-◌, ◌<◌, ◌≤◌, Bool, true, false, cond, ◌⊎◌, inl, inr, List}
use Rattle.std.proofs.Common.{[], ◌∷◌, ◌++◌, length, get_or, nat_lt, Some, None, refl, sym, ap, ◌∙◌}
use Rattle.std.proofs.Common.{arith}
use Rattle.std.specs.List.{filter, find}
use Rattle.std.specs.List.Sorted.{IsPermutation}
use Rattle.std.proofs.lemmas.Bool.{ltb-true, lt-ltb}
use Rattle.std.proofs.lemmas.Bool.Decides.{nat_tests}
use Rattle.std.proofs.lemmas.List.{length-append}
use Rattle.std.proofs.lemmas.List.Elements.{filter-append}
use Rattle.std.proofs.lemmas.List.Sums.{length-filter}
use Rattle.std.proofs.lemmas.List.Sorted.{sum_by-IsPermutation}
use Rattle.ks_base.specs.declared.places.Range.{Range}
use Rattle.image_memory.specs.Ranges.{meets}
use Rattle.image_memory.specs.laws.RangeLaws.{they_meet}
use Rattle.update_retired.specs.inside.Counts.{AreCounted, highs_of, how_many, is_full, lows_of}

-- one for an item that passes
abbrev pub one_where : Bool → ℕ
one_where b = cond b 1 0

pub how_many-cons : {X : Type 0} (p : X → Bool) (x : X) (xs : List X) →
    how_many p (x ∷ xs) ≡ one_where (p x) + how_many p xs
how_many-cons p x xs =
    elim (p x) as (λ b. length (cond b (x ∷ filter p xs) (filter p xs)) ≡ one_where b + length (filter p xs)) [
      | true ↦ omega arith
      | false ↦ omega arith
    ]

pub how_many-append : {X : Type 0} (p : X → Bool) (xs ys : List X) →
    how_many p (xs ++ ys) ≡ how_many p xs + how_many p ys
how_many-append p xs ys = ap length (filter-append p xs ys) ∙ length-append (filter p xs) (filter p ys)

-- a count doesn't depend on the order
pub counted : (xs ys : List ℕ) → IsPermutation xs ys → AreCounted xs ys
counted xs ys moved test =
    length-filter test ys ∙ sum_by-IsPermutation (λ n. cond (test n) 1 0) xs ys moved ∙ sym (length-filter test xs)

-- so many items pass where those before a place pass and those from it on don't
pub counted_at : {X : Type 0} (p : X → Bool) (xs : List X) (n : ℕ) → n ≤ length xs →
    ((k : ℕ) (d : X) → k < n → k < length xs → p (get_or xs k d) ≡ true) →
    ((k : ℕ) (d : X) → n ≤ k → k < length xs → p (get_or xs k d) ≡ false) → n ≡ how_many p xs
counted_at p [] n within below above = omega arith
counted_at p (x ∷ xs) zero within below above =
    rw (above 0 x (omega arith) (omega arith)) (counted_at p xs zero (omega arith)
    (λ k d l m. absurd (omega arith)) (λ k d l m. above (suc k) d (omega arith) (omega arith)))
counted_at p (x ∷ xs) (suc n) within below above =
    rw (below 0 x (omega arith) (omega arith)) (ap suc (counted_at p xs n (omega arith)
    (λ k d l m. below (suc k) d (omega arith) (omega arith))
    (λ k d l m. above (suc k) d (omega arith) (omega arith))))

-- where nothing passes, nothing is found
pub none_counted : {X : Type 0} (p : X → Bool) (xs : List X) → how_many p xs ≡ 0 → find p xs ≡ None
none_counted p [] none = refl
none_counted p (x ∷ xs) none =
    elim (p x) as (λ b. length (cond b (x ∷ filter p xs) (filter p xs)) ≡ 0 → cond b (Some x) (find p xs) ≡ None) [
      | true ↦ λ e. absurd (omega arith)
      | false ↦ λ e. none_counted p xs e
    ] none

bool_cases : (b : Bool) → (b ≡ true) ⊎ (b ≡ false)
bool_cases true = inl refl
bool_cases false = inr refl

-- what meets a range begins below its end, and doesn't end at or below its beginning
step : (r e : Range) → r.low < r.high → is_full e ≡ true →
    one_where (meets r e) + one_where (nat_lt e.high (r.low + 1)) ≤ one_where (nat_lt e.low r.high)
step r e full there =
    let some : e.low < e.high = ltb-true e.low e.high there in
    elim (bool_cases (meets r e)) [
      | inl met ↦
          let m = they_meet r e met in
          let first = m.first in
          let second = m.second in
          let later : nat_lt e.high (r.low + 1) ≡ false = grind (arith, nat_tests) in
          let before : nat_lt e.low r.high ≡ true = lt-ltb e.low r.high second in
          rw (met, later, before) (omega arith)
      | inr apart ↦ elim (bool_cases (nat_lt e.high (r.low + 1))) [
        | inl over ↦
            let ends : e.high < r.low + 1 = ltb-true e.high (r.low + 1) over in
            let before : nat_lt e.low r.high ≡ true = lt-ltb e.low r.high (omega arith) in
            rw (apart, over, before) (omega arith)
        | inr later ↦ rw (apart, later) (omega arith)
      ]
    ]

empty_met : (r e : Range) → is_full e ≡ false → meets r e ≡ false
empty_met r e empty =
    elim (bool_cases (meets r e)) [
      | inl met ↦ let m = they_meet r e met in let full = lt-ltb e.low e.high m.other in absurd cc
      | inr apart ↦ apart
    ]

none_met : (r : Range) (xs : List Range) → r.high ≤ r.low → how_many (meets r) xs ≡ 0
none_met r [] empty = refl
none_met r (x ∷ xs) empty =
    elim (bool_cases (meets r x)) [
      | inl met ↦ let m = they_meet r x met in let one = m.one in absurd (omega arith)
      | inr apart ↦ rw apart (none_met r xs empty)
    ]

abbrev ends_by : Range → ℕ → Bool
ends_by r n = nat_lt n (r.low + 1)

abbrev begins_below : Range → ℕ → Bool
begins_below r n = nat_lt n r.high

split : (r : Range) (xs : List Range) → r.low < r.high →
    how_many (meets r) xs + how_many (ends_by r) (highs_of xs) ≤ how_many (begins_below r) (lows_of xs)
split r [] full = omega arith
split r (x ∷ xs) full =
    let rest = split r xs full in
    let met = how_many-cons (meets r) x xs in
    elim (bool_cases (is_full x)) [
      | inl there ↦
          let here = step r x full there in
          let over = how_many-cons (ends_by r) x.high (highs_of xs) in
          let begun = how_many-cons (begins_below r) x.low (lows_of xs) in
          rw there (omega (arith, rest, met, here, over, begun))
      | inr empty ↦
          let apart = empty_met r x empty in
          rw (empty, apart) rest
    ]

some_or_none : (a b : ℕ) → (a < b) ⊎ (b ≤ a)
some_or_none a b = grind arith

-- no more ranges meet a range than begin below its end and don't end at or below its beginning
pub most_met : (r : Range) (ranges : List Range) (lows highs : List ℕ) (begun over : ℕ) →
    AreCounted (lows_of ranges) lows → AreCounted (highs_of ranges) highs → begun ≡ how_many (begins_below r) lows →
    over ≡ how_many (ends_by r) highs → how_many (meets r) ranges ≤ begun - over
most_met r ranges lows highs begun over at_low at_high is_begun is_over =
    elim (some_or_none r.low r.high) [
      | inl full ↦
          let all = split r ranges full in
          let low = at_low (begins_below r) in
          let high = at_high (ends_by r) in
          omega (arith, all, low, high, is_begun, is_over)
      | inr empty ↦ let none = none_met r ranges empty in omega (arith, none)
    ]
