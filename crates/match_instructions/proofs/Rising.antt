-- Places that ascend.
use Rattle.std.proofs.Common.{◌≡◌, ℕ, zero, suc, ◌+◌, ◌-◌, ◌<◌, ◌≤◌, ◌==◌, Bool, true, false, List, [], ◌∷◌, ◌++◌}
use Rattle.std.proofs.Common.{length, get_or, cond, ltb, nat_lt, nat_le, ◌≢◌, refl, sym, ap, subst, ◌∙◌, inl, inr}
use Rattle.std.proofs.Common.{arith, All, Option, Some, None, IfSome, add-zero, zero-add, length-append}
use Rattle.std.proofs.lemmas.Option.{slice_get_within, get_or_from_slice_get}
use Rattle.std.specs.List.{list_any, position, position_or_len, slice_get}
use Rattle.std.specs.List.Sorted.{IsNonDecreasingBy, IsStrictlyIncreasing, IsPartitionPoint}
use Rattle.std.proofs.lemmas.Bool.{cases_lt, ltb-true, ltb-false, le-leb, lt-ltb, le-ltb, eq-eqb, eqb-true, eqb-false}
use Rattle.std.proofs.lemmas.Bool.Decides.{nat_tests}
use Rattle.std.proofs.lemmas.List.{get_or_append_left, get_or-append_right}
use Rattle.std.proofs.lemmas.List.Folds.{list_any_at, list_any_none}
use Rattle.std.proofs.lemmas.List.Elements.{All-from_get_or, All-same, All-push, All-weaker}
use Rattle.std.proofs.lemmas.List.Sorted.{IsNonDecreasingBy-from_default}
use Rattle.std.proofs.lemmas.List.Sums.{position_or_len_is}
use Rattle.match_instructions.specs.Places.{is_place}

-- one more above the others
pub rising_push : (xs : List ℕ) (y : ℕ) → IsStrictlyIncreasing xs → All (λ k. k < y) xs →
    IsStrictlyIncreasing (xs ++ y ∷ [])
rising_push xs y up below k within =
    elim (cases_lt (k + 1) (length xs)) [
      | inl lt ↦
          rw (get_or_append_left xs (y ∷ []) 0 k (omega arith), get_or_append_left xs (y ∷ []) 0 (k + 1) lt) (up k lt)
      | inr le ↦
          let last : length xs ≡ k + 1 = omega (arith, simp length-append at within) in
          rw (
            get_or_append_left xs (y ∷ []) 0 k (omega arith),
            get_or-append_right xs (y ∷ []) (k + 1) (k + 1) 0 last
                (omega arith),
          )
          (let none : k + 1 - (k + 1) ≡ 0 = omega arith in rw none (below k 0 (omega arith)))
    ]

rises : (xs : List ℕ) → IsStrictlyIncreasing xs → (i n : ℕ) → i + n < length xs →
    get_or xs i 0 + n ≤ get_or xs (i + n) 0
rises xs up i zero within = omega (arith, ap (λ k. get_or xs k 0) (add-zero i))
rises xs up i (suc n) within =
    let before = rises xs up i n (omega arith) in
    let next = up (i + n) (omega arith) in
    let reach : i + suc n ≡ i + n + 1 = omega arith in
    omega (arith, before, next, ap (λ k. get_or xs k 0) reach)

pub rising_order : (xs : List ℕ) → IsStrictlyIncreasing xs → IsNonDecreasingBy (λ x. x) xs
rising_order xs up = IsNonDecreasingBy-from_default (λ x. x) xs 0 (λ i j le within.
    let h = rises xs up i (j - i) (omega arith) in
    let reach : i + (j - i) ≡ j = omega arith in
    omega (arith, h, ap (λ k. get_or xs k 0) reach))

-- the number of a place is no higher than the place
pub number_low : (xs : List ℕ) → IsStrictlyIncreasing xs → (i : ℕ) → i < length xs → i ≤ get_or xs i 0
number_low xs up i within = let h =
    rises xs up 0 i (omega arith) in omega (arith, h, ap (λ k. get_or xs k 0) (zero-add i))

-- they stand below any place above the one that is put after them
pub put_below : (xs ys : List ℕ) (place next : ℕ) → ys ≡ xs ++ place ∷ [] → All (λ k. k < place) xs → place < next →
    All (λ k. k < next) ys
put_below xs ys place next is below above =
    All-same (λ k. k < next) ys (xs ++ place ∷ []) is
    (All-push (λ k. k < next) xs place (All-weaker (λ k. k < place) (λ k. k < next) (λ k h. omega (arith, h)) xs below)
    above)

pub still_below : (xs : List ℕ) (place next : ℕ) → All (λ k. k < place) xs → place < next → All (λ k. k < next) xs
still_below xs place next below above = All-weaker (λ k. k < place) (λ k. k < next) (λ k h. omega (arith, h)) xs below

abbrev IsSplit : List ℕ → ℕ → ℕ → Type 0
IsSplit xs place i = IsPartitionPoint (λ k. ltb k place ≡ true) (λ k. ltb k place ≡ false) xs i

-- the first place at or after one
pub first_position : (xs : List ℕ) (place i : ℕ) → i ≤ length xs → IsSplit xs place i →
    position_or_len (nat_le place) xs ≡ i
first_position xs place i within split =
    position_or_len_is (nat_le place) xs i 0 within
    (λ k lt. let low = ltb-true _ _ (split.0 k 0 (omega arith) lt) in grind (arith, nat_tests, low))
    (λ lt. let high = ltb-false _ _ (split.1 i 0 (omega arith) lt) in le-leb place _ high)

other_place : (place k : ℕ) → (k ≡ place → ⊥) → is_place place k ≡ false
other_place place k apart = let h : k ≢ place = apart in grind (arith, nat_tests)

pub found_among : (xs : List ℕ) (place i : ℕ) → i < length xs → get_or xs i 0 ≡ place →
    list_any (is_place place) xs ≡ true
found_among xs place i within is = list_any_at (is_place place) xs i 0 within (rw is (eq-eqb place place refl))

-- where the first place at or after one is another, or there is none, it isn't among them
pub not_among : (xs : List ℕ) (place i : ℕ) → IsStrictlyIncreasing xs → i ≤ length xs → IsSplit xs place i →
    (i < length xs → get_or xs i 0 ≡ place → ⊥) → list_any (is_place place) xs ≡ false
not_among xs place i up within split apart =
    list_any_none (is_place place) xs (All-from_get_or (λ k. is_place place k ≡ false) xs 0
    (λ k inside. other_place place (get_or xs k 0) (λ is.
    elim (cases_lt k i) [
      | inl lt ↦ let low = ltb-true _ _ (split.0 k 0 (omega arith) lt) in absurd (omega (arith, low, is))
      | inr le ↦
          let first = ltb-false _ _ (split.1 i 0 (omega arith) (omega arith)) in
          let order = rising_order xs up i k 0 le inside in
          apart (omega arith) (omega (arith, first, order, is))
    ])))

position_at : (xs : List ℕ) (place i : ℕ) → i ≤ length xs → IsSplit xs place i →
    position (nat_le place) xs ≡ cond (nat_lt i (length xs)) (Some i) None
position_at xs place i within split =
    ap (λ k. cond (nat_lt k (length xs)) (Some k) None) (first_position xs place i within split)

pub position_found : (xs : List ℕ) (place i : ℕ) → i < length xs → IsSplit xs place i →
    Some i ≡ position (nat_le place) xs
position_found xs place i within split =
    sym (position_at xs place i (omega arith) split ∙ ap (λ b. cond b (Some i) None) (lt-ltb i (length xs) within))

pub position_missing : (xs : List ℕ) (place i : ℕ) → i ≤ length xs → length xs ≤ i → IsSplit xs place i →
    None ≡ position (nat_le place) xs
position_missing xs place i within past split =
    sym (position_at xs place i within split ∙ ap (λ b. cond b (Some i) None) (le-ltb i (length xs) past))

among_where : (xs : List ℕ) (place i : ℕ) (b : Bool) → (get_or xs i 0 == place) ≡ b → IsStrictlyIncreasing xs →
    i < length xs → IsSplit xs place i → b ≡ list_any (is_place place) xs
among_where xs place i true is up within split = sym (found_among xs place i within (eqb-true _ _ is))
among_where xs place i false is up within split =
    sym (not_among xs place i up (omega arith) split (λ _ same. eqb-false _ _ is same))

-- among them is the first one at or after a place, if it is that place
pub among_by_first : (xs : List ℕ) (place i : ℕ) → IsStrictlyIncreasing xs → i < length xs → IsSplit xs place i →
    (get_or xs i 0 == place) ≡ list_any (is_place place) xs
among_by_first xs place i up within split = among_where xs place i (get_or xs i 0 == place) refl up within split

pub among_none : (xs : List ℕ) (place i : ℕ) → IsStrictlyIncreasing xs → i ≤ length xs → length xs ≤ i →
    IsSplit xs place i → nat_lt i (length xs) ≡ list_any (is_place place) xs
among_none xs place i up within past split =
    le-ltb i (length xs) past ∙ sym (not_among xs place i up within split (λ lt _. absurd (omega (arith, lt, past))))

pub number_below : (xs : List ℕ) (i : ℕ) (o : Option ℕ) → IsStrictlyIncreasing xs → o ≡ slice_get xs i →
    IfSome o (λ x. i ≤ x)
number_below xs i None rise at = tt
number_below xs i (Some x) rise at =
    let here : get_or xs i 0 ≡ x = get_or_from_slice_get xs i x 0 (sym at) in
    subst (λ y. i ≤ y) here (number_low xs rise i (slice_get_within xs i x (sym at)))
