-- Laws of ranges, for the crates above: what follows for things whose ranges ascend, for the first thing of a list
-- that passes a test, and for two ranges that meet.
use Rattle.std.proofs.Common.{◌≡◌, ℕ, zero, suc, ◌+◌, ◌-◌, ◌≤◌, ◌<◌, Bool, true, false, cond, List, [], ◌∷◌, length}
use Rattle.std.proofs.Common.{get_or, refl, arith, ◌⊎◌, inl, inr, Some, None, ◌||◌, map, ap, min, max}
use Rattle.std.specs.List.{find, list_any}
use Rattle.std.specs.List.Sorted.{IsNonDecreasingBy}
use Rattle.std.proofs.lemmas.Bool.Decides.{nat_tests}
use Rattle.std.proofs.lemmas.Bool.{ltb-true, lt-ltb}
use Rattle.ks_base.specs.declared.places.Range.{Range}
use Rattle.image_memory.specs.Ranges.{lies_in, Ascends, meets}

-- an address of a range lies at its low or above and below its high, and no other is one of its
pub inside : (a : ℕ) (r : Range) → lies_in a r ≡ true → (r.low ≤ a) × (a < r.high)
inside a r h = grind (arith, nat_tests)

pub within : (a : ℕ) (r : Range) → r.low ≤ a → a < r.high → lies_in a r ≡ true
within a r low high = grind (arith, nat_tests)

pub below : (a : ℕ) (r : Range) → a < r.low → lies_in a r ≡ false
below a r h = grind (arith, nat_tests)

pub above : (a : ℕ) (r : Range) → r.high ≤ a → lies_in a r ≡ false
above a r h = grind (arith, nat_tests)

-- where the first thing that passes a test is
pub record IsFound {X : Type 0} (p : X → Bool) (xs : List X) (y : X) : Type 0 where
  pub index : ℕ
  pub in_list : index < length xs
  pub at : (d : X) → get_or xs index d ≡ y
  pub passes : p y ≡ true

-- what is found stands in the list and passes
pub found : {X : Type 0} (p : X → Bool) (xs : List X) (y : X) → find p xs ≡ Some y → IsFound p xs y
found p [] y h = cc
found {X} p (x ∷ xs) y h =
    elim (p x) as (λ b. cond b (Some x) (find p xs) ≡ Some y → p x ≡ b → IsFound p (x ∷ xs) y) [
      | true ↦ λ same e. record { index = 0; in_list = omega arith; at = λ d. grind arith; passes = grind arith }
      | false ↦ λ later e. let f = found p xs y later in
          record {
            index = suc f.index;
            in_list = let g = f.in_list in omega arith;
            at = λ d. f.at d;
            passes =
                f.passes;
          }
    ] h refl

-- nothing is found where nothing passes
pub nowhere : {X : Type 0} (p : X → Bool) (xs : List X) → ((k : ℕ) (d : X) → k < length xs → p (get_or xs k d) ≡ false)
    → find p xs ≡ None
nowhere p [] h = refl
nowhere p (x ∷ xs) h =
    let first : p x ≡ false = h 0 x (omega arith) in
    rw first (nowhere p xs (λ k d l. h (suc k) d (omega arith)))

order_cases : (k n : ℕ) → (k + 1 < n) ⊎ ((k + 1 ≡ n) ⊎ (n ≤ k))
order_cases k n = grind arith

module _ {X : Type 0} (range : X → Range) where
  -- of things that ascend from a floor each begins there or above, and is not empty
  pub each_above : (floor : ℕ) (xs : List X) (j : ℕ) (d : X) → Ascends range floor xs → j < length xs
      → (floor ≤ (range (get_or xs j d)).low) × ((range (get_or xs j d)).low < (range (get_or xs j d)).high)
  each_above floor [] j d a l = absurd (omega arith)
  each_above floor (x ∷ xs) zero d a l = (a.0, a.1)
  each_above floor (x ∷ xs) (suc j) d a l =
      let low = a.0 in
      let full = a.1 in
      let rest = each_above (range x).high xs j d a.2 (omega arith) in
      (omega arith, rest.1)

  -- a later one begins where an earlier one ends, or above
  pub one_after : (floor : ℕ) (xs : List X) (i j : ℕ) (d : X) → Ascends range floor xs → i < j → j < length xs
      → (range (get_or xs i d)).high ≤ (range (get_or xs j d)).low
  one_after floor [] i j d a l m = absurd (omega arith)
  one_after floor (x ∷ xs) zero zero d a l m = absurd (omega arith)
  one_after floor (x ∷ xs) zero (suc j) d a l m = (each_above (range x).high xs j d a.2 (omega arith)).0
  one_after floor (x ∷ xs) (suc i) zero d a l m = absurd (omega arith)
  one_after floor (x ∷ xs) (suc i) (suc j) d a l m = one_after (range x).high xs i j d a.2 (omega arith) (omega arith)

  -- they begin in order
  pub lows_rise : (floor : ℕ) (xs : List X) → Ascends range floor xs → IsNonDecreasingBy (λ x. (range x).low) xs
  lows_rise floor [] a i j d l m = absurd (omega arith)
  lows_rise floor (x ∷ xs) a zero zero d l m = omega arith
  lows_rise floor (x ∷ xs) a zero (suc j) d l m =
      let full = a.1 in
      let later = each_above (range x).high xs j d a.2 (omega arith) in
      omega arith
  lows_rise floor (x ∷ xs) a (suc i) zero d l m = absurd (omega arith)
  lows_rise floor (x ∷ xs) a (suc i) (suc j) d l m = lows_rise (range x).high xs a.2 i j d (omega arith) (omega arith)

  -- the thing whose range holds an address is the first one found
  pub found_here : (floor : ℕ) (xs : List X) (a i : ℕ) (d : X) → Ascends range floor xs → i < length xs
      → lies_in a (range (get_or xs i d)) ≡ true → find (λ x. lies_in a (range x)) xs ≡ Some (get_or xs i d)
  found_here floor [] a i d up l h = absurd (omega arith)
  found_here floor (x ∷ xs) a zero d up l h = rw h refl
  found_here floor (x ∷ xs) a (suc i) d up l h =
      let later = each_above (range x).high xs i d up.2 (omega arith) in
      let there = inside a (range (get_or xs i d)) h in
      let not_first : lies_in a (range x) ≡ false = above a (range x) (omega arith) in
      rw not_first (found_here (range x).high xs a i d up.2 (omega arith) h)

  -- nothing is found where the last thing that begins at or below an address doesn't hold it
  pub found_nowhere : (floor : ℕ) (xs : List X) (a n : ℕ) → Ascends range floor xs
      → ((k : ℕ) (d : X) → n ≤ k → k < length xs → a < (range (get_or xs k d)).low)
      → ((k : ℕ) (d : X) → k + 1 ≡ n → k < length xs → lies_in a (range (get_or xs k d)) ≡ false)
      → ((k : ℕ) (d : X) → k < n → k < length xs → (range (get_or xs k d)).low ≤ a)
      → n ≤ length xs
      → find (λ x. lies_in a (range x)) xs ≡ None
  found_nowhere floor xs a n up later last earlier bound = nowhere (λ x. lies_in a (range x)) xs each
    where
      each : (k : ℕ) (d : X) → k < length xs → lies_in a (range (get_or xs k d)) ≡ false
      each k d l = elim (order_cases k n) [
        | inl far ↦
            let m : n - 1 < length xs = omega arith in
            let next = one_after floor xs k (n - 1) d up (omega arith) m in
            let there = earlier (n - 1) d (omega arith) m in
            above a (range (get_or xs k d)) (omega arith)
        | inr (inl near) ↦ last k d near l
        | inr (inr over) ↦ below a (range (get_or xs k d)) (later k d over l)
      ]

  -- the thing that holds one address holds the later ones up to its end
  pub found_along : (floor : ℕ) (xs : List X) (a b : ℕ) (y : X) → Ascends range floor xs
      → find (λ x. lies_in a (range x)) xs ≡ Some y → a ≤ b → b < (range y).high
      → find (λ x. lies_in b (range x)) xs ≡ Some y
  found_along floor xs a b y up h l m =
      let f = found (λ x. lies_in a (range x)) xs y h in
      let low = inside a (range y) f.passes in
      let here : lies_in b (range (get_or xs f.index y)) ≡ true = rw (f.at y) (within b (range y) (omega arith) m) in
      rw (f.at y) at (found_here floor xs b f.index y up f.in_list here)

-- whether something read off some things passes
pub list_any-map : {X Y : Type 0} (p : Y → Bool) (f : X → Y) (xs : List X)
    → list_any p (map f xs) ≡ list_any (λ x. p (f x)) xs
list_any-map p f [] = refl
list_any-map p f (x ∷ xs) = ap (λ (b : Bool). p (f x) || b) (list_any-map p f xs)

-- two ranges meet where each begins below the other's end and neither is empty
pub record Meet (a b : Range) : Type 0 where
  pub first : a.low < b.high
  pub second : b.low < a.high
  pub one : a.low < a.high
  pub other : b.low < b.high

-- ranges that meet do so
pub they_meet : (a b : Range) → meets a b ≡ true → Meet a b
they_meet a b e =
    let less : max a.low b.low < min a.high b.high = ltb-true (max a.low b.low) (min a.high b.high) e in
    record { first = omega arith; second = omega arith; one = omega arith; other = omega arith }

-- and ranges that do so meet
pub meet_where : (a b : Range) → a.low < b.high → b.low < a.high → a.low < a.high → b.low < b.high → meets a b ≡ true
meet_where a b first second one other =
    let less : max a.low b.low < min a.high b.high = omega arith in
    lt-ltb (max a.low b.low) (min a.high b.high) less
