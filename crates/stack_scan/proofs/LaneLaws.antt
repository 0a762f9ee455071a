-- Words that are tested many at once, and the first of some words that is an address of a range.
use Rattle.std.proofs.Common.{◌≡◌, ℕ, ◌+◌, ◌-◌, ◌^◌, ◌%◌, ◌≤◌, ◌<◌, Bool, true, false, not, cond, ◌&&◌, ◌||◌, nat_eq, nat_le, nat_lt}
use Rattle.std.proofs.Common.{◌*◌, List, [], ◌∷◌, length, get_or, map, replicate, Option, Some, None, Fits, w32, ◌⊎◌, inl, inr}
use Rattle.std.proofs.Common.{MatchOption, refl, sym, ap, ap₂, ◌∙◌, arith}
use Rattle.std.specs.List.{position, list_any}
use Rattle.std.specs.Option.{is_some}
use Rattle.std.proofs.lemmas.Bool.Decides.{nat_tests}
use Rattle.std.proofs.lemmas.List.{length-map}
use Rattle.std.proofs.lemmas.List.Folds.{list_any_at}
use Rattle.std.proofs.lemmas.Simd.{zip2_splat, bitmask_splat, map-map, length-chunk, get_or-chunk, Each1-weaker}
use lib.Lanes.{Each1, chunk, zip2, mask_l, top}
use Rattle.ks_base.specs.declared.places.Range.{Range}
use Rattle.stack_scan.specs.Standing.{in_one}
use Rattle.stack_scan.specs.inside.Words.{AreWithin, NoneBetween, IsFirstBetween}
use Rattle.stack_scan.proofs.TargetLaws.{outside}
use Rattle.stack_scan.proofs.WordLaws.{position_some, position_none}

below_or_not : (word low : ℕ) → (word < low) ⊎ (low ≤ word)
below_or_not word low = grind arith

-- how far a word is above a bound tells whether it lies below another
lane_decides : (low high word : ℕ) → low < 2 ^ 32 → high < 2 ^ 32 → word < 2 ^ 32
    → nat_lt ((word + (2 ^ 32 - low)) % 2 ^ 32) (high - low) ≡ (nat_le low word && nat_lt word high)
lane_decides low high word small even fits = elim (below_or_not word low) [
  | inl below ↦
      let far : (word + (2 ^ 32 - low)) % 2 ^ 32 ≡ word + (2 ^ 32 - low) = omega arith in
      let past : high - low ≤ word + (2 ^ 32 - low) = omega arith in
      rw far (grind (arith, nat_tests))
  | inr not_below ↦
      let near : (word + (2 ^ 32 - low)) % 2 ^ 32 ≡ word - low = omega arith in
      rw near (grind (arith, nat_tests))
]

-- whether a lane is set tells whether an element passes, where each lane is set just where its element does
any_set : (set test : ℕ → Bool) (xs : List ℕ) → Each1 (λ x. set x ≡ test x) xs
    → not (nat_eq (mask_l (map set xs)) 0) ≡ list_any test xs
any_set set test [] h = refl
any_set set test (x ∷ xs) h =
    one_more (set x) (mask_l (map set xs)) ∙ ap₂ (λ (a b : Bool). a || b) h.0 (any_set set test xs h.1)
  where
    one_more : (b : Bool) (m : ℕ) → not (nat_eq (cond b 1 0 + 2 * m) 0) ≡ (b || not (nat_eq m 0))
    one_more true m = grind (arith, nat_tests)
    one_more false m = grind (arith, nat_tests)

-- what the lanes tell of eight words
pub lanes_decide : (words : List ℕ) (low high : ℕ) → length words ≡ 8 → low < 2 ^ 32 → high < 2 ^ 32
    → Each1 (Fits w32) words
    → not (nat_eq (mask_l (map (top 31) (zip2 (λ a b. cond (nat_lt a b) (2 ^ 32 - 1) 0)
    (zip2 (λ a b. (a + (2 ^ 32 - b)) % 2 ^ 32) words (replicate 8 low)) (replicate 8 (high - low)))) % 2 ^ 64) 0)
    ≡ list_any (λ word. nat_le low word && nat_lt word high) words
lanes_decide words low high long small even fits =
    let above : ℕ → ℕ = λ x. (x + (2 ^ 32 - low)) % 2 ^ 32 in
    let span = high - low in
    let mask =
    ap (λ (xs : List ℕ). mask_l (map (top 31) (zip2 (λ (a b : ℕ). cond (nat_lt a b) (2 ^ 32 - 1) 0) xs (replicate 8 span))) % 2 ^ 64)
    (zip2_splat (λ (a b : ℕ). (a + (2 ^ 32 - b)) % 2 ^ 32) words 8 low long)
    ∙ (bitmask_splat w32 nat_lt (map above words) 8 span (length-map words above ∙ long) (omega arith)
    ∙ ap mask_l (map-map (λ (x : ℕ). nat_lt x span) above words)) in
    ap (λ (m : ℕ). not (nat_eq m 0)) mask
    ∙ any_set (λ x. nat_lt (above x) span) (λ word. nat_le low word && nat_lt word high) words
    (Each1-weaker (Fits w32) _ (λ word f. lane_decides low high word small even f.fits) words fits)

-- where none of the words at some places is within the bounds of all ranges, none is an address of one
pub none_within : (ranges : List Range) (words : List ℕ) (low high start n : ℕ) → start + n ≤ length words
    → AreWithin low high (length ranges) ranges
    → list_any (λ word. nat_le low word && nat_lt word high) (chunk start n words) ≡ false
    → NoneBetween ranges words start (start + n)
none_within ranges words low high start n room within none k from to =
    let test : ℕ → Bool = λ word. nat_le low word && nat_lt word high in
    let back : start + (k - start) ≡ k = omega arith in
    let near : k - start < length (chunk start n words) = omega (arith, length-chunk start n words room) in
    let lane = get_or-chunk start n words (k - start) 0 (omega arith) ∙ ap (λ (i : ℕ). get_or words i 0) back in
    outside low high (get_or words k 0) ranges within
    (past (get_or words k 0) (ap test (sym lane) ∙ fails test (chunk start n words) (k - start) near none))
  where
    fails : (test : ℕ → Bool) (xs : List ℕ) (i : ℕ) → i < length xs → list_any test xs ≡ false → test (get_or xs i 0) ≡ false
    fails test xs i inside none = elim (test (get_or xs i 0)) as (λ b. test (get_or xs i 0) ≡ b → b ≡ false) [
      | true ↦ λ passes. sym (list_any_at test xs i 0 inside passes) ∙ none
      | false ↦ λ _. refl
    ] refl

    past : (word : ℕ) → (nat_le low word && nat_lt word high) ≡ false → (word < low) ⊎ (high ≤ word)
    past word h = grind (arith, nat_tests)

-- what was found behind words that are no addresses of a range is the first
pub first_behind : (ranges : List Range) (words : List ℕ) (start end index : ℕ) → end ≤ length words
    → NoneBetween ranges words 0 start → IsFirstBetween ranges words start end index
    → Some index ≡ position (in_one ranges) words
first_behind ranges words start end index inside none first =
    position_some (in_one ranges) words index (omega arith) (λ k l. early k l (below_or_not k start)) first.here
  where
    early : (k : ℕ) → k < index → (k < start) ⊎ (start ≤ k) → in_one ranges (get_or words k 0) ≡ false
    early k l (inl before) = none k (omega arith) before
    early k l (inr behind) = first.before k behind l

-- and where none is behind them, there is none
pub none_behind : (ranges : List Range) (words : List ℕ) (start : ℕ)
    → NoneBetween ranges words 0 start → NoneBetween ranges words start (length words)
    → None ≡ position (in_one ranges) words
none_behind ranges words start none rest =
    position_none (in_one ranges) words (λ k l. each k l (below_or_not k start))
  where
    each : (k : ℕ) → k < length words → (k < start) ⊎ (start ≤ k) → in_one ranges (get_or words k 0) ≡ false
    each k l (inl before) = none k (omega arith) before
    each k l (inr behind) = rest k behind l

-- what a search behind such words answers where it finds one
pub found_behind : (ranges : List Range) (words : List ℕ) (start end : ℕ) (found : Option ℕ) → end ≤ length words
    → NoneBetween ranges words 0 start → is_some found ≡ true
    → MatchOption found (NoneBetween ranges words start end) (λ index. IsFirstBetween ranges words start end index)
    → found ≡ position (in_one ranges) words
found_behind ranges words start end None inside none is first = cc
found_behind ranges words start end (Some index) inside none is first =
    first_behind ranges words start end index inside none first

-- and what one answers that goes up to the end of all words
pub found_at_last : (ranges : List Range) (words : List ℕ) (start : ℕ) (found : Option ℕ)
    → NoneBetween ranges words 0 start
    → MatchOption found (NoneBetween ranges words start (length words))
    (λ index. IsFirstBetween ranges words start (length words) index)
    → found ≡ position (in_one ranges) words
found_at_last ranges words start None none rest = none_behind ranges words start none rest
found_at_last ranges words start (Some index) none first =
    first_behind ranges words start (length words) index (omega arith) none first
