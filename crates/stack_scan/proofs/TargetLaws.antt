-- What follows for a word where ranges lie within bounds, and where they are in order.
use Rattle.std.proofs.Common.{◌≡◌, ℕ, ◌≤◌, ◌<◌, true, false, List, length, get_or, arith, ◌⊎◌, inl, inr, nat_le, refl}
use Rattle.std.specs.List.{AllWithin}
use Rattle.std.specs.List.Sorted.{IsNonDecreasingBy}
use Rattle.std.proofs.lemmas.Bool.Decides.{nat_tests}
use Rattle.std.proofs.lemmas.List.{get_or_default}
use Rattle.std.proofs.lemmas.List.Folds.{list_any_none, list_any_at}
use Rattle.ks_base.specs.declared.places.Range.{Range}
use Rattle.image_memory.specs.Ranges.{lies_in}
use Rattle.stack_scan.specs.Standing.{in_one}
use Rattle.stack_scan.specs.inside.Words.{AreWithin, AreInOrder}

below_or_same : (i j : ℕ) → i ≤ j → (i < j) ⊎ (i ≡ j)
below_or_same i j l = grind arith

pub highs_rise : (ranges : List Range)
    → AreInOrder (length ranges) ranges → IsNonDecreasingBy (λ range. range.high) ranges
highs_rise ranges h i j d l m = elim (below_or_same i j l) [
  | inl less ↦
      let before = h.apart i j d less m in
      let even = h.even j d m in
      omega arith
  | inr same ↦ rw same (omega arith)
]

misses : (word : ℕ) (range : Range) → (word < range.low) ⊎ (range.high ≤ word) → lies_in word range ≡ false
misses word range h = grind (arith, nat_tests)

-- a word outside the bounds of all ranges is an address of none
pub outside : (low high word : ℕ) (ranges : List Range)
    → AreWithin low high (length ranges) ranges → (word < low) ⊎ (high ≤ word)
    → in_one ranges word ≡ false
outside low high word ranges within out = list_any_none (lies_in word) ranges (λ k d l.
    let bounds = within k d l in
    misses word (get_or ranges k d) (elim out [
      | inl below ↦ inl (omega (arith, bounds.0))
      | inr above ↦ inr (omega (arith, bounds.1))
    ]))

-- nor is one at or above the end of all of them
pub past_all : (word : ℕ) (ranges : List Range)
    → AllWithin (λ range. range.high ≤ word) ranges 0 (length ranges) → in_one ranges word ≡ false
past_all word ranges ended = list_any_none (lies_in word) ranges (λ k d l.
    misses word (get_or ranges k d) (inr (ended k d (omega arith) l)))

order_of : (k n : ℕ) → (k < n) ⊎ ((k ≡ n) ⊎ (n < k))
order_of k n = grind arith

-- where ranges are in order, the first that ends above a word decides
pub by_first : (word n : ℕ) (d : Range) (ranges : List Range) → AreInOrder (length ranges) ranges → n < length ranges
    → AllWithin (λ range. range.high ≤ word) ranges 0 n
    → AllWithin (λ range. word < range.high) ranges n (length ranges)
    → in_one ranges word ≡ nat_le (get_or ranges n d).low word
by_first word n d ranges h inside below above =
    elim (nat_le (get_or ranges n d).low word)
    as (λ b. nat_le (get_or ranges n d).low word ≡ b → in_one ranges word ≡ b) [
      | true ↦ λ begun. list_any_at (lies_in word) ranges n d inside (here begun)
      | false ↦ λ not_yet. list_any_none (lies_in word) ranges (λ k e l. elim (order_of k n) [
        | inl before ↦ misses word (get_or ranges k e) (inr (below k e (omega arith) before))
        | inr (inl same) ↦ rw same (there e not_yet)
        | inr (inr after) ↦
            let apart = h.apart n k e after l in
            let ends = above n e (omega arith) inside in
            misses word (get_or ranges k e) (inl (omega arith))
      ])
    ] refl
  where
    here : nat_le (get_or ranges n d).low word ≡ true → lies_in word (get_or ranges n d) ≡ true
    here begun =
        let ends = above n d (omega arith) inside in
        grind (arith, nat_tests)

    there : (e : Range) → nat_le (get_or ranges n d).low word ≡ false → lies_in word (get_or ranges n e) ≡ false
    there e not_yet =
        let same : get_or ranges n e ≡ get_or ranges n d = get_or_default ranges n e d inside in
        rw same (grind (arith, nat_tests))
