-- The first range that ends above a word decides whether it is an address of one, where ranges ascend.
use Rattle.std.proofs.Common.{◌≡◌, ℕ, ◌+◌, ◌≤◌, ◌<◌, Bool, true, false, List, length, get_or, arith, ◌⊎◌, inl, inr}
use Rattle.std.proofs.Common.{nat_le, nat_lt, refl, Some, None}
use Rattle.std.specs.List.{AllWithin, position}
use Rattle.std.specs.List.Sorted.{IsNonDecreasingBy}
use Rattle.std.proofs.lemmas.Bool.Decides.{nat_tests}
use Rattle.std.proofs.lemmas.List.{get_or_default}
use Rattle.std.proofs.lemmas.List.Folds.{list_any_none, list_any_at}
use Rattle.std.proofs.lemmas.List.Sums.{position_or_len_is}
use Rattle.ks_base.specs.declared.places.Range.{Range}
use Rattle.image_memory.specs.Ranges.{Ascends, lies_in}
use Rattle.image_memory.specs.laws.RangeLaws.{below, above, each_above, one_after}
use Rattle.stack_scan.specs.Standing.{in_one}

order_of : (k n : ℕ) → (k < n) ⊎ ((k ≡ n) ⊎ (n < k))
order_of k n = grind arith

module _ (ranges : List Range) (up : Ascends (λ range. range) 0 ranges) where
  apart : (i j : ℕ) (d : Range) → i < j → j < length ranges → (get_or ranges i d).high ≤ (get_or ranges j d).low
  apart i j d l m = one_after (λ range. range) 0 ranges i j d up l m

  full : (i : ℕ) (d : Range) → i < length ranges → (get_or ranges i d).low < (get_or ranges i d).high
  full i d l = (each_above (λ range. range) 0 ranges i d up l).1

  -- their ends rise
  pub highs_rise : IsNonDecreasingBy (λ range. range.high) ranges
  highs_rise i j d l m = elim (order_of i j) [
    | inl less ↦
        let before = apart i j d less m in
        let some = full j d m in
        omega arith
    | inr (inl same) ↦ rw same (omega arith)
    | inr (inr more) ↦ absurd (omega arith)
  ]

  -- a word at or above the end of all is an address of none
  pub past_all : (word : ℕ) → AllWithin (λ range. range.high ≤ word) ranges 0 (length ranges) → in_one ranges word ≡ false
  past_all word ended = list_any_none (lies_in word) ranges (λ k d l.
      above word (get_or ranges k d) (ended k d (omega arith) l))

  -- the first that ends above a word decides
  pub by_first : (word n : ℕ) (d : Range) → n < length ranges
      → AllWithin (λ range. range.high ≤ word) ranges 0 n
      → AllWithin (λ range. word < range.high) ranges n (length ranges)
      → in_one ranges word ≡ nat_le (get_or ranges n d).low word
  by_first word n d inside ended ends =
      elim (nat_le (get_or ranges n d).low word)
      as (λ b. nat_le (get_or ranges n d).low word ≡ b → in_one ranges word ≡ b) [
        | true ↦ λ begun. list_any_at (lies_in word) ranges n d inside (here begun)
        | false ↦ λ later. list_any_none (lies_in word) ranges (λ k e l. elim (order_of k n) [
          | inl before ↦ above word (get_or ranges k e) (ended k e (omega arith) before)
          | inr (inl same) ↦ rw same (there e later)
          | inr (inr after) ↦
              let next = apart n k e after l in
              let end = ends n e (omega arith) inside in
              below word (get_or ranges k e) (omega arith)
        ])
      ] refl
    where
      here : nat_le (get_or ranges n d).low word ≡ true → lies_in word (get_or ranges n d) ≡ true
      here begun =
          let end = ends n d (omega arith) inside in
          grind (arith, nat_tests)

      there : (e : Range) → nat_le (get_or ranges n d).low word ≡ false → lies_in word (get_or ranges n e) ≡ false
      there e later =
          let same : get_or ranges n e ≡ get_or ranges n d = get_or_default ranges n e d inside in
          rw same (grind (arith, nat_tests))

  -- a word below the first one's beginning is an address of none
  pub below_all : (word : ℕ) (d : Range) → nat_le (get_or ranges 0 d).low word ≡ false → in_one ranges word ≡ false
  below_all word d under = list_any_none (lies_in word) ranges (λ k e l.
      let low : word < (get_or ranges 0 d).low = grind (arith, nat_tests) in
      let first : get_or ranges 0 d ≡ get_or ranges 0 e = get_or_default ranges 0 d e (omega arith) in
      let least : word < (get_or ranges 0 e).low = rw first at low in
      below word (get_or ranges k e) (elim (order_of 0 k) [
        | inl less ↦
            let before = apart 0 k e less l in
            let some = full 0 e (omega arith) in
            omega arith
        | inr (inl same) ↦ rw (← same) least
        | inr (inr more) ↦ absurd (omega arith)
      ]))

  -- nor is one at the last one's end or above
  pub above_all : (word n : ℕ) (d : Range) → n + 1 ≡ length ranges → nat_lt word (get_or ranges n d).high ≡ false
      → in_one ranges word ≡ false
  above_all word n d last over = list_any_none (lies_in word) ranges (λ k e l.
      let high : (get_or ranges n d).high ≤ word = grind (arith, nat_tests) in
      let same : get_or ranges n d ≡ get_or ranges n e = get_or_default ranges n d e (omega arith) in
      let most : (get_or ranges n e).high ≤ word = rw same at high in
      let rise = highs_rise k n e (omega arith) (omega arith) in
      above word (get_or ranges k e) (omega arith))

-- the index that a walk over words answers
pub position_some : (test : ℕ → Bool) (words : List ℕ) (i : ℕ) → i < length words
    → ((k : ℕ) → k < i → test (get_or words k 0) ≡ false)
    → test (get_or words i 0) ≡ true → Some i ≡ position test words
position_some test words i l before here =
    let at = position_or_len_is test words i 0 (omega arith) before (λ _. here) in
    rw at (grind (arith, nat_tests))

pub position_none : (test : ℕ → Bool) (words : List ℕ) → ((k : ℕ) → k < length words → test (get_or words k 0) ≡ false)
    → None ≡ position test words
position_none test words each =
    let at = position_or_len_is test words (length words) 0 (omega arith) each (λ l. absurd (omega arith)) in
    rw at (grind (arith, nat_tests))
