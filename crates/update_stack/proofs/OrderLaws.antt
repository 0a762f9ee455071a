-- Ranges in ascending order, of which others that ascend are a permutation, ascend themselves.
use Rattle.std.proofs.Common.{◌≡◌, ℕ, zero, suc, ◌+◌, ◌≤◌, ◌<◌, ◌==◌, Bool, true, false, if◌then◌else◌, cond, List, [], ◌∷◌}
use Rattle.std.proofs.Common.{length, get_or, refl, sym, ◌∙◌, ap, arith, subst, ◌⊎◌, inl, inr, ne_eqb}
use Rattle.std.specs.List.{All, Contains, sum_by}
use Rattle.std.specs.List.Sorted.{IsPermutation, IsNonDecreasingBy}
use Rattle.std.proofs.lemmas.List.Elements.{All-cons, All-head, All-tail, Contains-get_or}
use Rattle.std.proofs.lemmas.List.Sorted.{All-permutation, Contains-permutation, IsPermutation-sym, sum_by-IsPermutation}
use Rattle.std.proofs.lemmas.List.Sums.{sum_by-cons}
use Rattle.std.proofs.lemmas.List.{get_or_default}
use Rattle.std.proofs.lemmas.Bool.Decides.{nat_tests}
use Rattle.ks_base.specs.declared.places.Range.{Range}
use Rattle.image_memory.specs.Ranges.{Ascends}
use Rattle.image_memory.specs.laws.RangeLaws.{one_after}

-- how many ranges begin at an address: of some that ascend at most one does
abbrev begins : ℕ → Range → ℕ
begins low range = if range.low == low then 1 else 0

none_below : (low floor : ℕ) (ranges : List Range) → Ascends (λ range. range) floor ranges → low < floor
    → sum_by (begins low) ranges ≡ 0
none_below low floor [] up less = refl
none_below low floor (range ∷ ranges) up less =
    let other : (range.low == low) ≡ false = ne_eqb range.low low (λ same. absurd (omega (arith, up.0))) in
    let rest = none_below low range.high ranges up.2 (omega (arith, up.0, up.1)) in
    sum_by-cons (begins low) range ranges
    ∙ ap (λ (b : Bool). cond b 1 0 + sum_by (begins low) ranges) other
    ∙ omega (arith, rest)

at_most_one : (low floor : ℕ) (ranges : List Range) → Ascends (λ range. range) floor ranges
    → sum_by (begins low) ranges ≤ 1
at_most_one low floor [] up = omega arith
at_most_one low floor (range ∷ ranges) up =
    subst (λ (n : ℕ). n ≤ 1) (sym (sum_by-cons (begins low) range ranges))
    (by_low (range.low == low) refl (at_most_one low range.high ranges up.2))
  where
    by_low : (b : Bool) → (range.low == low) ≡ b → sum_by (begins low) ranges ≤ 1
        → cond b 1 0 + sum_by (begins low) ranges ≤ 1
    by_low true same most =
        let is : range.low ≡ low = grind (arith, nat_tests) in
        let rest = none_below low range.high ranges up.2 (omega (arith, is, up.1)) in
        omega (arith, rest)
    by_low false other most = omega (arith, most)

begins_at : (range : Range) → begins range.low range ≡ 1
begins_at range =
    let same : (range.low == range.low) ≡ true = grind (arith, nat_tests) in
    ap (λ (b : Bool). cond b 1 0) same

one_counts : (f : Range → ℕ) (ranges : List Range) (j : ℕ) (d : Range) → j < length ranges
    → f (get_or ranges j d) ≤ sum_by f ranges
one_counts f [] j d less = absurd (omega arith)
one_counts f (range ∷ ranges) zero d less =
    let sum = sum_by-cons f range ranges in
    omega (arith, sum)
one_counts f (range ∷ ranges) (suc j) d less =
    let sum = sum_by-cons f range ranges in
    let rest = one_counts f ranges j d (omega arith) in
    omega (arith, sum, rest)

two_count : (f : Range → ℕ) (ranges : List Range) (i j : ℕ) (d : Range) → i < j → j < length ranges
    → f (get_or ranges i d) + f (get_or ranges j d) ≤ sum_by f ranges
two_count f [] i j d less within = absurd (omega arith)
two_count f (range ∷ ranges) i zero d less within = absurd (omega arith)
two_count f (range ∷ ranges) zero (suc j) d less within =
    let sum = sum_by-cons f range ranges in
    let rest = one_counts f ranges j d (omega arith) in
    omega (arith, sum, rest)
two_count f (range ∷ ranges) (suc i) (suc j) d less within =
    let sum = sum_by-cons f range ranges in
    let rest = two_count f ranges i j d (omega arith) (omega arith) in
    omega (arith, sum, rest)

-- two of some ranges that ascend are one, or lie apart
three_ways : (i j : ℕ) → (i < j) ⊎ ((j < i) ⊎ (i ≡ j))
three_ways i j = grind arith

one_or_apart : (ranges : List Range) → Ascends (λ range. range) 0 ranges → (a b : Range) → Contains ranges a
    → Contains ranges b → (a ≡ b) ⊎ ((a.high ≤ b.low) ⊎ (b.high ≤ a.low))
one_or_apart ranges up a b (i, less, at) (j, within, is) =
    let here : get_or ranges j a ≡ b = get_or_default ranges j a b within ∙ is in
    elim (three_ways i j) [
      | inl before ↦ inr (inl (rw (at, here) at (one_after (λ (r : Range). r) 0 ranges i j a up before within)))
      | inr (inl behind) ↦ inr (inr (rw (at, here) at (one_after (λ (r : Range). r) 0 ranges j i a up behind less)))
      | inr (inr same) ↦ inl (sym at ∙ ap (λ (k : ℕ). get_or ranges k a) same ∙ here)
    ]

full_each : (floor : ℕ) (ranges : List Range) → Ascends (λ range. range) floor ranges
    → All (λ (range : Range). range.low < range.high) ranges
full_each floor [] up = λ k d l. absurd (omega arith)
full_each floor (range ∷ ranges) up =
    All-cons (λ (r : Range). r.low < r.high) range ranges up.1 (full_each range.high ranges up.2)

-- each range ends before the next begins
abbrev EachBefore : List Range → Type 0
EachBefore ranges = (i j : ℕ) (d : Range) → i < j → j < length ranges
    → (get_or ranges i d).high ≤ (get_or ranges j d).low

rise : (floor : ℕ) (ranges : List Range) → ((d : Range) → 0 < length ranges → floor ≤ (get_or ranges 0 d).low)
    → All (λ (range : Range). range.low < range.high) ranges → EachBefore ranges → Ascends (λ range. range) floor ranges
rise floor [] first full each = tt
rise floor (range ∷ ranges) first full each =
    let P : Range → Type 0 = λ r. r.low < r.high in (
      first range (omega arith),
      All-head P range ranges full,
      rise range.high ranges (λ d some. each 0 1 d (omega arith) (omega arith)) (All-tail P range ranges full)
          (λ i j d less within. each (suc i) (suc j) d (omega arith) (omega arith)),
    )

-- So ranges ascend that are sorted by their lows, where some that ascend are the same in another order.
pub ascends_sorted : (ranges others : List Range) → Ascends (λ range. range) 0 others → IsPermutation ranges others
    → IsNonDecreasingBy (λ range. range.low) ranges → Ascends (λ range. range) 0 ranges
ascends_sorted ranges others up same order =
    rise 0 ranges (λ d some. omega arith)
    (All-permutation (λ (r : Range). r.low < r.high) others ranges (IsPermutation-sym ranges others same)
    (full_each 0 others up)) each
  where
    there : (i : ℕ) (d : Range) → i < length ranges → Contains others (get_or ranges i d)
    there i d less =
        Contains-permutation ranges others (get_or ranges i d) same (Contains-get_or ranges i d less)

    full : (i : ℕ) (d : Range) → i < length ranges → (get_or ranges i d).low < (get_or ranges i d).high
    full i d less =
        All-permutation (λ (r : Range). r.low < r.high) others ranges (IsPermutation-sym ranges others same)
        (full_each 0 others up) i d less

    twice : (i j : ℕ) (d : Range) → i < j → j < length ranges → get_or ranges i d ≡ get_or ranges j d → ⊥
    twice i j d less within one =
        let low = (get_or ranges i d).low in
        let two = two_count (begins low) ranges i j d less within in
        let most = at_most_one low 0 others up in
        let sums = sum_by-IsPermutation (begins low) ranges others same in
        let a : begins low (get_or ranges i d) ≡ 1 = begins_at (get_or ranges i d) in
        let b : begins low (get_or ranges j d) ≡ 1 = ap (begins low) (sym one) ∙ a in
        absurd (omega (arith, two, most, sums, a, b))

    each : EachBefore ranges
    each i j d less within =
        let lows : (get_or ranges i d).low ≤ (get_or ranges j d).low = order i j d (omega arith) within in
        let some = full j d within in
        elim (one_or_apart others up (get_or ranges i d) (get_or ranges j d) (there i d (omega arith))
        (there j d within)) [
          | inl one ↦ absurd (twice i j d less within one)
          | inr (inl before) ↦ before
          | inr (inr behind) ↦
              let first = full i d (omega arith) in
              absurd (omega (arith, lows, some, behind, first))
        ]
