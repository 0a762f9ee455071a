-- Where among ranges in order a word is looked up that lies in a slot.
use Rattle.std.proofs.Common.{◌≡◌, ℕ, ◌+◌, ◌-◌, ◌*◌, ◌/◌, ◌^◌, ◌≤◌, ◌<◌, ◌⊎◌, inl, inr, List, length, get_or, sym, ap, ◌∙◌, add-one, arith}
use Rattle.std.specs.List.{AllWithin}
use Rattle.std.proofs.Math.Nat.{div-mul-le_self, lt-div-mul-add, div-lt_iff_lt-mul, one-le-pow, suc-mul}
use Rattle.std.proofs.Math.ListN.{set}
use Rattle.std.proofs.lemmas.Nat.{div_below}
use Rattle.std.proofs.lemmas.List.{get_or_default, get_or-set_other}
use Rattle.std.proofs.lemmas.Grind.{get_or-set_at}
use Rattle.std.proofs.lemmas.Simd.{length-chunk, get_or-chunk}
use lib.Lanes.{chunk}
use Rattle.ks_base.specs.declared.places.Range.{Range}
use Rattle.stack_scan.specs.inside.Words.{AreInOrder}
use Rattle.stack_scan.specs.inside.Cuts.{Ends}
use Rattle.stack_scan.proofs.TargetLaws.{highs_rise}

-- a slot begins at or below an address in it, and ends above it
pub slot_begins : (low word size : ℕ) → low ≤ word → low + (word - low) / size * size ≤ word
slot_begins low word size l = omega (arith, div-mul-le_self (word - low) size)

pub slot_ends : (low word size : ℕ) → 0 < size → low ≤ word → word < low + ((word - low) / size + 1) * size
slot_ends low word size some l =
    let slot = (word - low) / size in
    let e : (slot + 1) * size ≡ slot * size + size = ap (λ (n : ℕ). n * size) (add-one slot) ∙ suc-mul slot size in
    rw e (omega (arith, lt-div-mul-add {a = word - low} {b = size} some))

-- and is one of those that take in the address
pub slot_inside : (low high word size : ℕ) → 0 < size → low ≤ word → word < high → high - low < 4096 * size
    → (word - low) / size < 4096
slot_inside low high word size some l m reach = div_below (word - low) size 4096 some (omega arith)

-- a slot has an address
pub some_address : (shift : ℕ) → 0 < 2 ^ shift
some_address shift = one-le-pow shift 2 (omega arith)

-- slots that are enough for a number of addresses, by how many slots these would take
pub enough : (span shift : ℕ) → span / 2 ^ shift < 4096 → span < 4096 * 2 ^ shift
enough span shift few = (div-lt_iff_lt-mul (some_address shift)).0 few

below_or_not : (a b : ℕ) → (a < b) ⊎ (b ≤ a)
below_or_not a b = grind arith

-- as many ranges end at or below an address as at or below a lower one, or more
pub ends_rise : (ranges : List Range) (a b m n : ℕ) → a ≤ b → Ends ranges a m → Ends ranges b n → m ≤ n
ends_rise ranges a b m n l first second = elim (below_or_not n m) [
  | inr not_above ↦ not_above
  | inl above ↦
      let d : Range = record { low = 0; high = 0 } in
      let low = first.below n d (omega arith) above in
      let high = second.above n d (omega arith) (omega (arith, first.bound)) in
      omega (arith, low, high)
]

-- part of ranges in order
pub order_of_part : (ranges : List Range) (start n : ℕ) → start + n ≤ length ranges
    → AreInOrder (length ranges) ranges → AreInOrder (length (chunk start n ranges)) (chunk start n ranges)
order_of_part ranges start n room order =
    let long = length-chunk start n ranges room in
    record {
      even = λ k d l.
          let at = get_or-chunk start n ranges k d (omega (arith, long)) in
          rw at (order.even (start + k) d (omega (arith, long)));
      apart = λ i j d l m.
          let first = get_or-chunk start n ranges i d (omega (arith, long)) in
          let second = get_or-chunk start n ranges j d (omega (arith, long)) in
          rw (first, second) (order.apart (start + i) (start + j) d (omega arith) (omega (arith, long)));
    }

-- how many end at or below a word, where the first ones do and the last ones don't
pub ends_by_part : (ranges : List Range) (word start end k : ℕ) → start ≤ end → end ≤ length ranges
    → AllWithin (λ range. range.high ≤ word) ranges 0 start
    → AllWithin (λ range. word < range.high) ranges end (length ranges)
    → Ends (chunk start (end - start) ranges) word k → Ends ranges word (start + k)
ends_by_part ranges word start end k up room first last part =
    let n = end - start in
    let long = length-chunk start n ranges (omega arith) in
    record {
      bound = omega (arith, long, part.bound);
      below = λ j d from to. elim (below_or_not j start) [
        | inl before ↦ first j d (omega arith) before
        | inr behind ↦
            let back : start + (j - start) ≡ j = omega arith in
            let at = get_or-chunk start n ranges (j - start) d (omega (arith, long, part.bound))
            ∙ ap (λ (i : ℕ). get_or ranges i d) back in
            rw (sym at) (part.below (j - start) d (omega arith) (omega arith))
      ];
      above = λ j d from to. elim (below_or_not j end) [
        | inl inside ↦
            let back : start + (j - start) ≡ j = omega arith in
            let at = get_or-chunk start n ranges (j - start) d (omega arith) ∙ ap (λ (i : ℕ). get_or ranges i d) back in
            rw (sym at) (part.above (j - start) d (omega arith) (omega (arith, long)))
        | inr past ↦ last j d past to
      ];
    }

-- no more do where there are no more, or the next ends above the word
pub no_more_end : (ranges : List Range) (word start : ℕ) → start ≡ length ranges
    → AllWithin (λ range. range.high ≤ word) ranges 0 start → Ends ranges word start
no_more_end ranges word start all first = record {
  bound = omega (arith, all);
  below = first;
  above = λ k d from to. absurd (omega (arith, all));
}

pub next_ends_above : (ranges : List Range) (word start : ℕ) (d : Range) → AreInOrder (length ranges) ranges
    → start < length ranges → word < (get_or ranges start d).high
    → AllWithin (λ range. range.high ≤ word) ranges 0 start → Ends ranges word start
next_ends_above ranges word start d order less above first = record {
  bound = omega (arith, less);
  below = first;
  above = λ k e from to.
      let rise = highs_rise ranges order start k e from to in
      let here = get_or_default ranges start d e less in
      omega (arith, above, rise, ap (λ (range : Range). range.high) here);
}

-- where a word lies in a slot, the ranges that end by the slot's begin end by the word, and those that end past the
-- slot's end end past the word
pub around_word : (low word size m n : ℕ) (ranges : List Range) → 0 < size → low ≤ word
    → Ends ranges (low + (word - low) / size * size) m → Ends ranges (low + ((word - low) / size + 1) * size) n
    → (m ≤ n) × (n ≤ length ranges) × AllWithin (λ range. range.high ≤ word) ranges 0 m
    × AllWithin (λ range. word < range.high) ranges n (length ranges)
around_word low word size m n ranges some l first last =
    let begins = slot_begins low word size l in
    let ends = slot_ends low word size some l in (
      ends_rise ranges _ _ m n (omega (arith, begins, ends)) first last,
      last.bound,
      λ k d from to. let e = first.below k d from to in omega (arith, e, begins),
      λ k d from to. let e = last.above k d from to in omega (arith, e, ends),
    )

same_or_below : (s n : ℕ) → s < n + 1 → (s < n) ⊎ (s ≡ n)
same_or_below s n l = grind arith

-- what ends at or below a bound does so at or below the next
pub ended_by_next : (ranges : List Range) (low shift slot n : ℕ) → Ends ranges (low + slot * 2 ^ shift) n
    → AllWithin (λ range. range.high ≤ low + (slot + 1) * 2 ^ shift) ranges 0 n
ended_by_next ranges low shift slot n ends k d from to =
    let e = ends.below k d from to in
    let more : (slot + 1) * 2 ^ shift ≡ slot * 2 ^ shift + 2 ^ shift =
    ap (λ (m : ℕ). m * 2 ^ shift) (add-one slot) ∙ suc-mul slot (2 ^ shift) in
    omega (arith, e, more)

-- one more bound, of which it is known how many ranges end there
pub one_bound_more : (ranges : List Range) (low shift slot : ℕ) (ended : List ℕ) (n : ℕ) → slot < length ended
    → ((s : ℕ) → s < slot → Ends ranges (low + s * 2 ^ shift) (get_or ended s 0))
    → Ends ranges (low + slot * 2 ^ shift) n
    → (s : ℕ) → s < slot + 1 → Ends ranges (low + s * 2 ^ shift) (get_or (set ended slot n) s 0)
one_bound_more ranges low shift slot ended n room before here s l = elim (same_or_below s slot l) [
  | inl below ↦ rw (get_or-set_other ended slot s n 0 (λ e. omega arith)) (before s below)
  | inr same ↦ rw (get_or-set_at ended slot s n 0 same room, same) here
]
