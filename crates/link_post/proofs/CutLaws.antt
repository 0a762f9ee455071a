-- What is left of free ranges is the same in whichever order two ranges are taken.
use Rattle.std.proofs.Common.{◌≡◌, ℕ, ◌<◌, min, max, false, List, [], ◌∷◌, ◌++◌, refl, sym, ap, ◌∙◌, arith, ◌⊎◌, inl}
use Rattle.std.proofs.Common.{inr, append_assoc, append-nil, nat_lt, flat_map}
use Rattle.std.proofs.lemmas.Bool.{ltb-true, cases_Bool}
use Rattle.std.proofs.lemmas.Bool.Decides.{nat_tests}
use Rattle.std.proofs.lemmas.List.Concat.{flat_map-append}
use Rattle.ks_base.specs.declared.places.Range.{Range}
use Rattle.image_memory.specs.Ranges.{from_to}
use Rattle.link_post.specs.Places.{unless_empty, cut, without}

-- the addresses from one on and below another
abbrev pub part : ℕ → ℕ → List Range
part low high = unless_empty (from_to low high)

-- what is left of such a part
pub cut_part : (t : Range) (low high : ℕ) → flat_map (cut t) (part low high) ≡ cut t (from_to low high)
cut_part t low high = elim (cases_Bool (nat_lt low high)) [
  | inl some ↦ rw some (append-nil (cut t (from_to low high)))
  | inr none ↦
      let lower : nat_lt low (min high t.low) ≡ false = grind (arith, nat_tests) in
      let upper : nat_lt (max low t.high) high ≡ false = grind (arith, nat_tests) in
      rw (none, lower, upper) refl
]

-- the parts in the middle change places where one of them is empty
middle_moved : (a b c d : List Range) → (b ≡ []) ⊎ (c ≡ []) → (a ++ b) ++ (c ++ d) ≡ (a ++ c) ++ (b ++ d)
middle_moved a b c d none = elim none [
  | inl e ↦ rw (e, append-nil) (sym (append_assoc a c d))
  | inr e ↦ rw (e, append-nil) (append_assoc a b d)
]

-- a range isn't both above one and below another and the other way round
one_side : (s t r : Range) → s.low < s.high → t.low < t.high
    → (part (max r.low t.high) (min r.high s.low) ≡ []) ⊎ (part (max r.low s.high) (min r.high t.low) ≡ [])
one_side s t r full other = elim (cases_Bool (nat_lt (max r.low t.high) (min r.high s.low))) [
  | inl some ↦
      let none : nat_lt (max r.low s.high) (min r.high t.low) ≡ false = grind (arith, nat_tests) in
      inr (rw none refl)
  | inr none ↦ inl (rw none refl)
]

-- what two ranges leave of one: below both, above the second and below the first, the other way round, and above both
abbrev four_parts : (s t r : Range) (low high : ℕ) → List Range
four_parts s t r low high =
    (part r.low low ++ part (max r.low t.high) (min r.high s.low))
    ++ (part (max r.low s.high) (min r.high t.low) ++ part high r.high)

both_cut : (s t r : Range) → flat_map (cut t) (cut s r)
    ≡ four_parts s t r (min (min r.high s.low) t.low) (max (max r.low s.high) t.high)
both_cut s t r =
    let lower = part r.low (min r.high s.low) in
    let upper = part (max r.low s.high) r.high in
    flat_map-append (cut t) lower upper
    ∙ ap (λ (xs : List Range). xs ++ flat_map (cut t) upper) (cut_part t r.low (min r.high s.low))
    ∙ ap (λ (xs : List Range). cut t (from_to r.low (min r.high s.low)) ++ xs)
    (cut_part t (max r.low s.high) r.high)

cut_both_ways : (s t r : Range) → s.low < s.high → t.low < t.high
    → flat_map (cut t) (cut s r) ≡ flat_map (cut s) (cut t r)
cut_both_ways s t r full other =
    let lows : min (min r.high s.low) t.low ≡ min (min r.high t.low) s.low = omega arith in
    let highs : max (max r.low s.high) t.high ≡ max (max r.low t.high) s.high = omega arith in
    both_cut s t r
    ∙ middle_moved _ _ _ _ (one_side s t r full other)
    ∙ ap (λ (low : ℕ). four_parts t s r low (max (max r.low s.high) t.high)) lows
    ∙ ap (λ (high : ℕ). four_parts t s r (min (min r.high t.low) s.low) high) highs
    ∙ sym (both_cut t s r)

all_cut : (s t : Range) (free : List Range) → s.low < s.high → t.low < t.high
    → flat_map (cut t) (flat_map (cut s) free) ≡ flat_map (cut s) (flat_map (cut t) free)
all_cut s t [] full other = refl
all_cut s t (r ∷ free) full other =
    flat_map-append (cut t) (cut s r) (flat_map (cut s) free)
    ∙ ap (λ (xs : List Range). xs ++ flat_map (cut t) (flat_map (cut s) free)) (cut_both_ways s t r full other)
    ∙ ap (λ (xs : List Range). flat_map (cut s) (cut t r) ++ xs) (all_cut s t free full other)
    ∙ sym (flat_map-append (cut s) (cut t r) (flat_map (cut t) free))

pub commute : (free : List Range) (s t : Range) → without (without free s) t ≡ without (without free t) s
commute free s t = elim (cases_Bool (nat_lt s.low s.high)) [
  | inl full ↦ elim (cases_Bool (nat_lt t.low t.high)) [
    | inl other ↦ rw (full, other) (all_cut s t free (ltb-true _ _ full) (ltb-true _ _ other))
    | inr none ↦ rw (full, none) refl
  ]
  | inr none ↦ rw none refl
]
