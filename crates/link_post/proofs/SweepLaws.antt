-- One pass over free ranges and those that are taken, both in order.
use Rattle.std.proofs.Common.{◌≡◌, ℕ, ◌+◌, ◌<◌, ◌≤◌, min, max, true, false, List, [], ◌∷◌, ◌++◌, All, length, get_or}
use Rattle.std.proofs.Common.{take, drop, refl, sym, ap, ◌∙◌, arith, inl, inr, append_assoc, append-nil, nat_lt}
use Rattle.std.proofs.Common.{if◌then◌else◌, fold, subst}
use Rattle.std.specs.List.Sorted.{IsNonDecreasingBy}
use Rattle.std.proofs.lemmas.Bool.{ltb-true, cases_Bool}
use Rattle.std.proofs.lemmas.Bool.Decides.{nat_tests}
use Rattle.std.proofs.lemmas.List.{take_more, drop_more, get_or-drop, get_or_default, length-drop, take-append-drop}
use Rattle.std.proofs.lemmas.List.Concat.{flat_map-append}
use Rattle.std.proofs.lemmas.List.Elements.{All-head, All-tail}
use Rattle.std.proofs.lemmas.List.Sums.{fold-append, fold_more}
use Rattle.ks_base.specs.declared.places.Range.{Range}
use Rattle.image_memory.specs.Ranges.{Ascends, from_to}
use Rattle.link_post.specs.Places.{cut, without}
use Rattle.link_post.specs.inside.Sweeping.{Stands}
use Rattle.link_post.proofs.CutLaws.{part, cut_part}

-- what is left of free ranges where others were taken
abbrev pub left_of : List Range → List Range → List Range
left_of free ts = fold without free ts

without_both : (a b : List Range) (t : Range) → without (a ++ b) t ≡ without a t ++ without b t
without_both a b t = elim (cases_Bool (nat_lt t.low t.high)) [
  | inl full ↦ rw full (flat_map-append (cut t) a b)
  | inr none ↦ rw none refl
]

apart : (a b ts : List Range) → left_of (a ++ b) ts ≡ left_of a ts ++ left_of b ts
apart a b [] = refl
apart a b (t ∷ ts) =
    ap (λ (xs : List Range). left_of xs ts) (without_both a b t) ∙ apart (without a t) (without b t) ts

-- a range that is taken leaves what lies below it and above it
without_part : (low high : ℕ) (t : Range) → t.low < t.high
    → without (part low high) t ≡ part low (min high t.low) ++ part (max low t.high) high
without_part low high t full =
    let some : nat_lt t.low t.high ≡ true = grind (arith, nat_tests) in
    rw some (cut_part t low high)

-- ranges that begin at an end or above leave all
one_above : (low high : ℕ) (t : Range) → high ≤ t.low → without (part low high) t ≡ part low high
one_above low high t above = elim (cases_Bool (nat_lt t.low t.high)) [
  | inl some ↦
      let full = ltb-true t.low t.high some in
      let ends : min high t.low ≡ high = omega arith in
      let upper : nat_lt (max low t.high) high ≡ false = grind (arith, nat_tests) in
      without_part low high t full ∙ rw (ends, upper) (append-nil (part low high))
  | inr none ↦ rw none refl
]

all_above : (low high : ℕ) (ts : List Range) → All (λ t. high ≤ t.low) ts → left_of (part low high) ts ≡ part low high
all_above low high [] all = refl
all_above low high (t ∷ ts) all =
    ap (λ (xs : List Range). left_of xs ts) (one_above low high t (All-head (λ t. high ≤ t.low) t ts all))
    ∙ all_above low high ts (All-tail (λ t. high ≤ t.low) t ts all)

rest_above : (bound next : ℕ) (taken : List Range) → IsNonDecreasingBy (λ t. t.low) taken
    → ((d : Range) → next < length taken → bound ≤ (get_or taken next d).low)
    → All (λ t. bound ≤ t.low) (drop next taken)
rest_above bound next taken rises first k d less =
    let e : get_or (drop next taken) k d ≡ get_or taken (next + k) d = get_or-drop next taken k d in
    let inside : next + k < length taken = omega (arith, length-drop next taken) in
    let here = first d (omega arith) in
    let up = rises next (next + k) d (omega arith) inside in
    rw e (omega arith)

-- ---- the taken ranges that are passed
abbrev pub reach_after : ℕ → Range → ℕ
reach_after reach t = if nat_lt t.low t.high then max reach t.high else reach

pub stands_none : (taken : List Range) → Stands taken 0 0 0
stands_none taken = record {
  within = omega arith;
  leaves = λ low high from full.
      let some : nat_lt (max low 0) high ≡ true = grind (arith, nat_tests) in
      let e : max low 0 ≡ low = omega arith in
      sym (rw (some, e) refl);
}

pub stands_from : (taken : List Range) (a b next reach : ℕ) → a ≤ b → Stands taken a next reach
    → Stands taken b next reach
stands_from taken a b next reach le s = record {
  within = s.within;
  leaves = λ low high from full. s.leaves low high (omega arith) full;
}

passed : (low high reach : ℕ) (t : Range) → t.low ≤ low
    → without (part (max low reach) high) t ≡ part (max low (reach_after reach t)) high
passed low high reach t le = elim (cases_Bool (nat_lt t.low t.high)) [
  | inl some ↦
      let full = ltb-true t.low t.high some in
      let lower : nat_lt (max low reach) (min high t.low) ≡ false = grind (arith, nat_tests) in
      let e : max (max low reach) t.high ≡ max low (max reach t.high) = omega arith in
      without_part (max low reach) high t full ∙ rw (lower, some, e) refl
  | inr none ↦ rw none refl
]

stands_more : (taken : List Range) (floor next reach : ℕ) (t : Range) → next < length taken → t ≡ get_or taken next t
    → t.low ≤ floor → Stands taken floor next reach → Stands taken floor (next + 1) (reach_after reach t)
stands_more taken floor next reach t less is le s = record {
  within = omega arith;
  leaves = λ low high from full.
      let all = from_to low high ∷ [] in
      fold_more without all taken next t less
      ∙ ap (λ (x : Range). without (left_of all (take next taken)) x) (sym is)
      ∙ ap (λ (xs : List Range). without xs t) (s.leaves low high from full)
      ∙ passed low high reach t (omega arith);
}

pub stands_next : (taken : List Range) (floor next reach n r : ℕ) (t : Range) → n ≡ next + 1 → r ≡ reach_after reach t
    → next < length taken → t ≡ get_or taken next t → t.low ≤ floor → Stands taken floor next reach
    → Stands taken floor n r
stands_next taken floor next reach n r t e f less is le s =
    rw (e, f) (stands_more taken floor next reach t less is le s)

-- ---- one free range
pub begun : (taken : List Range) (r : Range) (next reach : ℕ) → r.low < r.high → Stands taken r.low next reach
    → left_of (part (max r.low reach) r.high) (drop next taken) ≡ left_of (r ∷ []) taken
begun taken r next reach full s =
    ap (λ (xs : List Range). left_of xs (drop next taken)) (sym (s.leaves r.low r.high (omega arith) full))
    ∙ sym (fold-append without (r ∷ []) (take next taken) (drop next taken))
    ∙ ap (left_of (r ∷ [])) (take-append-drop next taken)

-- what is left below a taken range, above the end of those before it
abbrev left_below : ℕ → ℕ → Range → List Range
left_below low reach t = if nat_lt t.low t.high then part (max low reach) t.low else []

one_more : (low high reach : ℕ) (t : Range) (ts : List Range) → t.low < high → All (λ s. t.low ≤ s.low) ts
    → left_of (without (part (max low reach) high) t) ts
    ≡ left_below low reach t ++ left_of (part (max low (reach_after reach t)) high) ts
one_more low high reach t ts less all = elim (cases_Bool (nat_lt t.low t.high)) [
  | inl some ↦
      let full = ltb-true t.low t.high some in
      let e : max (max low reach) t.high ≡ max low (max reach t.high) = omega arith in
      let m : min high t.low ≡ t.low = omega arith in
      let upper = left_of (part (max low (max reach t.high)) high) ts in
      ap (λ (xs : List Range). left_of xs ts) (without_part (max low reach) high t full)
      ∙ apart (part (max low reach) (min high t.low)) (part (max (max low reach) t.high) high) ts
      ∙ rw (m, e, some) (ap (λ (xs : List Range). xs ++ upper) (all_above (max low reach) t.low ts all))
  | inr none ↦ rw none refl
]

step : (taken : List Range) (low high next reach : ℕ) (t : Range) → IsNonDecreasingBy (λ t. t.low) taken
    → next < length taken → t ≡ get_or taken next t → t.low < high
    → left_of (part (max low reach) high) (drop next taken)
    ≡ left_below low reach t ++ left_of (part (max low (reach_after reach t)) high) (drop (next + 1) taken)
step taken low high next reach t rises less is below =
    ap (left_of (part (max low reach) high)) (drop_more taken next t less)
    ∙ ap (λ (x : Range). left_of (part (max low reach) high) (x ∷ drop (next + 1) taken)) (sym is)
    ∙ one_more low high reach t (drop (next + 1) taken) below
    (rest_above t.low (next + 1) taken rises (λ d more.
    let up = rises next (next + 1) d (omega arith) more in
    let first : (get_or taken next d).low ≡ (get_or taken next t).low =
    ap (λ (x : Range). x.low) (get_or_default taken next d t less) in
    let here : t.low ≡ (get_or taken next t).low = ap (λ (x : Range). x.low) is in
    omega arith))

pub step_next : (taken old new whole : List Range) (low high next reach n r : ℕ) (t : Range) → n ≡ next + 1
    → r ≡ reach_after reach t → new ≡ old ++ left_below low reach t → IsNonDecreasingBy (λ t. t.low) taken
    → next < length taken → t ≡ get_or taken next t → t.low < high
    → old ++ left_of (part (max low reach) high) (drop next taken) ≡ whole
    → new ++ left_of (part (max low r) high) (drop n taken) ≡ whole
step_next taken old new whole low high next reach n r t e f g rises less is below same =
    let rest = left_of (part (max low (reach_after reach t)) high) (drop (next + 1) taken) in
    rw (e, f, g)
    (append_assoc old (left_below low reach t) rest
    ∙ ap (λ (xs : List Range). old ++ xs) (sym (step taken low high next reach t rises less is below))
    ∙ same)

pub ended : (taken old new whole : List Range) (low high next reach m : ℕ) → new ≡ old ++ part m high
    → m ≡ max low reach → IsNonDecreasingBy (λ t. t.low) taken
    → ((d : Range) → next < length taken → high ≤ (get_or taken next d).low)
    → old ++ left_of (part (max low reach) high) (drop next taken) ≡ whole → new ≡ whole
ended taken old new whole low high next reach m e is rises above same =
    let all = all_above (max low reach) high (drop next taken) (rest_above high next taken rises above) in
    e
    ∙ ap (λ (n : ℕ). old ++ part n high) is
    ∙ ap (λ (xs : List Range). old ++ xs) (sym all)
    ∙ same

pub first_at : (taken : List Range) (next high : ℕ) (e d : Range) → next < length taken
    → high ≤ (get_or taken next e).low → high ≤ (get_or taken next d).low
first_at taken next high e d less other =
    subst (λ (x : Range). high ≤ x.low) (get_or_default taken next e d less) other

-- ---- all free ranges
-- free ranges from one on still ascend, and taken ones stand where they begin
abbrev pub GoesOn : (free taken : List Range) (next reach : ℕ) → Type 0
GoesOn free taken next reach = (floor : ℕ) × Ascends (λ range. range) floor free × Stands taken floor next reach

pub next_range : (free taken left new : List Range) (i next reach n r : ℕ) (range : Range)
    → new ≡ left ++ left_of (range ∷ []) taken → Stands taken range.high n r
    → i < length free → range ≡ get_or free i range
    → (left ≡ left_of (take i free) taken) × GoesOn (drop i free) taken next reach
    → (new ≡ left_of (take (i + 1) free) taken) × GoesOn (drop (i + 1) free) taken n r
next_range free taken left new i next reach n r range e s less is before =
    let here : drop i free ≡ range ∷ drop (i + 1) free =
    drop_more free i range less ∙ ap (λ (x : Range). x ∷ drop (i + 1) free) (sym is) in
    let more : take (i + 1) free ≡ take i free ++ range ∷ [] =
    take_more free i range less ∙ ap (λ (x : Range). take i free ++ x ∷ []) (sym is) in
    let up = subst (Ascends (λ r. r) before.1.0) here before.1.1 in (
      e
          ∙ ap (λ (xs : List Range). xs ++ left_of (range ∷ []) taken) before.0
          ∙ sym (apart (take i free) (range ∷ []) taken)
          ∙ ap (λ (rs : List Range). left_of rs taken) (sym more),
      (range.high, up.2, s),
    )

none_left : (t : Range) → without [] t ≡ []
none_left t = elim (cases_Bool (nat_lt t.low t.high)) [ inl full ↦ rw full refl | inr none ↦ rw none refl ]

pub all_of_none : (ts : List Range) → [] ≡ left_of [] ts
all_of_none [] = refl
all_of_none (t ∷ ts) = all_of_none ts ∙ ap (λ (xs : List Range). left_of xs ts) (sym (none_left t))
