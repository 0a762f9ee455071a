-- The address that is chosen for a section is the lowest at which it may begin.
use Rattle.std.proofs.Common.{◌≡◌, ℕ, ◌+◌, ◌%◌, ◌≤◌, min, true, false, List, [], ◌∷◌, Option, Some, None}
use Rattle.std.proofs.Common.{Result, Ok, Err, refl, sym, ap, ◌∙◌, arith, ◌⊎◌, inl, inr, flat_map, fold, subst}
use Rattle.std.proofs.lemmas.Bool.{cases_Bool}
use Rattle.std.proofs.lemmas.Bool.Decides.{nat_tests}
use Rattle.std.proofs.lemmas.Option.{same_Some}
use Rattle.ks_base.specs.declared.places.Range.{Range}
use Rattle.ks_base.specs.declared.refusals.Refusal.{Refusal}
use Rattle.ks_base.specs.declared.refusals.Refusal.TheVariants.{NoRoom}
use Rattle.link_post.specs.declared.types.SectionSize.{SectionSize}
use Rattle.link_post.specs.declared.types.Placed.{Placed}
use Rattle.link_post.specs.Places.{boundary, start_in, fitting, lowest, extent, without, placed, placed_at, placed_by}
use Rattle.link_post.specs.Places.{after_placed, FitsAt, IsLowest, FitsNowhere, ArePlacedLow, FindsNoRoom}
use Rattle.link_post.specs.inside.Rooms.{fits}
use Rattle.link_post.proofs.Rounding.{rounded_multiple, rounds_least}
use Rattle.link_post.proofs.Lowest.{starts_above, ends_within}
use Rattle.link_post.proofs.Apart.{after_ok}

-- ---- one range
fits_start : (s : SectionSize) (g : Range) (gs : List Range) → fits s g ≡ true → FitsAt (g ∷ gs) s (start_in s g)
fits_start s g gs here = record {
  multiple = rounded_multiple g.low (boundary s) (omega arith);
  within = inl (starts_above s g, ends_within s g here);
}

later_fits : (s : SectionSize) (g : Range) (gs : List Range) (a : ℕ) → FitsAt gs s a → FitsAt (g ∷ gs) s a
later_fits s g gs a at = record { multiple = at.multiple; within = inr at.within }

start_least : (s : SectionSize) (g : Range) (a : ℕ) → g.low ≤ a → a % boundary s ≡ 0 → start_in s g ≤ a
start_least s g a above multiple = rounds_least g.low a (boundary s) (omega arith) above multiple

-- a range in which it doesn't fit from the first multiple on has no other address for it
only_later : (s : SectionSize) (g : Range) (gs : List Range) (a : ℕ) → fits s g ≡ false → FitsAt (g ∷ gs) s a
    → FitsAt gs s a
only_later s g gs a later at = elim at.within [
  | inl here ↦
      let low = start_least s g a here.0 at.multiple in
      let high = here.1 in
      let below : start_in s g + s.size ≤ g.high = omega arith in
      absurd (grind (arith, nat_tests, below, later))
  | inr others ↦ record { multiple = at.multiple; within = others }
]

-- ---- all ranges
-- the least of an address and those at which a section may begin
record Least (s : SectionSize) (a : ℕ) (gs : List Range) (m : ℕ) : Type 0 where
  held : (m ≡ a) ⊎ FitsAt gs s m
  first : m ≤ a
  others : (b : ℕ) → FitsAt gs s b → m ≤ b

one_of_two : (a b m : ℕ) → m ≡ min a b → (m ≡ a) ⊎ (m ≡ b)
one_of_two a b m is = grind (arith, is)

with_start : (s : SectionSize) (a : ℕ) (g : Range) (gs : List Range) (m : ℕ) → fits s g ≡ true
    → Least s (min a (start_in s g)) gs m → Least s a (g ∷ gs) m
with_start s a g gs m here rest =
    let low = rest.first in
    record {
      held = elim rest.held [
        | inl e ↦ elim (one_of_two a (start_in s g) m e) [
          | inl first ↦ inl first
          | inr start ↦ inr (subst (FitsAt (g ∷ gs) s) (sym start) (fits_start s g gs here))
        ]
        | inr at ↦ inr (later_fits s g gs m at)
      ];
      first = omega (arith, low);
      others = λ b at. elim at.within [
        | inl own_range ↦ let start = start_least s g b own_range.0 at.multiple in omega (arith, low, start)
        | inr others ↦ rest.others b (record { multiple = at.multiple; within = others })
      ];
    }

least_of : (s : SectionSize) (a : ℕ) (gs : List Range) → Least s a gs (fold min a (flat_map (fitting s) gs))
least_of s a [] = record { held = inl refl; first = omega arith; others = λ b at. absurd at.within }
least_of s a (g ∷ gs) = elim (cases_Bool (fits s g)) [
  | inl here ↦
      let low = min a (start_in s g) in
      rw here (with_start s a g gs (fold min low (flat_map (fitting s) gs)) here (least_of s low gs))
  | inr later ↦
      let m = fold min a (flat_map (fitting s) gs) in
      let rest : Least s a gs m = least_of s a gs in
      rw later (record {
        held = elim rest.held [
          | inl e ↦ inl e
          | inr at ↦ inr (later_fits s g gs m at)
        ];
        first = rest.first;
        others = λ b at. rest.others b (only_later s g gs b later at);
      })
]

from_start : (s : SectionSize) (g : Range) (gs : List Range) (m : ℕ) → fits s g ≡ true → Least s (start_in s g) gs m
    → IsLowest (g ∷ gs) s m
from_start s g gs m here it = record {
  fits = elim it.held [
    | inl start ↦ subst (FitsAt (g ∷ gs) s) (sym start) (fits_start s g gs here)
    | inr at ↦ later_fits s g gs m at
  ];
  least = λ b at. elim at.within [
    | inl own_range ↦
        let start = start_least s g b own_range.0 at.multiple in
        let low = it.first in
        omega (arith, low, start)
    | inr others ↦ it.others b (record { multiple = at.multiple; within = others })
  ];
}

pub is_lowest : (s : SectionSize) (gs : List Range) (base : ℕ) → lowest s gs ≡ Some base → IsLowest gs s base
is_lowest s [] base at = absurd cc
is_lowest s (g ∷ gs) base at = elim (cases_Bool (fits s g)) [
  | inl here ↦
      let m = fold min (start_in s g) (flat_map (fitting s) gs) in
      let e : m ≡ base = same_Some m base (rw here at at) in
      subst (IsLowest (g ∷ gs) s) e (from_start s g gs m here (least_of s (start_in s g) gs))
  | inr later ↦
      let rest : IsLowest gs s base = is_lowest s gs base (rw later at at) in
      record {
        fits = later_fits s g gs base rest.fits;
        least = λ b at. rest.least b (only_later s g gs b later at);
      }
]

pub fits_nowhere : (s : SectionSize) (gs : List Range) → lowest s gs ≡ None → FitsNowhere gs s
fits_nowhere s [] none a at = absurd at.within
fits_nowhere s (g ∷ gs) none a at = elim (cases_Bool (fits s g)) [
  | inl here ↦ let some = rw here at none in absurd cc
  | inr later ↦ fits_nowhere s gs (rw later at none) a (only_later s g gs a later at)
]

-- ---- all sections
-- a section's place, and what the others come to in what it leaves
record Step (s : SectionSize) (sizes : List SectionSize) (free : List Range) (r : Result (List Placed) Refusal)
    : Type 0 where
  base : ℕ
  low : IsLowest free s base
  is : r ≡ after_placed (placed_at s base) (placed sizes (without free (extent s base)))

-- or that it has none
record Stop (s : SectionSize) (free : List Range) (r : Result (List Placed) Refusal) : Type 0 where
  nowhere : FitsNowhere free s
  is : r ≡ Err (NoRoom s.size)

step_by : (s : SectionSize) (sizes : List SectionSize) (free : List Range) (o : Option ℕ) → lowest s free ≡ o
    → Step s sizes free (placed_by s free (placed sizes) o) ⊎ Stop s free (placed_by s free (placed sizes) o)
step_by s sizes free None at = inr (record { nowhere = fits_nowhere s free at; is = refl })
step_by s sizes free (Some base) at = inl (record { base = base; low = is_lowest s free base at; is = refl })

one_step : (s : SectionSize) (sizes : List SectionSize) (free : List Range)
    → Step s sizes free (placed (s ∷ sizes) free) ⊎ Stop s free (placed (s ∷ sizes) free)
unfolding placed
one_step s sizes free = step_by s sizes free (lowest s free) refl

no_more : (free : List Range) → placed [] free ≡ Ok []
unfolding placed
no_more free = refl

after_err : (p : Placed) (r : Result (List Placed) Refusal) (refusal : Refusal) → after_placed p r ≡ Err refusal
    → r ≡ Err refusal
after_err p (Err other) refusal is = is
after_err p (Ok rest) refusal is = absurd cc

pub placed_low : (sizes : List SectionSize) (free : List Range) (ps : List Placed) → placed sizes free ≡ Ok ps
    → ArePlacedLow free sizes ps
placed_low [] free ps is =
    let e : Ok [] ≡ Ok ps = sym (no_more free) ∙ is in
    let none : [] ≡ ps = cc in
    subst (ArePlacedLow free []) none tt
placed_low (s ∷ sizes) free ps is = elim (one_step s sizes free) [
  | inl step ↦
      let left = without free (extent s step.base) in
      let it = after_ok (placed_at s step.base) (placed sizes left) ps (sym step.is ∙ is) in
      let rest : ArePlacedLow left sizes it.0 = placed_low sizes left it.0 it.1 in
      subst (ArePlacedLow free (s ∷ sizes)) (sym it.2) (refl, step.low, rest)
  | inr stop ↦ let e : Err (NoRoom s.size) ≡ Ok ps = sym stop.is ∙ is in absurd cc
]

refused_first : (s : SectionSize) (sizes : List SectionSize) (free : List Range) (refusal : Refusal)
    → FitsNowhere free s → refusal ≡ NoRoom s.size → FindsNoRoom free (s ∷ sizes) refusal
refused_first s sizes free refusal nowhere told = record {
  before = [];
  section = s;
  after = sizes;
  places = [];
  parts = refl;
  low = tt;
  nowhere = nowhere;
  told = told;
}

refused_later : (s : SectionSize) (sizes : List SectionSize) (free : List Range) (base : ℕ) (refusal : Refusal)
    → IsLowest free s base → FindsNoRoom (without free (extent s base)) sizes refusal
    → FindsNoRoom free (s ∷ sizes) refusal
refused_later s sizes free base refusal low rest = record {
  before = s ∷ rest.before;
  section = rest.section;
  after = rest.after;
  places = placed_at s base ∷ rest.places;
  parts = ap (λ ss. s ∷ ss) rest.parts;
  low = (refl, low, rest.low);
  nowhere = rest.nowhere;
  told = rest.told;
}

pub finds_no_room : (sizes : List SectionSize) (free : List Range) (refusal : Refusal)
    → placed sizes free ≡ Err refusal → FindsNoRoom free sizes refusal
finds_no_room [] free refusal is = let e : Ok [] ≡ Err refusal = sym (no_more free) ∙ is in absurd cc
finds_no_room (s ∷ sizes) free refusal is = elim (one_step s sizes free) [
  | inl step ↦
      let left = without free (extent s step.base) in
      let rest = after_err (placed_at s step.base) (placed sizes left) refusal (sym step.is ∙ is) in
      refused_later s sizes free step.base refusal step.low (finds_no_room sizes left refusal rest)
  | inr stop ↦
      let e : Err refusal ≡ Err (NoRoom s.size) = sym is ∙ stop.is in
      refused_first s sizes free refusal stop.nowhere cc
]
