-- The places of sections lie in the gaps, and no two share an address.
use Rattle.std.proofs.Common.{◌≡◌, ℕ, ◌+◌, ◌%◌, ◌<◌, ◌≤◌, true, false, List, [], ◌∷◌, ◌++◌, Option, Some}
use Rattle.std.proofs.Common.{None, Result, Ok, Err, refl, sym, ap, ◌∙◌, arith, ◌⊎◌, inl, inr, append_assoc}
use Rattle.std.specs.Prelude.{nat_lt}
use Rattle.std.specs.List.{AllZip}
use Rattle.std.proofs.lemmas.Bool.{cases_Bool}
use Rattle.std.proofs.lemmas.Bool.Decides.{nat_tests}
use Rattle.std.proofs.lemmas.Option.{same_Some}
use Rattle.ks_base.specs.declared.places.Range.{Range}
use Rattle.ks_base.specs.declared.refusals.Refusal.{Refusal}
use Rattle.image_memory.specs.Ranges.{Ascends, meets, MeetsNone, from_to}
use Rattle.link_post.specs.declared.types.SectionSize.{SectionSize}
use Rattle.link_post.specs.declared.types.Placed.{Placed}
use Rattle.link_post.specs.Places.{unless_empty, boundary, start_in, extent, extents, placed}
use Rattle.link_post.specs.Places.{placed_at, placed_by, after_placed, LiesInOne, IsPlace, ArePlaces}
use Rattle.link_post.specs.inside.Rooms.{own, fits, left_of, first_start, after_first}
use Rattle.link_post.proofs.Rounding.{rounded_multiple}
use Rattle.link_post.proofs.Fitting.{left_where_empty}
use Rattle.link_post.proofs.Lowest.{starts_above, ends_within, first_above}
use Rattle.link_post.proofs.Lowest.{lowest_is_first, without_is_after, after_ascends}

-- ---- one section
lies_first : (s : SectionSize) (gs : List Range) (base : ℕ) → first_start s gs ≡ Some base
    → LiesInOne gs (extent s base)
lies_first s [] base at = absurd cc
lies_first s (g ∷ gs) base at =
    elim (cases_Bool (fits s g)) [
      | inl here ↦
          let e : start_in s g ≡ base = same_Some (start_in s g) base (rw here at at) in
          let low = starts_above s g in
          let high = ends_within s g here in
          inl (omega arith, omega arith)
      | inr later ↦ inr (lies_first s gs base (rw later at at))
    ]

multiple_first : (s : SectionSize) (gs : List Range) (base : ℕ) → first_start s gs ≡ Some base → base % boundary s ≡ 0
multiple_first s [] base at = absurd cc
multiple_first s (g ∷ gs) base at =
    elim (cases_Bool (fits s g)) [
      | inl here ↦
          let e : start_in s g ≡ base = same_Some (start_in s g) base (rw here at at) in
          ap (λ n. n % boundary s) (sym e) ∙ rounded_multiple g.low (boundary s) (omega arith)
      | inr later ↦ multiple_first s gs base (rw later at at)
    ]

-- ---- what is left
in_some : (low high : ℕ) (gs : List Range) (r : Range) → LiesInOne (unless_empty (from_to low high) ++ gs) r
    → ((low ≤ r.low) × (r.high ≤ high)) ⊎ LiesInOne gs r
in_some low high gs r lies =
    elim (cases_Bool (nat_lt low high)) [
      | inl some ↦ rw some at lies
      | inr none ↦ inr (rw none at lies)
    ]

in_left : (s : SectionSize) (g : Range) (gs : List Range) (r : Range) → 0 < s.size → LiesInOne (left_of s g ++ gs) r
    → ((g.low ≤ r.low) × (r.high ≤ start_in s g))
    ⊎ (((start_in s g + s.size ≤ r.low) × (r.high ≤ g.high)) ⊎ LiesInOne gs r)
in_left s g gs r more lies =
    let some : nat_lt 0 s.size ≡ true = grind (arith, nat_tests) in
    let parts = rw (some, append_assoc) at lies in
    elim (in_some g.low (start_in s g) (unless_empty (from_to (start_in s g + s.size) g.high) ++ gs) r parts) [
      | inl lower ↦ inl lower
      | inr rest ↦ inr (in_some (start_in s g + s.size) g.high gs r rest)
    ]

from_none : (s : SectionSize) (gs : List Range) (r : Range) → s.size ≤ 0 → LiesInOne (after_first s gs) r
    → LiesInOne gs r
from_none s gs r none lies = rw (left_where_empty s gs none) at lies

shrinks : (s : SectionSize) (gs : List Range) (r : Range) → 0 < s.size → LiesInOne (after_first s gs) r → LiesInOne gs r
shrinks s [] r more lies = lies
shrinks s (g ∷ gs) r more lies =
    elim (cases_Bool (fits s g)) [
      | inl here ↦
          let low = starts_above s g in
          let high = ends_within s g here in
          elim (in_left s g gs r more (rw here at lies)) [
            | inl lower ↦ let b = lower.1 in inl (lower.0, omega arith)
            | inr rest ↦ elim rest [
              | inl upper ↦ let b = upper.0 in inl (omega arith, upper.1)
              | inr others ↦ inr others
            ]
          ]
      | inr later ↦ elim (rw later at lies) [
        | inl own_range ↦ inl own_range
        | inr others ↦ inr (shrinks s gs r more others)
      ]
    ]

lies_above : (floor : ℕ) (gs : List Range) (r : Range) → Ascends own floor gs → LiesInOne gs r → floor ≤ r.low
lies_above floor [] r up lies = absurd lies
lies_above floor (g ∷ gs) r up lies =
    let from = up.0 in
    let full = up.1 in
    elim lies [
      | inl here ↦ let b = here.0 in omega arith
      | inr later ↦ let b = lies_above g.high gs r up.2 later in omega arith
    ]

below_apart : (a r : Range) → r.high ≤ a.low → meets a r ≡ false
below_apart a r le = grind (arith, nat_tests)

above_apart : (a r : Range) → a.high ≤ r.low → meets a r ≡ false
above_apart a r le = grind (arith, nat_tests)

apart_some : (s : SectionSize) (floor base : ℕ) (gs : List Range) (r : Range) → 0 < s.size → Ascends own floor gs
    → first_start s gs ≡ Some base → LiesInOne (after_first s gs) r
    → meets (extent s base) r ≡ false
apart_some s floor base [] r more up at lies = absurd lies
apart_some s floor base (g ∷ gs) r more up at lies =
    elim (cases_Bool (fits s g)) [
      | inl here ↦
          let e : start_in s g ≡ base = same_Some (start_in s g) base (rw here at at) in
          let high = ends_within s g here in
          elim (in_left s g gs r more (rw here at lies)) [
            | inl lower ↦ let b = lower.1 in below_apart (extent s base) r (omega arith)
            | inr rest ↦ elim rest [
              | inl upper ↦ let b = upper.0 in above_apart (extent s base) r (omega arith)
              | inr others ↦ let b = lies_above g.high gs r up.2 others in above_apart (extent s base) r (omega arith)
            ]
          ]
      | inr later ↦
          let rest : first_start s gs ≡ Some base = rw later at at in
          elim (rw later at lies) [
            | inl own_range ↦ let b = own_range.1 in let above = first_above s g.high base gs up.2 rest in
                below_apart (extent s base) r (omega arith)
            | inr others ↦ apart_some s g.high base gs r more up.2 rest others
          ]
    ]

empty_apart : (s : SectionSize) (base : ℕ) (r : Range) → s.size ≤ 0 → meets (extent s base) r ≡ false
empty_apart s base r none = grind (arith, nat_tests)

size_cases : (n : ℕ) → (0 < n) ⊎ (n ≤ 0)
size_cases n = grind arith

from_left : (s : SectionSize) (gs : List Range) (r : Range) → LiesInOne (after_first s gs) r → LiesInOne gs r
from_left s gs r lies = elim (size_cases s.size) [
  | inl more ↦ shrinks s gs r more lies
  | inr none ↦
      from_none s gs r none lies
]

apart_left : (s : SectionSize) (base : ℕ) (gs : List Range) (r : Range) → Ascends own 0 gs
    → first_start s gs ≡ Some base → LiesInOne (after_first s gs) r → meets (extent s base) r ≡ false
apart_left s base gs r up at lies =
    elim (size_cases s.size) [
      | inl more ↦ apart_some s 0 base gs r more up at lies
      | inr none ↦
          empty_apart s base r none
    ]

-- ---- all sections
each_from_left : (s : SectionSize) (gs : List Range) (sizes : List SectionSize) (ps : List Placed)
    → AllZip (IsPlace (after_first s gs)) sizes ps → AllZip (IsPlace gs) sizes ps
each_from_left s gs [] [] each = tt
each_from_left s gs [] (p ∷ ps) each = absurd each
each_from_left s gs (t ∷ sizes) [] each = absurd each
each_from_left s gs (t ∷ sizes) (p ∷ ps) each = (
  record {
    named = each.0.named;
    multiple = each.0.multiple;
    within =
        from_left s gs (extent t p.base) each.0.within;
  },
  each_from_left s gs sizes ps each.1,
)

meets_none : (s : SectionSize) (base : ℕ) (gs : List Range) (sizes : List SectionSize) (ps : List Placed)
    → Ascends own 0 gs → first_start s gs ≡ Some base → AllZip (IsPlace (after_first s gs)) sizes ps
    → MeetsNone own (extent s base) (extents sizes ps)
meets_none s base gs [] ps up at each = refl
meets_none s base gs (t ∷ sizes) [] up at each = absurd each
meets_none s base gs (t ∷ sizes) (p ∷ ps) up at each =
    rw (apart_left s base gs (extent t p.base) up at each.0.within) (meets_none s base gs sizes ps up at each.1)

record Step (s : SectionSize) (sizes : List SectionSize) (free : List Range) (ps : List Placed) : Type 0 where
  base : ℕ
  rest : List Placed
  at : first_start s free ≡ Some base
  others : placed sizes (after_first s free) ≡ Ok rest
  is : ps ≡ placed_at s base ∷ rest

pub after_ok : (p : Placed) (r : Result (List Placed) Refusal) (ps : List Placed) → after_placed p r ≡ Ok ps
    → (rest : List Placed) × (r ≡ Ok rest) × (ps ≡ p ∷ rest)
after_ok p (Err refusal) ps is = absurd cc
after_ok p (Ok rest) ps is = (rest, refl, let e : p ∷ rest ≡ ps = cc in sym e)

by_first : (s : SectionSize) (sizes : List SectionSize) (free : List Range) (ps : List Placed) (o : Option ℕ)
    → Ascends own 0 free → first_start s free ≡ o → placed_by s free (placed sizes) o ≡ Ok ps → Step s sizes free ps
by_first s sizes free ps None up at is = absurd cc
by_first s sizes free ps (Some base) up at is =
    let it = after_ok (placed_at s base) (placed sizes (after_first s free)) ps
    (ap (λ l. after_placed (placed_at s base) (placed sizes l)) (sym (without_is_after s base free up at)) ∙ is) in
    record { base = base; rest = it.0; at = at; others = it.1; is = it.2 }

one_step : (s : SectionSize) (sizes : List SectionSize) (free : List Range) (ps : List Placed) → Ascends own 0 free
    → placed (s ∷ sizes) free ≡ Ok ps → Step s sizes free ps
unfolding placed
one_step s sizes free ps up is = by_first s sizes free ps (first_start s free) up refl
    (ap (placed_by s free (placed sizes)) (sym (lowest_is_first s 0 free up)) ∙ is)

no_more : (free : List Range) (ps : List Placed) → placed [] free ≡ Ok ps → ps ≡ []
unfolding placed
no_more free ps is = let e : [] ≡ ps = cc in sym e

pub are_places : (sizes : List SectionSize) (free : List Range) (ps : List Placed) → Ascends own 0 free
    → placed sizes free ≡ Ok ps → ArePlaces free sizes ps
are_places [] free ps up is = rw (no_more free ps is) (record { each = tt; apart = tt })
are_places (s ∷ sizes) free ps up is =
    let step = one_step s sizes free ps up is in
    let rest = are_places sizes (after_first s free) step.rest (after_ascends s 0 free up) step.others in
    rw step.is (record {
      each = (
        record {
          named = refl;
          multiple = multiple_first s free step.base step.at;
          within =
              lies_first s free step.base step.at;
        },
        each_from_left s free sizes step.rest rest.each,
      );
      apart = (meets_none s step.base free sizes step.rest up step.at rest.each, rest.apart);
    })
