-- Of ranges that ascend, the first in which a section fits has the lowest address for it, and nothing is taken of
-- the others.
use Rattle.std.proofs.Common.{◌≡◌, ℕ, ◌+◌, ◌<◌, ◌≤◌, true, false, List, [], ◌∷◌, ◌++◌}
use Rattle.std.proofs.Common.{Some, refl, sym, ap, arith, inl, inr, append_assoc}
use Rattle.std.specs.Prelude.{min, max, nat_lt}
use Rattle.std.specs.List.{flat_map, fold}
use Rattle.std.proofs.lemmas.Bool.{lt-ltb, leb-true, cases_Bool}
use Rattle.std.proofs.lemmas.Bool.Decides.{nat_tests}
use Rattle.std.proofs.lemmas.Option.{same_Some}
use Rattle.ks_base.specs.declared.places.Range.{Range}
use Rattle.image_memory.specs.Ranges.{Ascends, from_to}
use Rattle.link_post.specs.declared.types.SectionSize.{SectionSize}
use Rattle.link_post.specs.Places.{unless_empty, cut, without, boundary, start_in, fitting, lowest, extent}
use Rattle.link_post.specs.inside.Rooms.{own, fits, first_start, after_first}
use Rattle.link_post.proofs.Rounding.{rounds_up}
use Rattle.link_post.proofs.Fitting.{left_where_empty}

pub starts_above : (s : SectionSize) (r : Range) → r.low ≤ start_in s r
starts_above s r = rounds_up r.low (boundary s) (omega arith)

pub ends_within : (s : SectionSize) (r : Range) → fits s r ≡ true → start_in s r + s.size ≤ r.high
ends_within s r here = leb-true (start_in s r + s.size) r.high here

least : (s : SectionSize) (a floor : ℕ) (gs : List Range) → a ≤ floor → Ascends own floor gs
    → fold min a (flat_map (fitting s) gs) ≡ a
least s a floor [] le up = refl
least s a floor (g ∷ gs) le up =
    let from = up.0 in
    let low = starts_above s g in
    let first : min a (start_in s g) ≡ a = omega arith in
    let rest : a ≤ g.high = let full = up.1 in omega arith in
    elim (cases_Bool (fits s g)) [
      | inl here ↦ rw (here, first) (least s a g.high gs rest up.2)
      | inr later ↦ rw later (least s a g.high gs rest up.2)
    ]

pub lowest_is_first : (s : SectionSize) (floor : ℕ) (gs : List Range) → Ascends own floor gs
    → lowest s gs ≡ first_start s gs
lowest_is_first s floor [] up = refl
lowest_is_first s floor (g ∷ gs) up =
    elim (cases_Bool (fits s g)) [
      | inl here ↦
          let le : start_in s g ≤ g.high = let e = ends_within s g here in omega arith in
          rw here (ap Some (least s (start_in s g) g.high gs le up.2))
      | inr later ↦ rw later (lowest_is_first s g.high gs up.2)
    ]

-- what stands below or above a range stays
uncut_above : (taken : Range) (floor : ℕ) (gs : List Range) → taken.low ≤ taken.high → taken.high ≤ floor
    → Ascends own floor gs → flat_map (cut taken) gs ≡ gs
uncut_above taken floor [] le apart up = refl
uncut_above taken floor (g ∷ gs) le apart up =
    let from = up.0 in
    let full = up.1 in
    let below : nat_lt g.low (min g.high taken.low) ≡ false = grind (arith, nat_tests) in
    let low : max g.low taken.high ≡ g.low = omega arith in
    rw (below, low, lt-ltb g.low g.high full) (ap (λ ys. g ∷ ys) (uncut_above taken g.high gs le (omega arith) up.2))

uncut_below : (taken g : Range) → taken.low ≤ taken.high → g.low < g.high → g.high ≤ taken.low → cut taken g ≡ g ∷ []
uncut_below taken g le full apart =
    let above : nat_lt (max g.low taken.high) g.high ≡ false = grind (arith, nat_tests) in
    let high : min g.high taken.low ≡ g.high = omega arith in
    rw (above, high, lt-ltb g.low g.high full) refl

pub first_above : (s : SectionSize) (floor base : ℕ) (gs : List Range) → Ascends own floor gs
    → first_start s gs ≡ Some base → floor ≤ base
first_above s floor base [] up at = absurd cc
first_above s floor base (g ∷ gs) up at =
    let from = up.0 in
    let full = up.1 in
    let low = starts_above s g in
    elim (cases_Bool (fits s g)) [
      | inl here ↦ let e : start_in s g ≡ base = same_Some (start_in s g) base (rw here at at) in omega arith
      | inr later ↦ let rest = first_above s g.high base gs up.2 (rw later at at) in omega arith
    ]

taken_first : (s : SectionSize) (floor base : ℕ) (gs : List Range) → 0 < s.size → Ascends own floor gs
    → first_start s gs ≡ Some base
    → flat_map (cut (extent s base)) gs ≡ after_first s gs
taken_first s floor base [] more up at = refl
taken_first s floor base (g ∷ gs) more up at =
    let full = up.1 in
    elim (cases_Bool (fits s g)) [
      | inl here ↦
          let e : start_in s g ≡ base = same_Some (start_in s g) base (rw here at at) in
          let low = starts_above s g in
          let end = ends_within s g here in
          let lower : min g.high base ≡ start_in s g = omega arith in
          let upper : max g.low (base + s.size) ≡ start_in s g + s.size = omega arith in
          rw (
            here,
            lt-ltb 0 s.size more,
            lower,
            upper,
            uncut_above (extent s base) g.high gs (omega arith)
                (omega arith) up.2,
          ) refl
      | inr later ↦
          let rest : first_start s gs ≡ Some base = rw later at at in
          let above = first_above s g.high base gs up.2 rest in
          rw (later, uncut_below (extent s base) g (omega arith) full above)
          (ap (λ ys. g ∷ ys) (taken_first s g.high base gs more up.2 rest))
    ]

pub without_is_after : (s : SectionSize) (base : ℕ) (gs : List Range) → Ascends own 0 gs → first_start s gs ≡ Some base
    → without gs (extent s base) ≡ after_first s gs
without_is_after s base gs up at =
    elim (cases_Bool (nat_lt 0 s.size)) [
      | inl more ↦
          let some : 0 < s.size = grind (arith, nat_tests) in
          let takes : nat_lt base (base + s.size) ≡ true = grind (arith, nat_tests) in
          rw takes (taken_first s 0 base gs some up at)
      | inr none ↦
          let empty : s.size ≤ 0 = grind (arith, nat_tests) in
          let takes : nat_lt base (base + s.size) ≡ false = grind (arith, nat_tests) in
          rw takes (sym (left_where_empty s gs empty))
    ]

-- and what is left ascends
from_lower : (a b : ℕ) (gs : List Range) → a ≤ b → Ascends own b gs → Ascends own a gs
from_lower a b [] le up = tt
from_lower a b (g ∷ gs) le up = let from = up.0 in (omega arith, up.1, up.2)

with_one : (floor low high : ℕ) (gs : List Range) → floor ≤ low → floor ≤ high → Ascends own high gs
    → Ascends own floor (unless_empty (from_to low high) ++ gs)
with_one floor low high gs from le up =
    elim (cases_Bool (nat_lt low high)) [
      | inl some ↦ let full : low < high = grind (arith, nat_tests) in rw some (from, full, up)
      | inr none ↦ rw none (from_lower floor high gs le up)
    ]

pub after_ascends : (s : SectionSize) (floor : ℕ) (gs : List Range) → Ascends own floor gs
    → Ascends own floor (after_first s gs)
after_ascends s floor [] up = tt
after_ascends s floor (g ∷ gs) up =
    let from = up.0 in
    let full = up.1 in
    let low = starts_above s g in
    elim (cases_Bool (fits s g)) [
      | inl here ↦
          let end = ends_within s g here in
          elim (cases_Bool (nat_lt 0 s.size)) [
            | inl more ↦
                let upper = with_one (start_in s g) (start_in s g + s.size) g.high gs (omega arith)
                (omega arith) up.2 in
                rw (here, more) (rw append_assoc
                (with_one floor g.low (start_in s g) (unless_empty (from_to (start_in s g + s.size) g.high) ++ gs)
                (omega arith) (omega arith) upper))
            | inr none ↦ rw (here, none) up
          ]
      | inr later ↦ rw later (from, full, after_ascends s g.high gs up.2)
    ]
