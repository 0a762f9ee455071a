-- What is left of free ranges that ascend ascends, and lies in them and in none of the taken ones.
use Rattle.std.proofs.Common.{◌≡◌, ℕ, ◌<◌, ◌≤◌, min, max, false, List, [], ◌∷◌, ◌++◌, map, All, refl, arith, inl, inr}
use Rattle.std.proofs.Common.{append_assoc, nat_lt, flat_map, fold}
use Rattle.std.proofs.lemmas.Bool.{ltb-true, ltb-false, cases_Bool, or_from}
use Rattle.std.proofs.lemmas.Bool.Decides.{nat_tests}
use Rattle.std.proofs.lemmas.List.Elements.{All-nil, All-cons, All-head, All-tail, All-append}
use Rattle.ks_base.specs.declared.places.Range.{Range}
use Rattle.image_memory.specs.Ranges.{Ascends, meets, MeetsNone, from_to}
use Rattle.link_post.specs.Places.{cut, without}
use Rattle.link_post.proofs.CutLaws.{part}

abbrev own : Range → Range
own r = r

-- ---- order
from_lower : (a b : ℕ) (gs : List Range) → a ≤ b → Ascends own b gs → Ascends own a gs
from_lower a b [] le up = tt
from_lower a b (g ∷ gs) le up = let from = up.0 in (omega arith, up.1, up.2)

with_part : (floor low high end : ℕ) (gs : List Range) → floor ≤ low → high ≤ end → floor ≤ end
    → Ascends own end gs → Ascends own floor (part low high ++ gs)
with_part floor low high end gs from le more up = elim (cases_Bool (nat_lt low high)) [
  | inl some ↦ rw some (from, ltb-true low high some, from_lower high end gs le up)
  | inr none ↦ rw none (from_lower floor end gs more up)
]

cut_ascends : (t : Range) (floor : ℕ) (free : List Range) → t.low < t.high → Ascends own floor free
    → Ascends own floor (flat_map (cut t) free)
cut_ascends t floor [] full up = tt
cut_ascends t floor (g ∷ free) full up =
    let from = up.0 in
    let wide = up.1 in
    let end = max floor (min g.high t.low) in
    let upper = part (max g.low t.high) g.high ++ flat_map (cut t) free in
    let rest : Ascends own end upper =
    with_part end (max g.low t.high) g.high g.high (flat_map (cut t) free) (omega arith) (omega arith) (omega arith)
    (cut_ascends t g.high free full up.2) in
    rw append_assoc (with_part floor g.low (min g.high t.low) end upper from (omega arith) (omega arith) rest)

without_ascends : (free : List Range) (t : Range) → Ascends own 0 free → Ascends own 0 (without free t)
without_ascends free t up = elim (cases_Bool (nat_lt t.low t.high)) [
  | inl full ↦ rw full (cut_ascends t 0 free (ltb-true t.low t.high full) up)
  | inr none ↦ rw none up
]

pub all_ascend : (free ts : List Range) → Ascends own 0 free → Ascends own 0 (fold without free ts)
all_ascend free [] up = up
all_ascend free (t ∷ ts) up = all_ascend (without free t) ts (without_ascends free t up)

-- ---- what holds of a range and of each part of it
pub each_part : (P : Range → Type 0) (low high : ℕ) → P (from_to low high) → All P (part low high)
each_part P low high here = elim (cases_Bool (nat_lt low high)) [
  | inl some ↦ rw some (All-cons P (from_to low high) [] here (All-nil P))
  | inr none ↦ rw none (All-nil P)
]

pub each_cut : (P Q : Range → Type 0) (t : Range)
    → ((g : Range) → P g → Q (from_to g.low (min g.high t.low)))
    → ((g : Range) → P g → Q (from_to (max g.low t.high) g.high))
    → (free : List Range) → All P free → All Q (flat_map (cut t) free)
each_cut P Q t lower upper [] all = All-nil Q
each_cut P Q t lower upper (g ∷ free) all =
    let here = All-head P g free all in
    let below = each_part Q g.low (min g.high t.low) (lower g here) in
    let above = each_part Q (max g.low t.high) g.high (upper g here) in
    All-append Q (cut t g) (flat_map (cut t) free)
    (All-append Q (part g.low (min g.high t.low)) (part (max g.low t.high) g.high) below above)
    (each_cut P Q t lower upper free (All-tail P g free all))

-- what each part of a range has that has it is there when a range was taken, and when all were
each_stays : (P : Range → Type 0) → ((g t : Range) → P g → P (from_to g.low (min g.high t.low)))
    → ((g t : Range) → P g → P (from_to (max g.low t.high) g.high))
    → (free : List Range) (t : Range) → All P free → All P (without free t)
each_stays P lower upper free t all = elim (cases_Bool (nat_lt t.low t.high)) [
  | inl full ↦ rw full (each_cut P P t (λ g h. lower g t h) (λ g h. upper g t h) free all)
  | inr none ↦ rw none all
]

all_stay : (P : Range → Type 0) → ((g t : Range) → P g → P (from_to g.low (min g.high t.low)))
    → ((g t : Range) → P g → P (from_to (max g.low t.high) g.high))
    → (free ts : List Range) → All P free → All P (fold without free ts)
all_stay P lower upper free [] all = all
all_stay P lower upper free (t ∷ ts) all =
    all_stay P lower upper (without free t) ts (each_stays P lower upper free t all)

pub all_below : (limit : ℕ) (free ts : List Range) → All (λ g. g.high ≤ limit) free
    → All (λ g. g.high ≤ limit) (fold without free ts)
all_below limit free ts all = all_stay (λ g. g.high ≤ limit) (λ g t h. omega arith) (λ g t h. h) free ts all

-- ---- what was taken
lower_part : (g t s : Range) → meets g s ≡ false → meets (from_to g.low (min g.high t.low)) s ≡ false
lower_part g t s apart = grind (arith, nat_tests)

upper_part : (g t s : Range) → meets g s ≡ false → meets (from_to (max g.low t.high) g.high) s ≡ false
upper_part g t s apart = grind (arith, nat_tests)

below_taken : (g t : Range) → meets (from_to g.low (min g.high t.low)) t ≡ false
below_taken g t = grind (arith, nat_tests)

above_taken : (g t : Range) → meets (from_to (max g.low t.high) g.high) t ≡ false
above_taken g t = grind (arith, nat_tests)

empty_apart : (g t : Range) → t.high ≤ t.low → meets g t ≡ false
empty_apart g t none = grind (arith, nat_tests)

each_is : (free : List Range) → All (λ g. g ≡ g) free
each_is free k d l = refl

taken_apart : (free : List Range) (t : Range) → All (λ g. meets g t ≡ false) (without free t)
taken_apart free t = elim (cases_Bool (nat_lt t.low t.high)) [
  | inl full ↦ rw full
      (each_cut (λ g. g ≡ g) (λ g. meets g t ≡ false) t (λ g h. below_taken g t) (λ g h. above_taken g t) free
      (each_is free))
  | inr none ↦ rw none (λ k d l. empty_apart _ t (ltb-false t.low t.high none))
]

pub meets_none : {X : Type 0} (range : X → Range) (free : List Range) (xs : List X)
    → All (λ gap. MeetsNone range gap xs) (fold without free (map range xs))
meets_none range free [] k d l = refl
meets_none range free (x ∷ xs) k d l =
    let here = range x in
    let left = without free here in
    let first =
    all_stay (λ g. meets g here ≡ false) (λ g t h. lower_part g t here h) (λ g t h. upper_part g t here h) left
    (map range xs) (taken_apart free here) in
    or_from _ _ (first k d l) (meets_none range left xs k d l)
