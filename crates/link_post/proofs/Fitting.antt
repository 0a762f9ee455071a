-- The first range in which a section fits, by its index.
use Rattle.std.proofs.Common.{◌≡◌, ℕ, suc, zero, ◌+◌, ◌<◌, ◌≤◌, true, false, List, [], ◌∷◌, ◌++◌}
use Rattle.std.proofs.Common.{length, get_or, take, drop, Some, None, refl, sym, ap, ◌∙◌, arith}
use Rattle.std.specs.List.{position}
use Rattle.std.proofs.lemmas.List.{length-take-le}
use Rattle.std.proofs.lemmas.List.Quantifiers.{position-Some}
use Rattle.std.proofs.lemmas.List.Sums.{fails_before_first}
use Rattle.std.proofs.lemmas.Grind.{common_steps}
use Rattle.std.specs.List.{position_or_len, remove}
use Rattle.std.proofs.Math.Seq.{take-append_seam, drop-append_seam}
use Rattle.std.proofs.Common.{subst, append_assoc}
use Rattle.ks_base.specs.declared.places.Range.{Range}
use Rattle.link_post.specs.declared.types.SectionSize.{SectionSize}
use Rattle.link_post.specs.Places.{unless_empty, start_in}
use Rattle.std.proofs.lemmas.Bool.{lt-ltb, cases_Bool}
use Rattle.std.proofs.lemmas.Bool.Decides.{nat_tests}
use Rattle.std.specs.Prelude.{nat_lt}
use Rattle.std.proofs.Common.{inl, inr}
use Rattle.image_memory.specs.Ranges.{from_to}
use Rattle.link_post.specs.inside.Rooms.{fits, left_of, first_start, after_first}

pub fits_first : (s : SectionSize) (xs : List Range) (i : ℕ) (d : Range) → i < length xs → fits s (get_or xs i d) ≡ true
    → ((k : ℕ) → k < i → fits s (get_or xs k d) ≡ false)
    → (first_start s xs ≡ Some (start_in s (get_or xs i d)))
    × (after_first s xs ≡ take i xs ++ left_of s (get_or xs i d) ++ drop (suc i) xs)
fits_first s [] i d within here before = absurd (omega arith)
fits_first s (x ∷ xs) zero d within here before = (rw here refl, rw here refl)
fits_first s (x ∷ xs) (suc i) d within here before =
    let first : fits s x ≡ false = before 0 (omega arith) in
    let (start, after) = fits_first s xs i d (omega arith) here (λ k less. before (suc k) (omega arith)) in
    (rw first start, rw first (ap (λ ys. x ∷ ys) after))

pub fits_nowhere : (s : SectionSize) (xs : List Range) (d : Range)
    → ((k : ℕ) → k < length xs → fits s (get_or xs k d) ≡ false)
    → (first_start s xs ≡ None) × (after_first s xs ≡ xs)
fits_nowhere s [] d none = (refl, refl)
fits_nowhere s (x ∷ xs) d none =
    let first : fits s x ≡ false = none 0 (omega arith) in
    let (start, after) = fits_nowhere s xs d (λ k less. none (suc k) (omega arith)) in
    (rw first start, rw first (ap (λ ys. x ∷ ys) after))

none_fits : (s : SectionSize) (xs : List Range) (d : Range) → position (fits s) xs ≡ None → (k : ℕ) → k < length xs
    → fits s (get_or xs k d) ≡ false
none_fits s xs d none k within =
    let late : length xs ≤ position_or_len (fits s) xs = grind (arith, common_steps) in
    fails_before_first (fits s) xs k d (omega arith)

pub nowhere_start : (s : SectionSize) (xs : List Range) → position (fits s) xs ≡ None → None ≡ first_start s xs
nowhere_start s xs none =
    let d : Range = record { low = 0; high = 0 } in
    sym (fits_nowhere s xs d (none_fits s xs d none)).0

pub nowhere_left : (s : SectionSize) (xs : List Range) → position (fits s) xs ≡ None → xs ≡ after_first s xs
nowhere_left s xs none =
    let d : Range = record { low = 0; high = 0 } in
    sym (fits_nowhere s xs d (none_fits s xs d none)).1

-- what stands at the place
pub fits_there : (s : SectionSize) (xs : List Range) (i : ℕ) (r : Range) → position (fits s) xs ≡ Some i
    → r ≡ get_or xs i r → fits s r ≡ true
fits_there s xs i r at is = let (within, here, before) = position-Some (fits s) xs i r at in ap (fits s) is ∙ here

pub start_there : (s : SectionSize) (xs : List Range) (i : ℕ) (r : Range) → position (fits s) xs ≡ Some i
    → r ≡ get_or xs i r → first_start s xs ≡ Some (start_in s r)
start_there s xs i r at is =
    let (within, here, before) = position-Some (fits s) xs i r at in
    (fits_first s xs i r within here before).0 ∙ ap (λ r. Some (start_in s r)) (sym is)

pub left_there : (s : SectionSize) (xs : List Range) (i : ℕ) (r : Range) → position (fits s) xs ≡ Some i
    → r ≡ get_or xs i r → after_first s xs ≡ take i xs ++ left_of s r ++ drop (suc i) xs
left_there s xs i r at is =
    let (within, here, before) = position-Some (fits s) xs i r at in
    (fits_first s xs i r within here before).1 ∙ ap (λ r. take i xs ++ left_of s r ++ drop (suc i) xs) (sym is)

pub take_seam : {X : Type 0} (ps qs : List X) (i : ℕ) → length ps ≡ i → take i (ps ++ qs) ≡ ps
take_seam ps qs i e = subst (λ n. take n (ps ++ qs) ≡ ps) e (take-append_seam ps qs)

pub drop_seam : {X : Type 0} (ps qs : List X) (i : ℕ) → length ps ≡ i → drop i (ps ++ qs) ≡ qs
drop_seam ps qs i e = subst (λ n. drop n (ps ++ qs) ≡ qs) e (drop-append_seam ps qs)

-- a list put at a place of another
abbrev pub put : {X : Type 0} → List X → ℕ → List X → List X
put xs i more = take i xs ++ more ++ drop i xs

pub put_seam : {X : Type 0} (ps qs more : List X) (i : ℕ) → length ps ≡ i → put (ps ++ qs) i more ≡ ps ++ (more ++ qs)
put_seam ps qs more i e = rw (take_seam ps qs i e, drop_seam ps qs i e) (append_assoc ps more qs)

pub replaced : (xs ys zs ws low high : List Range) (i : ℕ) → i < length xs → ys ≡ remove xs i → zs ≡ put ys i high
    → ws ≡ put zs i low
    → ws ≡ take i xs ++ (low ++ high) ++ drop (suc i) xs
replaced xs ys zs ws low high i within is_y is_z is_w =
    let ps : List Range = take i xs in
    let qs : List Range = drop (suc i) xs in
    let n : length (take i xs) ≡ i = length-take-le i xs (omega arith) in
    let z : zs ≡ take i xs ++ (high ++ drop (suc i) xs) =
    is_z ∙ ap (λ l. put l i high) is_y ∙ put_seam (take i xs) (drop (suc i) xs) high i n in
    let w : ws ≡ take i xs ++ (low ++ (high ++ drop (suc i) xs)) =
    is_w ∙ ap (λ l. put l i low) z ∙ put_seam (take i xs) (high ++ drop (suc i) xs) low i n in
    w ∙ simp append_assoc

-- what is left of a range of which bytes were taken, and of ranges of which none were
pub left_where_taken : (s : SectionSize) (r : Range) (base : ℕ) → base ≡ start_in s r → 0 < s.size
    → left_of s r ≡ unless_empty (from_to r.low base) ++ unless_empty (from_to (base + s.size) r.high)
left_where_taken s r base is more =
    rw (lt-ltb 0 s.size more) (ap (λ b. unless_empty (from_to r.low b) ++ unless_empty (from_to (b + s.size) r.high))
    (sym is))

pub left_where_empty : (s : SectionSize) (xs : List Range) → s.size ≤ 0 → after_first s xs ≡ xs
left_where_empty s [] none = refl
left_where_empty s (x ∷ xs) none =
    let all : nat_lt 0 s.size ≡ false = grind (arith, nat_tests) in
    elim (cases_Bool (fits s x)) [
      | inl here ↦ rw (here, all) refl
      | inr later ↦ rw later (ap (λ ys. x ∷ ys) (left_where_empty s xs none))
    ]
