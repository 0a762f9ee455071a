-- Points of a section by their addresses.
use Rattle.std.proofs.Common.{◌≡◌, ℕ, zero, suc, ◌+◌, ◌<◌, ◌≤◌, Bool, true, false, not, ◌&&◌, cond}
use Rattle.std.proofs.Common.{ltb, List, [], ◌∷◌, length, take, drop, get_or, Option, Some, None}
use Rattle.std.proofs.Common.{Result, Ok, Err, refl, sym, ◌∙◌, ap, subst, inl, inr, zero-add, arith}
use Rattle.std.specs.List.{AllWithin, filter, range_with_len, slice_get}
use Rattle.std.specs.List.Sorted.{IsPartitionPoint, IsSortedBy}
use Rattle.std.specs.Option.{unwrap_or}
use Rattle.std.specs.Result.{IfOk, OnOk}
use Rattle.std.proofs.lemmas.Result.{IfOk-weaker}
use Rattle.std.proofs.lemmas.Bool.{cases_lt, false≢true, ltb-false, lt-ltb, le-ltb}
use Rattle.std.proofs.lemmas.List.FromFn.{length-range_with_len, get_or-range_with_len}
use Rattle.std.proofs.lemmas.List.Elements.{filter_agree}
use Rattle.std.proofs.lemmas.List.Kept.{IsSortedBy-filter}
use Rattle.std.proofs.lemmas.List.MinMax.{IsStrictWeakOrder-by_number}
use Rattle.std.proofs.lemmas.List.Sorted.{sorted_far}
use Rattle.std.proofs.lemmas.Option.{slice_get-get_or, unwrap_or-slice_get}
use Rattle.run_pre_match.specs.Candidate.{Body}
use Rattle.symbol_solve.specs.declared.numbers.Point.{Point}
use Rattle.symbol_solve.specs.inside.Numbers.{is_at, stands, standing, AreListed}
use Rattle.symbol_solve.specs.inside.Points.{AreInOrder, Ascend, LiesIn, address_in}
use Rattle.symbol_solve.specs.inside.Points.{address_at, is_before, points_between}

-- ---- what passes a test stands before what doesn't
module _ {X : Type 0} (p : X → Bool) where
  none_pass : (xs : List X) → AllWithin (λ x. p x ≡ false) xs 0 (length xs) → filter p xs ≡ []
  none_pass [] each = refl
  none_pass (x ∷ xs) each =
      ap (λ b. cond b (x ∷ filter p xs) (filter p xs)) (each 0 x (omega arith) (omega arith))
      ∙ none_pass xs (λ k d low lt. each (suc k) d (omega arith) (omega arith))

  all_pass : (xs : List X) → AllWithin (λ x. p x ≡ false) xs 0 (length xs) → filter (λ x. not (p x)) xs ≡ xs
  all_pass [] each = refl
  all_pass (x ∷ xs) each =
      ap (λ b. cond (not b) (x ∷ filter (λ y. not (p y)) xs) (filter (λ y. not (p y)) xs))
      (each 0 x (omega arith) (omega arith))
      ∙ ap (λ l. x ∷ l) (all_pass xs (λ k d low lt. each (suc k) d (omega arith) (omega arith)))

  abbrev Splits : List X → ℕ → Type 0
  Splits xs i = IsPartitionPoint (λ x. p x ≡ true) (λ x. p x ≡ false) xs i

  later : (x : X) (xs : List X) (i : ℕ) → Splits (x ∷ xs) (suc i) → Splits xs i
  later x xs i split = (
    λ k d low lt. split.0 (suc k) d (omega arith) (omega arith),
    λ k d low lt. split.1 (suc k) d (omega arith) (omega arith),
  )

  pub kept_before : (xs : List X) (i : ℕ) → Splits xs i → filter p xs ≡ take i xs
  kept_before [] zero split = refl
  kept_before [] (suc i) split = refl
  kept_before (x ∷ xs) zero split = none_pass (x ∷ xs) split.1
  kept_before (x ∷ xs) (suc i) split =
      ap (λ b. cond b (x ∷ filter p xs) (filter p xs)) (split.0 0 x (omega arith) (omega arith))
      ∙ ap (λ l. x ∷ l) (kept_before xs i (later x xs i split))

  pub kept_from : (xs : List X) (i : ℕ) → Splits xs i → filter (λ x. not (p x)) xs ≡ drop i xs
  kept_from [] zero split = refl
  kept_from [] (suc i) split = refl
  kept_from (x ∷ xs) zero split = all_pass (x ∷ xs) split.1
  kept_from (x ∷ xs) (suc i) split =
      ap (λ b. cond (not b) (x ∷ filter (λ y. not (p y)) xs) (filter (λ y. not (p y)) xs))
      (split.0 0 x (omega arith) (omega arith))
      ∙ kept_from xs i (later x xs i split)

-- ---- the points of a section ascend
module _ (points : List Point) where
  Less : ℕ → ℕ → Bool
  Less x y = ltb (address_at points x) (address_at points y)

  here : (k : ℕ) (d : Point) → k < length points → address_at points k ≡ (get_or points k d).address
  here k d within = ap address_in (slice_get-get_or points k d within)

  range_rises : AreInOrder points
      → IsSortedBy (λ x y. ltb (address_at points x) (address_at points y)) (range_with_len 0 (length points))
  range_rises order k d low lt =
      let within : k + 1 < length points = subst (λ m. k + 1 < m) (length-range_with_len 0 (length points)) lt in
      let one : get_or (range_with_len 0 (length points)) k d ≡ k =
      get_or-range_with_len 0 (length points) k d (omega arith) ∙ zero-add k in
      let two : get_or (range_with_len 0 (length points)) (k + 1) d ≡ k + 1 =
      get_or-range_with_len 0 (length points) (k + 1) d within ∙ zero-add (k + 1) in
      let e : Point = record { place = 0; offset = 0; address = 0 } in
      let rise : (get_or points k e).address ≤ (get_or points (k + 1) e).address =
      order k (k + 1) e (omega arith) within in
      let a : address_at points k ≡ (get_or points k e).address = here k e (omega arith) in
      let b : address_at points (k + 1) ≡ (get_or points (k + 1) e).address = here (k + 1) e within in
      (λ i. ltb (address_at points (two i)) (address_at points (one i)))
      ∙ le-ltb (address_at points (k + 1)) (address_at points k) (omega (arith, rise, a, b))

  ascend_by : (test : ℕ → Bool) → AreInOrder points → Ascend points (filter test (range_with_len 0 (length points)))
  ascend_by test order i j d less within =
      let lt : ℕ → ℕ → Bool = λ x y. ltb (address_at points x) (address_at points y) in
      let own : List ℕ = filter test (range_with_len 0 (length points)) in
      let law = IsStrictWeakOrder-by_number (address_at points) in
      ltb-false (address_at points (get_or own j d)) (address_at points (get_or own i d))
      (sorted_far lt law own
      (IsSortedBy-filter lt law test (range_with_len 0 (length points)) (range_rises order)) i j d less within)

  none_ascend : Ascend points []
  none_ascend i j d less within = absurd (omega (arith, within))

  -- those of a section in a table
  pub own_ascend : (table : List (List ℕ)) (place : ℕ) → AreInOrder points
      → AreListed points (length points) table → Ascend points (unwrap_or (slice_get table place) [])
  own_ascend table place order lists =
      subst (Ascend points) (sym (unwrap_or-slice_get table place []))
      (elim (cases_lt place (length table)) [
        | inl below ↦ subst
            (Ascend points) (sym (lists place [] below)) (ascend_by (λ n. is_at place (slice_get points n)) order)
        | inr past ↦ subst (Ascend points) (sym (past_end table place past)) none_ascend
      ])
    where
      past_end : (l : List (List ℕ)) (k : ℕ) → length l ≤ k → get_or l k [] ≡ []
      past_end [] k past = refl
      past_end (x ∷ xs) zero past = absurd (omega arith)
      past_end (x ∷ xs) (suc k) past = past_end xs k (omega arith)

-- ---- where a body lies
filter_twice : {X : Type 0} (p q : X → Bool) (xs : List X) → filter p (filter q xs) ≡ filter (λ x. q x && p x) xs
filter_twice p q [] = refl
filter_twice p q (x ∷ xs) =
    elim (q x) as (λ b. filter p (cond b (x ∷ filter q xs) (filter q xs))
    ≡ cond (b && p x) (x ∷ filter (λ y. q y && p y) xs) (filter (λ y. q y && p y) xs)) [
      | true ↦ ap (λ l. cond (p x) (x ∷ l) l) (filter_twice p q xs)
      | false ↦ filter_twice p q xs
    ]

implied : (a b : Bool) → (b ≡ true → a ≡ true) → (a && b) ≡ b
implied true b h = refl
implied false true h = h refl
implied false false h = refl

module _ (points : List Point) (body : Body) (low high : ℕ) (lies : LiesIn body low high) where
  point_lies : (o : Option Point) → stands body o ≡ true → (low ≤ address_in o) × (address_in o < high)
  point_lies None h = absurd (false≢true h)
  point_lies (Some p) h = lies p.offset p.address h

  not_below : (a : ℕ) → low ≤ a → not (ltb a low) ≡ true
  not_below a le = ap not (le-ltb a low le)

  -- those that stand in a body lie where it lies
  pub standing_between : (own : List ℕ)
      → standing points body (points_between points low high own) ≡ standing points body own
  standing_between own =
      let test : ℕ → Bool = λ n. stands body (slice_get points n) in
      let before : ℕ → Bool = is_before points high in
      let above : ℕ → Bool = λ n. not (is_before points low n) in
      filter_twice test before (filter above own)
      ∙ filter_agree _ _ (λ n. implied (before n)
      (test n) (λ h. lt-ltb (address_at points n) high (point_lies (slice_get points n) h).1)) (filter above own)
      ∙ filter_twice test above own
      ∙ filter_agree _ _ (λ n.
      implied (above n) (test n) (λ h. not_below (address_at points n) (point_lies (slice_get points n) h).0)) own

  nil_of : (xs : List ℕ) → length xs ≡ 0 → xs ≡ []
  nil_of [] none = refl
  nil_of (x ∷ xs) none = absurd cc

  -- what is met where there are none, and where there are some
  pub none_met : (own between new : List ℕ)
      → between ≡ points_between points low high own → length between ≡ 0 → new ≡ [] → new ≡ standing points body own
  none_met own between new is none new_is =
      new_is ∙ ap (standing points body) (sym (nil_of between none) ∙ is) ∙ standing_between own

  pub some_met : {E : Type 0} (own between : List ℕ) (asked : Body) (r : Result (List ℕ) E)
      → between ≡ points_between points low high own → asked ≡ body
      → IfOk r (λ list. list ≡ standing points asked between) → IfOk r (λ list. list ≡ standing points body own)
  some_met own between asked r is same told =
      IfOk-weaker r (λ list. list ≡ standing points asked between) (λ list. list ≡ standing points body own)
      (λ list told_is. told_is ∙ (λ i. standing points (same i) (is i)) ∙ standing_between own) told

-- what a call that comes to Ok keeps
pub on_ok : {T E : Type 0} (r : Result T E) {P Q : Type 0} → (P → Q) → OnOk r P → OnOk r Q
on_ok (Ok x) f h = f h
on_ok (Err e) f h = tt
