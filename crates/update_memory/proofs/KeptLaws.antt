-- What is left of things when those are taken away that don't pass a test.
use Rattle.std.proofs.Common.{◌≡◌, ℕ, zero, suc, ◌<◌, ◌≤◌, Bool, true, false, cond, ◌&&◌, nat_lt, List, []}
use Rattle.std.proofs.Common.{◌∷◌, map, length, get_or, Some, refl, ap, ◌∙◌, arith}
use Rattle.std.specs.List.{filter, find, All, Any}
use Rattle.std.proofs.lemmas.List.Elements.{All-head, All-tail}
use Rattle.ks_base.specs.declared.places.Range.{Range}
use Rattle.image_memory.specs.Ranges.{lies_in, put_in, Ascends}
use Rattle.image_memory.specs.laws.RangeLaws.{inside, above, each_above, found}

-- things that pass, after each was changed to one that passes alike, or to what it is seen by
pub filter_map : {X Y : Type 0} (keep : Y → Bool) (f : X → Y) (xs : List X)
    → filter keep (map f xs) ≡ map f (filter (λ x. keep (f x)) xs)
filter_map keep f [] = refl
filter_map {X} {Y} keep f (x ∷ xs) = by_keep (keep (f x)) (filter_map keep f xs)
  where
    by_keep : (b : Bool) → filter keep (map f xs) ≡ map f (filter (λ y. keep (f y)) xs)
        → cond b (f x ∷ filter keep (map f xs)) (filter keep (map f xs))
        ≡ map f (cond b (x ∷ filter (λ y. keep (f y)) xs) (filter (λ y. keep (f y)) xs))
    by_keep true rest = ap (λ (ys : List Y). f x ∷ ys) rest
    by_keep false rest = rest

-- one test after another
pub filter_twice : {X : Type 0} (keep then : X → Bool) (xs : List X)
    → filter then (filter keep xs) ≡ filter (λ x. keep x && then x) xs
filter_twice keep then [] = refl
filter_twice {X} keep then (x ∷ xs) = by_keep (keep x) (then x) refl (filter_twice keep then xs)
  where
    by_keep : (b c : Bool) → then x ≡ c → filter then (filter keep xs) ≡ filter (λ y. keep y && then y) xs
        → filter then (cond b (x ∷ filter keep xs) (filter keep xs))
        ≡ cond (b && c) (x ∷ filter (λ y. keep y && then y) xs) (filter (λ y. keep y && then y) xs)
    by_keep true true is rest = rw is (ap (λ (ys : List X). x ∷ ys) rest)
    by_keep true false is rest = rw is rest
    by_keep false c is rest = rest

-- things that all pass
pub filter_all : {X : Type 0} (keep : X → Bool) (xs : List X) → All (λ x. keep x ≡ true) xs → filter keep xs ≡ xs
filter_all keep [] all = refl
filter_all {X} keep (x ∷ xs) all =
    let here : keep x ≡ true = All-head (λ y. keep y ≡ true) x xs all in
    rw here (ap (λ (ys : List X). x ∷ ys) (filter_all keep xs (All-tail (λ y. keep y ≡ true) x xs all)))

-- what is there and passes is left
pub any_left : {X : Type 0} (keep : X → Bool) (P : X → Type 0) (xs : List X) (k : ℕ) (x : X) → k < length xs
    → get_or xs k x ≡ x → P x → keep x ≡ true → Any P (filter keep xs)
any_left keep P [] k x l is here passes = absurd (omega arith)
any_left keep P (y ∷ ys) zero x l is here passes =
    let e : keep y ≡ true = ap keep is ∙ passes in
    rw e (0, x, omega arith, is, here)
any_left keep P (y ∷ ys) (suc k) x l is here passes =
    by_keep (keep y) (any_left keep P ys k x (omega arith) is here passes)
  where
    by_keep : (b : Bool) → Any P (filter keep ys) → Any P (cond b (y ∷ filter keep ys) (filter keep ys))
    by_keep true at = let l = at.2 in (suc at.0, at.1, omega arith, at.3, at.4)
    by_keep false at = at

module _ {X : Type 0} (range : X → Range) where
  -- what doesn't pass is put among things, and taken away again
  pub filter_put : (keep : X → Bool) (x : X) (xs : List X) → keep x ≡ false
      → filter keep (put_in range x xs) ≡ filter keep xs
  filter_put keep x [] fails = rw fails refl
  filter_put keep x (y ∷ ys) fails =
      by_order (nat_lt (range x).low (range y).low) (filter_put keep x ys fails)
    where
      by_keep : (b : Bool) → filter keep (put_in range x ys) ≡ filter keep ys
          → cond b (y ∷ filter keep (put_in range x ys)) (filter keep (put_in range x ys))
          ≡ cond b (y ∷ filter keep ys) (filter keep ys)
      by_keep true rest = ap (λ (zs : List X). y ∷ zs) rest
      by_keep false rest = rest

      by_order : (b : Bool) → filter keep (put_in range x ys) ≡ filter keep ys
          → filter keep (cond b (x ∷ y ∷ ys) (y ∷ put_in range x ys)) ≡ filter keep (y ∷ ys)
      by_order true rest = rw fails refl
      by_order false rest = by_keep (keep y) rest

  -- what holds an address and is left held it before
  pub found_left : (keep : X → Bool) (floor : ℕ) (xs : List X) (a : ℕ) (y : X) → Ascends range floor xs
      → find (λ x. lies_in a (range x)) (filter keep xs) ≡ Some y → find (λ x. lies_in a (range x)) xs ≡ Some y
  found_left keep floor [] a y up is = is
  found_left keep floor (x ∷ xs) a y up is =
      by_keep (keep x) (lies_in a (range x)) refl (found_left keep (range x).high xs a y up.2) is
    where
      later : find (λ z. lies_in a (range z)) xs ≡ Some y → lies_in a (range x) ≡ false
      later at =
          let one = found (λ z. lies_in a (range z)) xs y at in
          let there = inside a (range y) one.passes in
          let high : (range x).high ≤ (range y).low =
          rw (one.at y) at ((each_above range (range x).high xs one.index y up.2 one.in_list).0) in
          let low = there.0 in
          above a (range x) (omega arith)

      by_keep : (b c : Bool) → lies_in a (range x) ≡ c
          → (find (λ z. lies_in a (range z)) (filter keep xs) ≡ Some y → find (λ z. lies_in a (range z)) xs ≡ Some y)
          → find (λ z. lies_in a (range z)) (cond b (x ∷ filter keep xs) (filter keep xs)) ≡ Some y
          → cond c (Some x) (find (λ z. lies_in a (range z)) xs) ≡ Some y
      by_keep true true here rest at = rw here at at
      by_keep true false here rest at = rest (rw here at at)
      by_keep false true here rest at = absurd (let no = later (rest at) in cc)
      by_keep false false here rest at = rest at
