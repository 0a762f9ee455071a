-- Live updates, and what is kept of them, by their places.
use Rattle.std.proofs.Common.{◌≡◌, ℕ, zero, suc, ◌+◌, ◌-◌, ◌≤◌, ◌<◌, List, [], ◌∷◌, ◌++◌, length, take, drop, slice_get}
use Rattle.std.proofs.Common.{length-append, get_or}
use Rattle.std.specs.List.{last_or}
use Rattle.std.proofs.lemmas.List.{length-drop}
use Rattle.std.proofs.Common.{Option, Some, None, refl, sym, ◌∙◌, ap, arith}
use Rattle.std.proofs.lemmas.Option.{slice_get_within}
use Rattle.update_stack.specs.declared.updates.Update.{Update as Shown}
use Rattle.update_stack.specs.declared.updates.Kept.{Kept}
use Rattle.update_stack.specs.Systems.{live_update, live_updates}
use Rattle.update_stack.specs.inside.TakingBack.{AtUpdate}

pub length_live : (updates : List Shown) (kept : List Kept) → length kept ≡ length updates
    → length (live_updates updates kept) ≡ length updates
length_live [] kept paired = refl
length_live (update ∷ updates) [] paired = absurd (omega arith)
length_live (update ∷ updates) (one ∷ kept) paired =
    let rest = length_live updates kept (omega arith) in
    omega (arith, rest)

-- the live update at a place
pub live_at : (updates : List Shown) (kept : List Kept) (i : ℕ) (update : Shown) (one : Kept)
    → slice_get updates i ≡ Some update → slice_get kept i ≡ Some one
    → slice_get (live_updates updates kept) i ≡ Some (live_update update one)
live_at [] kept i update one here there = absurd (cc)
live_at (shown ∷ updates) [] i update one here there = absurd (cc)
live_at (shown ∷ updates) (first ∷ kept) zero update one here there =
    let same : shown ≡ update = cc in
    let is : first ≡ one = cc in
    ap (λ (u : Shown). Some (live_update u first)) same ∙ ap (λ (o : Kept). Some (live_update update o)) is
live_at (shown ∷ updates) (first ∷ kept) (suc i) update one here there = live_at updates kept i update one here there

-- a list by what stands at a place
parted_at : {X : Type 0} (xs : List X) (i : ℕ) (x : X) → slice_get xs i ≡ Some x → xs ≡ take i xs ++ x ∷ drop (suc i) xs
parted_at [] i x is = absurd (cc)
parted_at {X} (y ∷ ys) zero x is =
    let same : y ≡ x = cc in
    ap (λ (z : X). z ∷ ys) same
parted_at {X} (y ∷ ys) (suc i) x is = ap (λ (zs : List X). y ∷ zs) (parted_at ys i x is)

pub parts_at : {X : Type 0} (xs : List X) (i : ℕ) (x : X) → slice_get xs i ≡ Some x
    → xs ≡ take i xs ++ x ∷ drop (i + 1) xs
parts_at xs i x is =
    let next : suc i ≡ i + 1 = omega arith in
    parted_at xs i x is ∙ ap (λ (n : ℕ). take i xs ++ x ∷ drop n xs) next

pub length_front : {X : Type 0} (xs : List X) (i : ℕ) → i ≤ length xs → length (take i xs) ≡ i
length_front [] zero short = refl
length_front [] (suc i) short = absurd (omega arith)
length_front (x ∷ xs) zero short = refl
length_front (x ∷ xs) (suc i) short =
    let rest = length_front xs i (omega arith) in
    omega (arith, rest)

pub both_short : (updates : List Shown) (kept : List Kept) (i : ℕ) (update : Shown) (one : Kept)
    → slice_get updates i ≡ Some update → slice_get kept i ≡ Some one → length (take i kept) ≡ length (take i updates)
both_short updates kept i update one here there =
    let some = slice_get_within updates i update here in
    let other = slice_get_within kept i one there in
    let a = length_front kept i (omega (arith, other)) in
    let b = length_front updates i (omega (arith, some)) in
    a ∙ sym b

abbrev pub at_of : (updates : List Shown) (kept : List Kept) (i : ℕ) (update : Shown) (one : Kept)
    → slice_get updates i ≡ Some update → slice_get kept i ≡ Some one → AtUpdate updates kept
at_of updates kept i update one here there =
    record {
      earlier = take i updates;
      update = update;
      later = drop (i + 1) updates;
      kept_earlier = take i kept;
      one = one;
      kept_later = drop (i + 1) kept;
      updates_are = parts_at updates i update here;
      kept_are = parts_at kept i one there;
      beside = both_short updates kept i update one here there;
    }

-- what stands behind the place once its item is gone
pub behind_gone : {X : Type 0} (xs : List X) (i : ℕ) → i ≤ length xs → (rest : List X)
    → drop i (take i xs ++ rest) ≡ rest
behind_gone [] zero short rest = refl
behind_gone [] (suc i) short rest = absurd (omega arith)
behind_gone (x ∷ xs) zero short rest = refl
behind_gone (x ∷ xs) (suc i) short rest = behind_gone xs i (omega arith) rest

-- what is behind a place, by the end of the list
whole : {X : Type 0} (xs : List X) → take (length xs) xs ≡ xs
whole [] = refl
whole {X} (x ∷ xs) = ap (λ (ys : List X). x ∷ ys) (whole xs)

pub rest_behind : {X : Type 0} (xs : List X) (i : ℕ) → i ≤ length xs → (rest : List X)
    → take (length (take i xs ++ rest) - i) (drop i (take i xs ++ rest)) ≡ rest
rest_behind {X} xs i short rest =
    let front = length_front xs i short in
    let long : length (take i xs ++ rest) - i ≡ length rest = omega (arith, front, length-append (take i xs) rest) in
    ap (λ (n : ℕ). take n (drop i (take i xs ++ rest))) long
    ∙ ap (take (length rest)) (behind_gone xs i short rest)
    ∙ whole rest

pub longer_than : {X : Type 0} (xs : List X) (i : ℕ) → i ≤ length xs → (rest : List X)
    → i ≤ length (take i xs ++ rest)
longer_than xs i short rest =
    let front = length_front xs i short in
    omega (arith, front, length-append (take i xs) rest)

pub within : {X : Type 0} (xs : List X) (i : ℕ) (x : X) → slice_get xs i ≡ Some x → i ≤ length xs
within xs i x is =
    let some = slice_get_within xs i x is in
    omega (arith, some)

pub one_item : {X : Type 0} (o : Option X) (x y : X) → o ≡ Some x → o ≡ Some y → x ≡ y
one_item o x y is also = cc

-- what stands at a place is found there
pub got_at : {X : Type 0} (xs : List X) (i : ℕ) (x : X) → i < length xs → x ≡ get_or xs i x → slice_get xs i ≡ Some x
got_at [] i x less is = absurd (omega arith)
got_at (y ∷ ys) zero x less is = ap Some (sym is)
got_at (y ∷ ys) (suc i) x less is = got_at ys i x (omega arith) is

-- a part of a list up to its end
pub to_the_end : {X : Type 0} (xs : List X) (n : ℕ) → n ≤ length xs → take (length xs - n) (drop n xs) ≡ drop n xs
to_the_end {X} xs n short =
    let long : length xs - n ≡ length (drop n xs) = omega (arith, length-drop n xs) in
    ap (λ (m : ℕ). take m (drop n xs)) long ∙ whole (drop n xs)

-- the last item
pub no_last : {X : Type 0} (xs : List X) → length xs ≡ 0 → last_or None xs ≡ None
no_last [] none = refl
no_last (x ∷ xs) none = absurd (omega arith)
