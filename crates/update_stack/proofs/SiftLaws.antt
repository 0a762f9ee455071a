-- Lists of which the items that pass a test are kept, and where an item stands in a list.
use Rattle.std.proofs.Common.{◌≡◌, ℕ, zero, suc, ◌<◌, ◌||◌, Bool, true, false, cond, List, [], ◌∷◌, ◌++◌, length}
use Rattle.std.proofs.Common.{get_or, Some, None, refl, sym, ◌∙◌, ap, arith, ◌⊎◌, inl, inr}
use Rattle.std.specs.List.{All, Any, AllPairs, Contains, filter, find, list_any}
use Rattle.std.proofs.lemmas.List.{get_or_append_left, get_or_default}
use Rattle.std.proofs.lemmas.List.Elements.{All-contains, All-filter, All-contains_itself, filter_passes, All-head}
use Rattle.std.proofs.lemmas.List.Elements.{All-tail, All-cons}
use Rattle.std.proofs.lemmas.List.Folds.{list_any_at, list_any-from_Any}
use Rattle.std.proofs.lemmas.Bool.{false≢true, false_from_ne_true, or_parts, or_from}
use Rattle.std.proofs.Math.ListN.{length-append}
use Rattle.std.proofs.Math.Seq.{get_or-append_seam}

-- what is kept was there, and passes
pub listed_before : {X : Type 0} (p : X → Bool) (xs : List X) (x : X) → Contains (filter p xs) x → Contains xs x
listed_before p xs x there =
    All-contains (Contains xs) (filter p xs) x (All-filter p (Contains xs) xs (All-contains_itself xs)) there

-- what is kept passes
pub passes_kept : {X : Type 0} (p : X → Bool) (xs : List X) (x : X) → Contains (filter p xs) x → p x ≡ true
passes_kept p xs x there = All-contains (λ y. p y ≡ true) (filter p xs) x (filter_passes p xs) there

-- and what passes is kept
pub listed_kept : {X : Type 0} (p : X → Bool) (xs : List X) (x : X) → Contains xs x → p x ≡ true
    → Contains (filter p xs) x
listed_kept p [] x (k, less, at) passes = absurd (omega arith)
listed_kept {X} p (y ∷ ys) x (zero, less, at) passes = by_test (p y) refl
  where
    here : (ys : List X) → Contains (y ∷ ys) x
    here ys = (0, omega arith, at)

    by_test : (b : Bool) → p y ≡ b → Contains (cond b (y ∷ filter p ys) (filter p ys)) x
    by_test true is = here (filter p ys)
    by_test false is = absurd (false≢true (sym is ∙ ap p at ∙ passes))
listed_kept {X} p (y ∷ ys) x (suc k, less, at) passes =
    by_test (p y) (listed_kept p ys x (k, omega arith, at) passes)
  where
    by_test : (b : Bool) → Contains (filter p ys) x → Contains (cond b (y ∷ filter p ys) (filter p ys)) x
    by_test true (k, less, at) = (suc k, omega arith, at)
    by_test false there = there

-- some item with a property
pub any_before : {X : Type 0} (p : X → Bool) (P : X → Type 0) (xs : List X) → Any P (filter p xs) → Any P xs
any_before p P xs (k, x, less, at, is) =
    let there = listed_before p xs x (k, less, at) in
    (there.0, x, there.1, there.2, is)

-- one that is listed and has it
pub any_of : {X : Type 0} (P : X → Type 0) (xs : List X) (x : X) → Contains xs x → P x → Any P xs
any_of P xs x (k, less, at) is = (k, x, less, at, is)

-- one that has it is kept, where what has it passes
pub any_kept : {X : Type 0} (p : X → Bool) (P : X → Type 0) (xs : List X) → ((x : X) → P x → p x ≡ true) → Any P xs
    → Any P (filter p xs)
any_kept p P xs passes (k, x, less, at, is) =
    any_of P (filter p xs) x (listed_kept p xs x (k, less, at) (passes x is)) is

-- what is taken of that which another test leaves
pub filter_again : {X : Type 0} (p q : X → Bool) (xs : List X) → ((x : X) → p x ≡ true → q x ≡ true)
    → filter p (filter q xs) ≡ filter p xs
filter_again p q [] passes = refl
filter_again {X} p q (x ∷ xs) passes = by_tests (p x) (q x) refl refl (filter_again p q xs passes)
  where
    by_tests : (a b : Bool) → p x ≡ a → q x ≡ b → filter p (filter q xs) ≡ filter p xs
        → filter p (cond b (x ∷ filter q xs) (filter q xs)) ≡ cond a (x ∷ filter p xs) (filter p xs)
    by_tests true true first second rest = rw first (ap (λ (ys : List X). x ∷ ys) rest)
    by_tests true false first second rest = absurd (false≢true (sym second ∙ passes x first))
    by_tests false true first second rest = rw first rest
    by_tests false false first second rest = rest

-- the first item that passes is the first of those that are kept, where it is
pub found_kept : {X : Type 0} (p q : X → Bool) (xs : List X) (x : X) → find p xs ≡ Some x → q x ≡ true
    → find p (filter q xs) ≡ Some x
found_kept p q [] x is passes = absurd (cc)
found_kept {X} p q (y ∷ ys) x is passes =
    by_tests (p y) (q y) refl refl is (λ later. found_kept p q ys x later passes)
  where
    by_tests : (a b : Bool) → p y ≡ a → q y ≡ b → cond a (Some y) (find p ys) ≡ Some x
        → (find p ys ≡ Some x → find p (filter q ys) ≡ Some x)
        → find p (cond b (y ∷ filter q ys) (filter q ys)) ≡ Some x
    by_tests true true first second is rest = rw first is
    by_tests true false first second is rest =
        let same : y ≡ x = cc in
        absurd (false≢true (sym second ∙ ap q same ∙ passes))
    by_tests false true first second is rest = rw first (rest is)
    by_tests false false first second is rest = rest is

-- nothing passes where nothing is found
pub none_pass : {X : Type 0} (p : X → Bool) (xs : List X) → find p xs ≡ None → list_any p xs ≡ false
none_pass p [] is = refl
none_pass p (x ∷ xs) is = by_test (p x) is (none_pass p xs)
  where
    by_test : (b : Bool) → cond b (Some x) (find p xs) ≡ None → (find p xs ≡ None → list_any p xs ≡ false)
        → (b || list_any p xs) ≡ false
    by_test true is rest = absurd (cc)
    by_test false is rest = rest is

-- each item fails then
pub all_fail : {X : Type 0} (p : X → Bool) (xs : List X) → list_any p xs ≡ false → All (λ x. p x ≡ false) xs
all_fail p xs none i d l =
    false_from_ne_true (p (get_or xs i d)) (λ is. false≢true (sym none ∙ list_any_at p xs i d l is))

-- one that is listed and passes
pub one_passes : {X : Type 0} (p : X → Bool) (xs : List X) (x : X) → Contains xs x → p x ≡ true → list_any p xs ≡ true
one_passes p xs x (k, less, at) is = list_any-from_Any p xs (k, x, less, at, is)

-- the first item that passes, by those before and after it
pub record IsFirst {X : Type 0} (p : X → Bool) (xs : List X) (x : X) : Type 0 where
  pub before : List X
  pub after : List X
  pub parts : xs ≡ before ++ x ∷ after
  pub none : list_any p before ≡ false

-- what is found is one
pub first_parts : {X : Type 0} (p : X → Bool) (xs : List X) (x : X) → find p xs ≡ Some x → IsFirst p xs x
first_parts p [] x is = absurd (cc)
first_parts {X} p (y ∷ ys) x is = by_test (p y) refl is (first_parts p ys x)
  where
    by_test : (b : Bool) → p y ≡ b → cond b (Some y) (find p ys) ≡ Some x → (find p ys ≡ Some x → IsFirst p ys x)
        → IsFirst p (y ∷ ys) x
    by_test true passes is rest =
        let same : y ≡ x = cc in
        record { before = []; after = ys; parts = ap (λ (z : X). z ∷ ys) same; none = refl }
    by_test false fails is rest =
        let more = rest is in
        record {
          before = y ∷ more.before;
          after = more.after;
          parts = ap (λ (zs : List X). y ∷ zs) more.parts;
          none = or_from (p y) (list_any p more.before) fails more.none;
        }

-- and so it is found
pub found_first : {X : Type 0} (p : X → Bool) (before : List X) (x : X) (after : List X) → list_any p before ≡ false
    → p x ≡ true → find p (before ++ x ∷ after) ≡ Some x
found_first p [] x after none is = rw is refl
found_first p (y ∷ before) x after none is =
    let parts = or_parts (p y) (list_any p before) none in
    let here : p y ≡ false = parts.0 in
    rw here (found_first p before x after parts.1 is)

-- any item, by those before and after it
pub record StandsAmong {X : Type 0} (xs : List X) (x : X) : Type 0 where
  pub before : List X
  pub after : List X
  pub parts : xs ≡ before ++ x ∷ after

-- what is listed is one
pub listed_parts : {X : Type 0} (xs : List X) (x : X) → Contains xs x → StandsAmong xs x
listed_parts [] x (k, less, at) = absurd (omega arith)
listed_parts {X} (y ∷ ys) x (zero, less, at) =
    record { before = []; after = ys; parts = ap (λ (z : X). z ∷ ys) at }
listed_parts {X} (y ∷ ys) x (suc k, less, at) =
    let rest = listed_parts ys x (k, omega arith, at) in
    record { before = y ∷ rest.before; after = rest.after; parts = ap (λ (zs : List X). y ∷ zs) rest.parts }

-- a list that ends with an item: another one is this, or stands before it
pub record IsEnd {X : Type 0} (front : List X) (end : X) (before : List X) (x : X) (after : List X) : Type 0 where
  pub same : x ≡ end
  pub all : before ≡ front
  pub none : after ≡ []

pub record IsBeforeEnd {X : Type 0} (front : List X) (end : X) (before : List X) (x : X) (after : List X)
    : Type 0 where
  pub rest : List X
  pub parts : front ≡ before ++ x ∷ rest
  pub end_parts : after ≡ rest ++ end ∷ []

none_behind : {X : Type 0} (before : List X) (x : X) (after : List X) → [] ≡ before ++ x ∷ after → ⊥
none_behind [] x after is = absurd (cc)
none_behind (y ∷ ys) x after is = absurd (cc)

-- either is so of each item of such a list
pub end_or_before : {X : Type 0} (front : List X) (end : X) (before : List X) (x : X) (after : List X)
    → front ++ end ∷ [] ≡ before ++ x ∷ after
    → IsEnd front end before x after ⊎ IsBeforeEnd front end before x after
end_or_before [] end [] x after is =
    let same : x ≡ end = cc in
    let none : after ≡ [] = cc in
    inl (record { same = same; all = refl; none = none })
end_or_before [] end (y ∷ ys) x after is =
    let rest : [] ≡ ys ++ x ∷ after = cc in
    absurd (none_behind ys x after rest)
end_or_before (y ∷ ys) end [] x after is =
    let same : y ≡ x = cc in
    let rest : after ≡ ys ++ end ∷ [] = cc in
    inr (record { rest = ys; parts = ap (λ z. z ∷ ys) same; end_parts = rest })
end_or_before {X} (y ∷ ys) end (z ∷ zs) x after is =
    let first : y ≡ z = cc in
    let later : ys ++ end ∷ [] ≡ zs ++ x ∷ after = cc in
    elim (end_or_before ys end zs x after later) [
      | inl e ↦
          let all : z ∷ zs ≡ y ∷ ys = ap (λ (v : X). v ∷ zs) (sym first) ∙ ap (λ (vs : List X). y ∷ vs) e.all in
          inl (record { same = e.same; all = all; none = e.none })
      | inr b ↦
          let parts : y ∷ ys ≡ z ∷ (zs ++ x ∷ b.rest) =
          ap (λ (v : X). v ∷ ys) first ∙ ap (λ (vs : List X). z ∷ vs) b.parts in
          inr (record { rest = b.rest; parts = parts; end_parts = b.end_parts })
    ]

-- where each pair of items has a relation, an item has it with those after it
pub pairs_among : {X : Type 0} (R : X → X → Type 0) (before : List X) (x : X) (after : List X)
    → AllPairs R (before ++ x ∷ after) → All (λ y. R y x) before
pairs_among {X} R before x after pairs i d l =
    let inside : length before < length (before ++ x ∷ after) = omega (arith, length-append before (x ∷ after)) in
    let first : get_or (before ++ x ∷ after) i d ≡ get_or before i d = get_or_append_left before (x ∷ after) d i l in
    let second : get_or (before ++ x ∷ after) (length before) d ≡ x = get_or-append_seam before x after d in
    rw (first, second) at (pairs i (length before) d l inside)

-- and where the relation goes both ways, any two items are one or have it
three_ways : (i j : ℕ) → (i < j) ⊎ ((j < i) ⊎ (i ≡ j))
three_ways i j = grind arith

-- two that are listed
pub listed_pair : {X : Type 0} (R : X → X → Type 0) (xs : List X) (x y : X) → AllPairs R xs
    → ((a b : X) → R a b → R b a) → Contains xs x → Contains xs y → (x ≡ y) ⊎ R x y
listed_pair {X} R xs x y pairs turned (i, less, at) (j, within, stands) =
    let second : get_or xs j x ≡ y = get_or_default xs j x y within ∙ stands in
    elim (three_ways i j) [
      | inl before ↦ inr (rw (at, second) at (pairs i j x before within))
      | inr (inl behind) ↦ inr (turned y x (rw (second, at) at (pairs j i x behind less)))
      | inr (inr same) ↦ inl (sym at ∙ ap (λ (n : ℕ). get_or xs n x) same ∙ second)
    ]

-- Two items of a list: the one stands behind the other.
pub record IsBehind {X : Type 0} (front : List X) (x : X) (back before : List X) (z : X) (after : List X) : Type 0 where
  pub between : List X
  pub front_parts : front ≡ before ++ z ∷ between
  pub after_parts : after ≡ between ++ x ∷ back

-- they are one, or either stands behind the other
pub one_or_behind : {X : Type 0} (front : List X) (x : X) (back before : List X) (z : X) (after : List X)
    → front ++ x ∷ back ≡ before ++ z ∷ after
    → (x ≡ z) ⊎ (IsBehind front x back before z after ⊎ IsBehind before z after front x back)
one_or_behind [] x back [] z after is = inl (cc)
one_or_behind [] x back (y ∷ ys) z after is =
    let first : y ∷ ys ≡ x ∷ ys = cc in
    let rest : back ≡ ys ++ z ∷ after = cc in
    inr (inr (record { between = ys; front_parts = first; after_parts = rest }))
one_or_behind (y ∷ ys) x back [] z after is =
    let first : y ∷ ys ≡ z ∷ ys = cc in
    let rest : after ≡ ys ++ x ∷ back = cc in
    inr (inl (record { between = ys; front_parts = first; after_parts = rest }))
one_or_behind {X} (y ∷ ys) x back (w ∷ ws) z after is =
    let first : y ≡ w = cc in
    let later : ys ++ x ∷ back ≡ ws ++ z ∷ after = cc in
    elim (one_or_behind ys x back ws z after later) [
      | inl same ↦ inl same
      | inr (inl b) ↦
          let parts : y ∷ ys ≡ w ∷ (ws ++ z ∷ b.between) =
          ap (λ (v : X). v ∷ ys) first ∙ ap (λ (vs : List X). w ∷ vs) b.front_parts in
          inr (inl (record { between = b.between; front_parts = parts; after_parts = b.after_parts }))
      | inr (inr b) ↦
          let parts : w ∷ ws ≡ y ∷ (ys ++ x ∷ b.between) =
          ap (λ (v : X). v ∷ ws) (sym first) ∙ ap (λ (vs : List X). y ∷ vs) b.front_parts in
          inr (inr (record { between = b.between; front_parts = parts; after_parts = b.after_parts }))
    ]

-- what holds of all items holds of all but one
pub all_without : {X : Type 0} (P : X → Type 0) (before : List X) (x : X) (after : List X) → All P (before ++ x ∷ after)
    → All P (before ++ after)
all_without P [] x after all = All-tail P x after all
all_without P (y ∷ before) x after all =
    All-cons P y (before ++ after) (All-head P y (before ++ x ∷ after) all)
    (all_without P before x after (All-tail P y (before ++ x ∷ after) all))
