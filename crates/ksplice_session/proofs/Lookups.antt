-- What is found and read in a list that was changed.
use Rattle.std.proofs.Common.{◌≡◌, ℕ, zero, suc, ◌<◌, Bool, true, false, not, ◌&&◌, cond, nat_lt, ◌⊎◌, inl, inr}
use Rattle.std.proofs.Common.{List, [], ◌∷◌, ◌++◌, map, length, set, take, Option, Some, None}
use Rattle.std.proofs.Common.{refl, sym, ◌∙◌, ap, subst, arith, if◌then◌else◌}
use Rattle.std.specs.Option.{option_map}
use Rattle.std.specs.List.{All, Contains, find, filter, last_or, list_all, slice_get}
use Rattle.std.proofs.lemmas.Option.{none-some, same_Some, slice_get_within, get_or_from_slice_get}
use Rattle.std.proofs.lemmas.List.Elements.{All-cons}
use Rattle.ks_base.specs.declared.places.Range.{Range}
use Rattle.image_memory.specs.Ranges.{put_in}

-- one of some things
abbrev pub IsOneOf : {X : Type 0} → List X → X → Type 0
IsOneOf xs x = (i : ℕ) × (slice_get xs i ≡ Some x)

pub is_contained : {X : Type 0} (xs : List X) (x : X) → IsOneOf xs x → Contains xs x
is_contained xs x one = (one.0, slice_get_within xs one.0 x one.1, get_or_from_slice_get xs one.0 x x one.1)

pub true_false : (b : Bool) → b ≡ true → b ≡ false → ⊥
true_false b yes_is no_is = cc

-- a test of two things, taken apart
pub both_hold : (a b : Bool) → (a && b) ≡ true → (a ≡ true) × (b ≡ true)
both_hold true b is = (refl, is)
both_hold false b is = absurd (cc)

module _ {X : Type 0} (p : X → Bool) where
  pub found_is : (xs : List X) (x : X) → find p xs ≡ Some x → p x ≡ true
  found_is [] x is = absurd (none-some x is)
  found_is (y ∷ ys) x is = by_test (p y) refl (λ rest. found_is ys x rest) is
    where
      by_test : (b : Bool) → p y ≡ b → (find p ys ≡ Some x → p x ≡ true) → cond b (Some y) (find p ys) ≡ Some x
          → p x ≡ true
      by_test true holds later is = subst (λ (z : X). p z ≡ true) (same_Some y x is) holds
      by_test false fails later is = later is

  pub find_mapped : (f : X → X) → ((x : X) → p (f x) ≡ p x) → (xs : List X)
      → find p (map f xs) ≡ option_map f (find p xs)
  find_mapped f same [] = refl
  find_mapped f same (x ∷ xs) =
      ap (λ (b : Bool). cond b (Some (f x)) (find p (map f xs))) (same x) ∙ by_test (p x) (find_mapped f same xs)
    where
      by_test : (b : Bool) → find p (map f xs) ≡ option_map f (find p xs)
          → cond b (Some (f x)) (find p (map f xs)) ≡ option_map f (cond b (Some x) (find p xs))
      by_test true rest = refl
      by_test false rest = rest

  pub find_without : (xs : List X) → find p (filter (λ x. not (p x)) xs) ≡ None
  find_without [] = refl
  find_without (x ∷ xs) = by_test (p x) refl (find_without xs)
    where
      by_test : (b : Bool) → p x ≡ b → find p (filter (λ x. not (p x)) xs) ≡ None
          → find p (cond (not b) (x ∷ filter (λ x. not (p x)) xs) (filter (λ x. not (p x)) xs)) ≡ None
      by_test true holds rest = rest
      by_test false fails rest =
          ap (λ (b : Bool). cond b (Some x) (find p (filter (λ x. not (p x)) xs))) fails ∙ rest

  pub find_past_filter : (q : X → Bool) → ((x : X) → p x ≡ true → q x ≡ true) → (xs : List X)
      → find p (filter q xs) ≡ find p xs
  find_past_filter q stay [] = refl
  find_past_filter q stay (x ∷ xs) = by_kept (q x) refl (find_past_filter q stay xs)
    where
      by_test : (b : Bool) → p x ≡ b → q x ≡ false → find p (filter q xs) ≡ find p xs
          → find p (filter q xs) ≡ cond b (Some x) (find p xs)
      by_test true holds gone rest = absurd (true_false (q x) (stay x holds) gone)
      by_test false fails gone rest = rest

      by_kept : (b : Bool) → q x ≡ b → find p (filter q xs) ≡ find p xs
          → find p (cond b (x ∷ filter q xs) (filter q xs)) ≡ cond (p x) (Some x) (find p xs)
      by_kept true kept rest = ap (λ (o : Option X). cond (p x) (Some x) o) rest
      by_kept false gone rest = by_test (p x) refl gone rest

  pub find_put_other : (range : X → Range) (x : X) (ys : List X) → p x ≡ false → find p (put_in range x ys) ≡ find p ys
  find_put_other range x [] fails = ap (λ (b : Bool). cond b (Some x) None) fails
  find_put_other range x (y ∷ ys) fails =
      by_order (nat_lt (range x).low (range y).low) (find_put_other range x ys fails)
    where
      by_order : (b : Bool) → find p (put_in range x ys) ≡ find p ys
          → find p (if b then x ∷ y ∷ ys else y ∷ put_in range x ys) ≡ find p (y ∷ ys)
      by_order true rest = ap (λ (b : Bool). cond b (Some x) (find p (y ∷ ys))) fails
      by_order false rest = ap (λ (o : Option X). cond (p y) (Some y) o) rest

  none_behind : (y : X) (ys : List X) → find p (y ∷ ys) ≡ None → (p y ≡ false) × (find p ys ≡ None)
  none_behind y ys none = by_test (p y) refl none
    where
      by_test : (b : Bool) → p y ≡ b → cond b (Some y) (find p ys) ≡ None → (p y ≡ false) × (find p ys ≡ None)
      by_test true holds none = absurd (none-some y (sym none))
      by_test false fails none = (fails, none)

  pub find_put_new : (range : X → Range) (x : X) (ys : List X) → p x ≡ true → find p ys ≡ None
      → find p (put_in range x ys) ≡ Some x
  find_put_new range x [] holds none = ap (λ (b : Bool). cond b (Some x) None) holds
  find_put_new range x (y ∷ ys) holds none =
      by_order (nat_lt (range x).low (range y).low) (find_put_new range x ys holds (none_behind y ys none).1)
    where
      by_order : (b : Bool) → find p (put_in range x ys) ≡ Some x
          → find p (if b then x ∷ y ∷ ys else y ∷ put_in range x ys) ≡ Some x
      by_order true rest = ap (λ (b : Bool). cond b (Some x) (find p (y ∷ ys))) holds
      by_order false rest =
          ap (λ (b : Bool). cond b (Some y) (find p (put_in range x ys))) (none_behind y ys none).0 ∙ rest

  pub All-of_list_all : (xs : List X) → list_all p xs ≡ true → All (λ x. p x ≡ true) xs
  All-of_list_all [] all = λ i d l. absurd (omega arith)
  All-of_list_all (x ∷ xs) all =
      let parts = both_hold (p x) (list_all p xs) all in
      All-cons (λ x. p x ≡ true) x xs parts.0 (All-of_list_all xs parts.1)

  pub all_pass : (xs : List X) → ((i : ℕ) (x : X) → slice_get xs i ≡ Some x → p x ≡ true) → list_all p xs ≡ true
  all_pass [] each = refl
  all_pass (x ∷ xs) each =
      ap (λ (b : Bool). b && list_all p xs) (each 0 x refl) ∙ all_pass xs (λ i y is. each (suc i) y is)

module _ {X : Type 0} where
  pub All-at : (P : X → Type 0) (xs : List X) (i : ℕ) (x : X) → All P xs → slice_get xs i ≡ Some x → P x
  All-at P xs i x all is =
      subst P (get_or_from_slice_get xs i x x is) (all i x (slice_get_within xs i x is))

  pub set_here : (xs : List X) (i : ℕ) (x y : X) → slice_get xs i ≡ Some y → slice_get (set xs i x) i ≡ Some x
  set_here [] i x y is = absurd (none-some y is)
  set_here (z ∷ zs) zero x y is = refl
  set_here (z ∷ zs) (suc i) x y is = set_here zs i x y is

  pub set_elsewhere : (xs : List X) (i j : ℕ) (x : X) → (i ≡ j → ⊥) → slice_get (set xs i x) j ≡ slice_get xs j
  set_elsewhere [] i j x differ = refl
  set_elsewhere (z ∷ zs) zero zero x differ = absurd (differ refl)
  set_elsewhere (z ∷ zs) zero (suc j) x differ = refl
  set_elsewhere (z ∷ zs) (suc i) zero x differ = refl
  set_elsewhere (z ∷ zs) (suc i) (suc j) x differ = set_elsewhere zs i j x (λ same. differ (ap suc same))

  pub more_behind : (xs ys : List X) (i : ℕ) (x : X) → slice_get xs i ≡ Some x → slice_get (xs ++ ys) i ≡ Some x
  more_behind [] ys i x is = absurd (none-some x is)
  more_behind (z ∷ zs) ys zero x is = is
  more_behind (z ∷ zs) ys (suc i) x is = more_behind zs ys i x is

  pub read_last : (xs : List X) (x : X) → slice_get (xs ++ x ∷ []) (length xs) ≡ Some x
  read_last [] x = refl
  read_last (z ∷ zs) x = read_last zs x

  pub read_more : (xs : List X) (x y : X) (i : ℕ) → slice_get (xs ++ x ∷ []) i ≡ Some y
      → (slice_get xs i ≡ Some y) ⊎ ((i ≡ length xs) × (x ≡ y))
  read_more [] x y zero is = inr (refl, same_Some x y is)
  read_more [] x y (suc i) is = absurd (none-some y is)
  read_more (z ∷ zs) x y zero is = inl is
  read_more (z ∷ zs) x y (suc i) is = elim (read_more zs x y i is) [
    | inl before ↦ inl before
    | inr here ↦ inr (ap suc here.0, here.1)
  ]

  -- past one item more, and elsewhere than at it
  pub one_more : (xs : List X) (x : X) (i : ℕ) → (i ≡ length xs → ⊥) → slice_get (xs ++ x ∷ []) i ≡ slice_get xs i
  one_more [] x zero differ = absurd (differ refl)
  one_more [] x (suc i) differ = refl
  one_more (z ∷ zs) x zero differ = refl
  one_more (z ∷ zs) x (suc i) differ = one_more zs x i (λ same. differ (ap suc same))

  pub read_front : (n : ℕ) (xs : List X) (i : ℕ) (x : X) → slice_get (take n xs) i ≡ Some x → slice_get xs i ≡ Some x
  read_front zero xs i x is = absurd (none-some x is)
  read_front (suc n) [] i x is = is
  read_front (suc n) (z ∷ zs) zero x is = is
  read_front (suc n) (z ∷ zs) (suc i) x is = read_front n zs i x is

  pub front_reads : (n : ℕ) (xs : List X) (i : ℕ) → i < n → slice_get (take n xs) i ≡ slice_get xs i
  front_reads zero xs i less = absurd (omega arith)
  front_reads (suc n) [] i less = refl
  front_reads (suc n) (z ∷ zs) zero less = refl
  front_reads (suc n) (z ∷ zs) (suc i) less = front_reads n zs i (omega arith)

  last_read : (y : X) (xs : List X) (x : X) → last_or (Some y) xs ≡ Some x → slice_get (y ∷ xs) (length xs) ≡ Some x
  last_read y [] x is = is
  last_read y (z ∷ zs) x is = last_read z zs x is

  -- the last item stands at the end
  pub last_at : (xs : List X) (x : X) → last_or None xs ≡ Some x
      → (n : ℕ) × (length xs ≡ suc n) × (slice_get xs n ≡ Some x)
  last_at [] x is = absurd (none-some x is)
  last_at (y ∷ ys) x is = (length ys, refl, last_read y ys x is)

  pub last_behind : (o : Option X) (xs : List X) (x : X) → last_or o (xs ++ x ∷ []) ≡ Some x
  last_behind o [] x = refl
  last_behind o (z ∷ zs) x = last_behind (Some z) zs x

  pub found_at : (p : X → Bool) (xs : List X) (x : X) → find p xs ≡ Some x → (i : ℕ) × (slice_get xs i ≡ Some x)
  found_at p [] x is = absurd (none-some x is)
  found_at p (y ∷ ys) x is = by_test (p y) (λ rest. found_at p ys x rest) is
    where
      by_test : (b : Bool) → (find p ys ≡ Some x → (i : ℕ) × (slice_get ys i ≡ Some x))
          → cond b (Some y) (find p ys) ≡ Some x → (i : ℕ) × (slice_get (y ∷ ys) i ≡ Some x)
      by_test true later is = (0, is)
      by_test false later is = (suc (later is).0, (later is).1)

  pub nothing_read : (xs : List X) (i : ℕ) (x : X) → xs ≡ [] → slice_get xs i ≡ Some x → ⊥
  nothing_read xs i x none is = none-some x (subst (λ (ys : List X). slice_get ys i ≡ Some x) none is)
