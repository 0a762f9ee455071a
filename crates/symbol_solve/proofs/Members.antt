-- Members of lists, case by case.
use Rattle.std.proofs.Common.{arith, ◌≡◌, ◌⊎◌, inl, inr, zero, suc, Bool, true, false, ◌&&◌, ◌||◌, cond}
use Rattle.std.proofs.Common.{List, [], ◌∷◌, ◌++◌, Option, Some, None, Contains, refl, sym, ap, subst, ◌∙◌}
use Rattle.std.specs.List.{All, AllZip, filter, flat_map, list_any, list_all}
use Rattle.std.specs.Option.{option_or}
use Rattle.std.proofs.lemmas.List.Elements.{All-nil, All-cons, All-head, All-tail}
use Rattle.propagation.specs.Conflicts.{first_some, first_of_two, first_between}

abbrev pub Has : {X : Type 0} → List X → X → Type 0
Has [] x = ⊥
Has (a ∷ xs) x = (a ≡ x) ⊎ Has xs x

pub has_of : {X : Type 0} (xs : List X) (x : X) → Contains xs x → Has xs x
has_of [] x (k, within, is) = absurd (omega (arith, within))
has_of (a ∷ xs) x (zero, within, is) = inl is
has_of (a ∷ xs) x (suc k, within, is) = inr (has_of xs x (k, omega (arith, within), is))

pub contained : {X : Type 0} (xs : List X) (x : X) → Has xs x → Contains xs x
contained [] x has = absurd has
contained (a ∷ xs) x (inl is) = (zero, omega arith, is)
contained (a ∷ xs) x (inr rest) =
    let (k, within, is) = contained xs x rest in
    (suc k, omega (arith, within), is)

pub all_has : {X : Type 0} (P : X → Type 0) (xs : List X) (x : X) → All P xs → Has xs x → P x
all_has P [] x all has = absurd has
all_has P (a ∷ xs) x all (inl is) = subst P is (All-head P a xs all)
all_has P (a ∷ xs) x all (inr rest) = all_has P xs x (All-tail P a xs all) rest

pub all_of : {X : Type 0} (P : X → Type 0) (xs : List X) → ((x : X) → Has xs x → P x) → All P xs
all_of P [] each = All-nil P
all_of P (a ∷ xs) each = All-cons P a xs (each a (inl refl)) (all_of P xs (λ x has. each x (inr has)))

-- ---- tests
pub any_has : {X : Type 0} (p : X → Bool) (xs : List X) (x : X) → Has xs x → p x ≡ true → list_any p xs ≡ true
any_has p [] x has pass = absurd has
any_has p (a ∷ xs) x (inl is) pass = ap (λ b. b || list_any p xs) (ap p is ∙ pass)
any_has {X} p (a ∷ xs) x (inr rest) pass = by (p a) (any_has p xs x rest pass)
  where
    by : (b : Bool) → list_any p xs ≡ true → (b || list_any p xs) ≡ true
    by true later = refl
    by false later = later

pub any_none : {X : Type 0} (p : X → Bool) (xs : List X) → ((x : X) → Has xs x → p x ≡ false) → list_any p xs ≡ false
any_none p [] none = refl
any_none p (a ∷ xs) none =
    ap (λ b. b || list_any p xs) (none a (inl refl)) ∙ any_none p xs (λ x has. none x (inr has))

both_true : (a b : Bool) → (a && b) ≡ true → (a ≡ true) × (b ≡ true)
both_true true b is = (refl, is)
both_true false b is = absurd cc

pub every_has : {X : Type 0} (p : X → Bool) (xs : List X) (x : X) → list_all p xs ≡ true → Has xs x → p x ≡ true
every_has p [] x all has = absurd has
every_has p (a ∷ xs) x all (inl is) = ap p (sym is) ∙ (both_true (p a) (list_all p xs) all).0
every_has p (a ∷ xs) x all (inr rest) = every_has p xs x (both_true (p a) (list_all p xs) all).1 rest

-- ---- filters
pub has_filter : {X : Type 0} (p : X → Bool) (xs : List X) (x : X) → Has xs x → p x ≡ true → Has (filter p xs) x
has_filter p [] x has pass = absurd has
has_filter {X} p (a ∷ xs) x (inl is) pass =
    subst (λ b. Has (cond b (a ∷ filter p xs) (filter p xs)) x) (sym (ap p is ∙ pass)) (inl is)
has_filter {X} p (a ∷ xs) x (inr rest) pass = by (p a) (has_filter p xs x rest pass)
  where
    by : (b : Bool) → Has (filter p xs) x → Has (cond b (a ∷ filter p xs) (filter p xs)) x
    by true later = inr later
    by false later = later

pub filter_has : {X : Type 0} (p : X → Bool) (xs : List X) (x : X) → Has (filter p xs) x → Has xs x × (p x ≡ true)
filter_has p [] x has = absurd has
filter_has {X} p (a ∷ xs) x has = by (p a) refl (filter_has p xs x) has
  where
    by : (b : Bool) → p a ≡ b → (Has (filter p xs) x → Has xs x × (p x ≡ true))
        → Has (cond b (a ∷ filter p xs) (filter p xs)) x → Has (a ∷ xs) x × (p x ≡ true)
    by true is later (inl here) = (inl here, ap p (sym here) ∙ is)
    by true is later (inr rest) = (inr (later rest).0, (later rest).1)
    by false is later rest = (inr (later rest).0, (later rest).1)

-- ---- lists joined
pub has_left : {X : Type 0} (xs ys : List X) (x : X) → Has xs x → Has (xs ++ ys) x
has_left [] ys x has = absurd has
has_left (a ∷ xs) ys x (inl is) = inl is
has_left (a ∷ xs) ys x (inr rest) = inr (has_left xs ys x rest)

pub has_right : {X : Type 0} (xs ys : List X) (x : X) → Has ys x → Has (xs ++ ys) x
has_right [] ys x has = has
has_right (a ∷ xs) ys x has = inr (has_right xs ys x has)

pub has_either : {X : Type 0} (xs ys : List X) (x : X) → Has (xs ++ ys) x → Has xs x ⊎ Has ys x
has_either [] ys x has = inr has
has_either (a ∷ xs) ys x (inl is) = inl (inl is)
has_either (a ∷ xs) ys x (inr rest) = elim (has_either xs ys x rest) [ inl h ↦ inl (inr h) | inr h ↦ inr h ]

pub has_flat : {X Y : Type 0} (f : X → List Y) (xs : List X) (x : X) (y : Y)
    → Has xs x → Has (f x) y → Has (flat_map f xs) y
has_flat f [] x y has inner = absurd has
has_flat f (a ∷ xs) x y (inl is) inner =
    has_left (f a) (flat_map f xs) y (subst (λ z. Has (f z) y) (sym is) inner)
has_flat f (a ∷ xs) x y (inr rest) inner = has_right (f a) (flat_map f xs) y (has_flat f xs x y rest inner)

pub flat_has : {X Y : Type 0} (f : X → List Y) (xs : List X) (y : Y)
    → Has (flat_map f xs) y → (x : X) × Has xs x × Has (f x) y
flat_has f [] y has = absurd has
flat_has {X} {Y} f (a ∷ xs) y has = by (has_either (f a) (flat_map f xs) y has) (flat_has f xs y)
  where
    by : Has (f a) y ⊎ Has (flat_map f xs) y
        → (Has (flat_map f xs) y → (x : X) × Has xs x × Has (f x) y) → (x : X) × Has (a ∷ xs) x × Has (f x) y
    by (inl here) later = (a, inl refl, here)
    by (inr rest) later = let (x, has_x, inner) = later rest in (x, inr has_x, inner)

-- ---- lists side by side
module _ {A B : Type 0} (R : A → B → Type 0) where
  pub beside_left : (xs : List A) (ys : List B) (x : A) → AllZip R xs ys → Has xs x → (y : B) × Has ys y × R x y
  beside_left [] ys x all has = absurd has
  beside_left (a ∷ xs) [] x all has = absurd all
  beside_left (a ∷ xs) (b ∷ ys) x all (inl is) = (b, inl refl, subst (λ z. R z b) is all.0)
  beside_left (a ∷ xs) (b ∷ ys) x all (inr rest) =
      let (y, has, here) = beside_left xs ys x all.1 rest in
      (y, inr has, here)

  pub beside_right : (xs : List A) (ys : List B) (y : B) → AllZip R xs ys → Has ys y → (x : A) × Has xs x × R x y
  beside_right xs [] y all has = absurd has
  beside_right [] (b ∷ ys) y all has = absurd all
  beside_right (a ∷ xs) (b ∷ ys) y all (inl is) = (a, inl refl, subst (R a) is all.0)
  beside_right (a ∷ xs) (b ∷ ys) y all (inr rest) =
      let (x, has, here) = beside_right xs ys y all.1 rest in
      (x, inr has, here)

-- ---- the first of some
pub first_from : {X Y : Type 0} (f : X → Option Y) (xs : List X) (y : Y)
    → first_some f xs ≡ Some y → (x : X) × Has xs x × (f x ≡ Some y)
unfolding first_some
first_from f [] y is = absurd cc
first_from {X} {Y} f (a ∷ xs) y is = by (f a) refl (first_from f xs y) is
  where
    by : (o : Option Y) → f a ≡ o → (first_some f xs ≡ Some y → (x : X) × Has xs x × (f x ≡ Some y))
        → option_or o (first_some f xs) ≡ Some y → (x : X) × Has (a ∷ xs) x × (f x ≡ Some y)
    by (Some z) at later here = (a, inl refl, at ∙ here)
    by None at later rest = let (x, has, found) = later rest in (x, inr has, found)

pub no_first : {X Y : Type 0} (f : X → Option Y) (xs : List X) (x : X) → first_some f xs ≡ None → Has xs x → f x ≡ None
unfolding first_some
no_first f [] x none has = absurd has
no_first {X} {Y} f (a ∷ xs) x none has = by (f a) refl (no_first f xs x) none has
  where
    by : (o : Option Y) → f a ≡ o → (first_some f xs ≡ None → Has xs x → f x ≡ None)
        → option_or o (first_some f xs) ≡ None → Has (a ∷ xs) x → f x ≡ None
    by (Some z) at later is there = absurd cc
    by None at later is (inl here) = ap f (sym here) ∙ at
    by None at later is (inr rest) = later is rest

-- two of two lists of some, one before the other or the other way round
pub between_from : {X Y : Type 0} (f : X → X → Option Y) (lists : List (List X)) (y : Y)
    → first_between f lists ≡ Some y
    → (a : X) × (b : X) × (ones : List X)
    × (others : List X) × Has lists ones × Has ones a × Has lists others × Has others b × (f a b ≡ Some y)
unfolding first_between
between_from f [] y is = absurd cc
between_from {X} {Y} f (ones ∷ rest) y is = by (first_some (first_of_two f ones) rest) refl (between_from f rest y) is
  where
    Found : List (List X) → Type 0
    Found lists = (a : X) × (b : X) × (these : List X)
        × (others : List X) × Has lists these × Has these a × Has lists others × Has others b × (f a b ≡ Some y)

    by : (o : Option Y) → first_some (first_of_two f ones) rest ≡ o → (first_between f rest ≡ Some y → Found rest)
        → option_or o (first_between f rest) ≡ Some y → Found (ones ∷ rest)
    by (Some z) at later here =
        let (others, has_others, two) = first_from (first_of_two f ones) rest y (at ∙ here) in
        let (a, has_a, one) = first_from (λ x. first_some (f x) others) ones y two in
        let (b, has_b, found) = first_from (f a) others y one in
        (a, b, ones, others, inl refl, has_a, inr has_others, has_b, found)
    by None at later it =
        let (a, b, these, others, has_these, has_a, has_others, has_b, found) = later it in
        (a, b, these, others, inr has_these, has_a, inr has_others, has_b, found)
