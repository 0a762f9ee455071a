-- Members of lists.
use Rattle.std.proofs.Common.{arith, ◌≡◌, ◌⊎◌, ℕ, inl, inr, zero, suc, Bool, true, false, cond, ◌||◌, List, []}
use Rattle.std.proofs.Common.{◌∷◌, ◌++◌, map, Option, Some, None, refl, sym, ap, subst, ◌∙◌}
use Rattle.std.specs.List.{All, AllByRecursion, Contains, filter, flat_map, list_any, slice_get}
use Rattle.std.proofs.lemmas.List.Elements.{All-nil, All-cons, All-head, All-tail}
use Rattle.ks_base.specs.declared.refusals.Refusal.{Refusal}
use Rattle.i386_reloc.specs.BelowLaws.{none_first, none_second}
use Rattle.i386_reloc.specs.Refused.{first_among}

abbrev pub Has : {X : Type 0} → List X → X → Type 0
Has [] x = ⊥
Has (a ∷ xs) x = (a ≡ x) ⊎ Has xs x

pub contained : {X : Type 0} (xs : List X) (x : X) → Has xs x → Contains xs x
contained [] x has = absurd has
contained (a ∷ xs) x (inl is) = (zero, omega arith, is)
contained (a ∷ xs) x (inr rest) =
    let (k, within, is) = contained xs x rest in
    (suc k, omega (arith, within), is)

pub has_of : {X : Type 0} (xs : List X) (x : X) → Contains xs x → Has xs x
has_of [] x (k, within, is) = absurd (omega (arith, within))
has_of (a ∷ xs) x (zero, within, is) = inl is
has_of (a ∷ xs) x (suc k, within, is) = inr (has_of xs x (k, omega (arith, within), is))

pub all_has : {X : Type 0} (P : X → Type 0) (xs : List X) (x : X) → All P xs → Has xs x → P x
all_has P [] x all has = absurd has
all_has P (a ∷ xs) x all (inl is) = subst P is (All-head P a xs all)
all_has P (a ∷ xs) x all (inr rest) = all_has P xs x (All-tail P a xs all) rest

pub all_of : {X : Type 0} (P : X → Type 0) (xs : List X) → ((x : X) → Has xs x → P x) → All P xs
all_of P [] each = All-nil P
all_of P (a ∷ xs) each = All-cons P a xs (each a (inl refl)) (all_of P xs (λ x has. each x (inr has)))

pub each_has : {X : Type 0} (P : X → Type 0) (xs : List X) (x : X) → AllByRecursion P xs → Has xs x → P x
each_has P [] x each has = absurd has
each_has P (a ∷ xs) x each (inl is) = subst P is each.0
each_has P (a ∷ xs) x each (inr rest) = each_has P xs x each.1 rest

-- ---- tests
pub any_has : {X : Type 0} (p : X → Bool) (xs : List X) (x : X) → Has xs x → p x ≡ true → list_any p xs ≡ true
any_has p [] x has pass = absurd has
any_has p (a ∷ xs) x (inl is) pass = ap (λ b. b || list_any p xs) (ap p is ∙ pass)
any_has {X} p (a ∷ xs) x (inr rest) pass = by (p a) (any_has p xs x rest pass)
  where
    by : (b : Bool) → list_any p xs ≡ true → (b || list_any p xs) ≡ true
    by true later = refl
    by false later = later

pub has_any : {X : Type 0} (p : X → Bool) (xs : List X) → list_any p xs ≡ true → (x : X) × Has xs x × (p x ≡ true)
has_any p [] any = absurd cc
has_any {X} p (a ∷ xs) any = by (p a) refl (has_any p xs) any
  where
    by : (b : Bool) → p a ≡ b → (list_any p xs ≡ true → (x : X) × Has xs x × (p x ≡ true)) →
        (b || list_any p xs) ≡ true → (x : X) × Has (a ∷ xs) x × (p x ≡ true)
    by true is later here = (a, inl refl, is)
    by false is later rest = let (x, has, pass) = later rest in (x, inr has, pass)

pub any_none : {X : Type 0} (p : X → Bool) (xs : List X) → ((x : X) → Has xs x → p x ≡ false) → list_any p xs ≡ false
any_none p [] none = refl
any_none p (a ∷ xs) none =
    ap (λ b. b || list_any p xs) (none a (inl refl)) ∙ any_none p xs (λ x has. none x (inr has))

-- no item is refused where none among them is
pub none_has : {X : Type 0} (f : X → Option Refusal) (xs : List X) (x : X) → first_among f xs ≡ None → Has xs x →
    f x ≡ None
none_has f [] x none has = absurd has
none_has f (a ∷ xs) x none (inl is) = ap f (sym is) ∙ none_first (f a) (first_among f xs) none
none_has f (a ∷ xs) x none (inr rest) = none_has f xs x (none_second (f a) (first_among f xs) none) rest

-- ---- lists that are made of others
pub has_map : {X Y : Type 0} (f : X → Y) (xs : List X) (x : X) → Has xs x → Has (map f xs) (f x)
has_map f [] x has = absurd has
has_map f (a ∷ xs) x (inl is) = inl (ap f is)
has_map f (a ∷ xs) x (inr rest) = inr (has_map f xs x rest)

pub map_has : {X Y : Type 0} (f : X → Y) (xs : List X) (y : Y) → Has (map f xs) y → (x : X) × Has xs x × (f x ≡ y)
map_has f [] y has = absurd has
map_has f (a ∷ xs) y (inl is) = (a, inl refl, is)
map_has f (a ∷ xs) y (inr rest) = let (x, has, is) = map_has f xs y rest in (x, inr has, is)

pub has_filter : {X : Type 0} (p : X → Bool) (xs : List X) (x : X) → Has xs x → p x ≡ true → Has (filter p xs) x
has_filter p [] x has pass = absurd has
has_filter {X} p (a ∷ xs) x (inl is) pass =
    subst (λ b. Has (cond b (a ∷ filter p xs) (filter p xs)) x) (sym (ap p is ∙ pass)) (inl is)
has_filter {X} p (a ∷ xs) x (inr rest) pass = by (p a) (has_filter p xs x rest pass)
  where
    by : (b : Bool) → Has (filter p xs) x → Has (cond b (a ∷ filter p xs) (filter p xs)) x
    by true later = inr later
    by false later = later

pub filter_has : {X : Type 0} (p : X → Bool) (xs : List X) (x : X) → Has (filter p xs) x → Has xs x × (p x ≡ true)
filter_has p [] x has = absurd has
filter_has {X} p (a ∷ xs) x has = by (p a) refl (filter_has p xs x) has
  where
    by : (b : Bool) → p a ≡ b → (Has (filter p xs) x → Has xs x × (p x ≡ true)) →
        Has (cond b (a ∷ filter p xs) (filter p xs)) x → Has (a ∷ xs) x × (p x ≡ true)
    by true is later (inl here) = (inl here, ap p (sym here) ∙ is)
    by true is later (inr rest) = let both = later rest in (inr both.0, both.1)
    by false is later rest = let both = later rest in (inr both.0, both.1)

pub has_left : {X : Type 0} (xs ys : List X) (x : X) → Has xs x → Has (xs ++ ys) x
has_left [] ys x has = absurd has
has_left (a ∷ xs) ys x (inl is) = inl is
has_left (a ∷ xs) ys x (inr rest) = inr (has_left xs ys x rest)

pub has_right : {X : Type 0} (xs ys : List X) (x : X) → Has ys x → Has (xs ++ ys) x
has_right [] ys x has = has
has_right (a ∷ xs) ys x has = inr (has_right xs ys x has)

pub has_either : {X : Type 0} (xs ys : List X) (x : X) → Has (xs ++ ys) x → Has xs x ⊎ Has ys x
has_either [] ys x has = inr has
has_either (a ∷ xs) ys x (inl is) = inl (inl is)
has_either (a ∷ xs) ys x (inr rest) = elim (has_either xs ys x rest) [ inl h ↦ inl (inr h) | inr h ↦ inr h ]

pub has_flat : {X Y : Type 0} (f : X → List Y) (xs : List X) (x : X) (y : Y) → Has xs x → Has (f x) y →
    Has (flat_map f xs) y
has_flat f [] x y has inner = absurd has
has_flat f (a ∷ xs) x y (inl is) inner =
    has_left (f a) (flat_map f xs) y (subst (λ z. Has (f z) y) (sym is) inner)
has_flat f (a ∷ xs) x y (inr rest) inner = has_right (f a) (flat_map f xs) y (has_flat f xs x y rest inner)

pub flat_has : {X Y : Type 0} (f : X → List Y) (xs : List X) (y : Y) → Has (flat_map f xs) y →
    (x : X) × Has xs x × Has (f x) y
flat_has f [] y has = absurd has
flat_has {X} {Y} f (a ∷ xs) y has = by (has_either (f a) (flat_map f xs) y has) (flat_has f xs y)
  where
    by : Has (f a) y ⊎ Has (flat_map f xs) y → (Has (flat_map f xs) y → (x : X) × Has xs x × Has (f x) y) →
        (x : X) × Has (a ∷ xs) x × Has (f x) y
    by (inl here) later = (a, inl refl, here)
    by (inr rest) later = let (x, has_x, inner) = later rest in (x, inr has_x, inner)

-- an item at a place
pub has_at : {X : Type 0} (xs : List X) (place : ℕ) (x : X) → slice_get xs place ≡ Some x → Has xs x
has_at [] place x at = absurd cc
has_at (a ∷ xs) zero x at = inl (let e : a ≡ x = cc in e)
has_at (a ∷ xs) (suc place) x at = inr (has_at xs place x at)

pub at_has : {X : Type 0} (xs : List X) (x : X) → Has xs x → (place : ℕ) × (slice_get xs place ≡ Some x)
at_has [] x has = absurd has
at_has (a ∷ xs) x (inl is) = (zero, ap (λ v. Some v) is)
at_has (a ∷ xs) x (inr rest) = let (place, at) = at_has xs x rest in (suc place, at)
