-- Members of lists, and what holds of each two of them.
use Rattle.std.proofs.Common.{arith, ◌≡◌, ◌⊎◌, inl, inr, zero, suc, Bool, true, false, cond, ◌||◌, List, []}
use Rattle.std.proofs.Common.{◌∷◌, ◌++◌, map, Option, Some, None, refl, sym, ap, subst, ◌∙◌}
use Rattle.std.specs.List.{All, AllByRecursion, AllPairs, Any, Contains, cons_option, filter, filter_map, find}
use Rattle.std.specs.List.{flat_map, list_any}
use Rattle.std.proofs.lemmas.Bool.{false_from_ne_true}
use Rattle.std.proofs.lemmas.List.Elements.{All-nil, All-cons, All-head, All-tail}
use Rattle.ks_base.specs.declared.refusals.Refusal.{Refusal}
use Rattle.i386_reloc.specs.BelowLaws.{none_first, none_second}
use Rattle.i386_reloc.specs.Refused.{first_among}

abbrev pub Has : {X : Type 0} → List X → X → Type 0
Has [] x = ⊥
Has (a ∷ xs) x = (a ≡ x) ⊎ Has xs x

pub contained : {X : Type 0} (xs : List X) (x : X) → Has xs x → Contains xs x
contained [] x has = absurd has
contained (a ∷ xs) x (inl is) = (zero, omega arith, is)
contained (a ∷ xs) x (inr rest) =
    let (k, within, is) = contained xs x rest in
    (suc k, omega (arith, within), is)

pub has_of : {X : Type 0} (xs : List X) (x : X) → Contains xs x → Has xs x
has_of [] x (k, within, is) = absurd (omega (arith, within))
has_of (a ∷ xs) x (zero, within, is) = inl is
has_of (a ∷ xs) x (suc k, within, is) = inr (has_of xs x (k, omega (arith, within), is))

pub some_has : {X : Type 0} (P : X → Type 0) (xs : List X) → Any P xs → (x : X) × Has xs x × P x
some_has P xs (k, x, within, is, here) = (x, has_of xs x (k, within, is), here)

pub some_of : {X : Type 0} (P : X → Type 0) (xs : List X) (x : X) → Has xs x → P x → Any P xs
some_of P xs x has here =
    let (k, within, is) = contained xs x has in
    (k, x, within, is, here)

pub all_has : {X : Type 0} (P : X → Type 0) (xs : List X) (x : X) → All P xs → Has xs x → P x
all_has P [] x all has = absurd has
all_has P (a ∷ xs) x all (inl is) = subst P is (All-head P a xs all)
all_has P (a ∷ xs) x all (inr rest) = all_has P xs x (All-tail P a xs all) rest

pub all_of : {X : Type 0} (P : X → Type 0) (xs : List X) → ((x : X) → Has xs x → P x) → All P xs
all_of P [] each = All-nil P
all_of P (a ∷ xs) each = All-cons P a xs (each a (inl refl)) (all_of P xs (λ x has. each x (inr has)))

pub each_has : {X : Type 0} (P : X → Type 0) (xs : List X) (x : X) → AllByRecursion P xs → Has xs x → P x
each_has P [] x each has = absurd has
each_has P (a ∷ xs) x each (inl is) = subst P is each.0
each_has P (a ∷ xs) x each (inr rest) = each_has P xs x each.1 rest

pub each_of : {X : Type 0} (P : X → Type 0) (xs : List X) → ((x : X) → Has xs x → P x) → AllByRecursion P xs
each_of P [] each = tt
each_of P (a ∷ xs) each = (each a (inl refl), each_of P xs (λ x has. each x (inr has)))

-- ---- tests
pub any_has : {X : Type 0} (p : X → Bool) (xs : List X) (x : X) → Has xs x → p x ≡ true → list_any p xs ≡ true
any_has p [] x has pass = absurd has
any_has p (a ∷ xs) x (inl is) pass = ap (λ b. b || list_any p xs) (ap p is ∙ pass)
any_has {X} p (a ∷ xs) x (inr rest) pass = by (p a) (any_has p xs x rest pass)
  where
    by : (b : Bool) → list_any p xs ≡ true → (b || list_any p xs) ≡ true
    by true later = refl
    by false later = later

pub has_any : {X : Type 0} (p : X → Bool) (xs : List X) → list_any p xs ≡ true → (x : X) × Has xs x × (p x ≡ true)
has_any p [] any = absurd cc
has_any {X} p (a ∷ xs) any = by (p a) refl (has_any p xs) any
  where
    by : (b : Bool) → p a ≡ b → (list_any p xs ≡ true → (x : X) × Has xs x × (p x ≡ true)) →
        (b || list_any p xs) ≡ true → (x : X) × Has (a ∷ xs) x × (p x ≡ true)
    by true is later here = (a, inl refl, is)
    by false is later rest = let (x, has, pass) = later rest in (x, inr has, pass)

pub any_false : {X : Type 0} (p : X → Bool) (xs : List X) (x : X) → list_any p xs ≡ false → Has xs x → p x ≡ false
any_false p xs x none has =
    false_from_ne_true (p x) (λ pass. let some = any_has p xs x has pass in cc)

pub any_none : {X : Type 0} (p : X → Bool) (xs : List X) → ((x : X) → Has xs x → p x ≡ false) → list_any p xs ≡ false
any_none p [] none = refl
any_none p (a ∷ xs) none =
    ap (λ b. b || list_any p xs) (none a (inl refl)) ∙ any_none p xs (λ x has. none x (inr has))

-- ---- the first that passes
pub found_has : {X : Type 0} (p : X → Bool) (xs : List X) (x : X) → find p xs ≡ Some x → Has xs x × (p x ≡ true)
found_has p [] x is = absurd cc
found_has {X} p (a ∷ xs) x is = by (p a) refl (found_has p xs x) is
  where
    by : (b : Bool) → p a ≡ b → (find p xs ≡ Some x → Has xs x × (p x ≡ true)) →
        cond b (Some a) (find p xs) ≡ Some x → Has (a ∷ xs) x × (p x ≡ true)
    by true pass later here = let same : a ≡ x = cc in (inl same, ap p (sym same) ∙ pass)
    by false pass later rest = let both = later rest in (inr both.0, both.1)

pub has_found : {X : Type 0} (p : X → Bool) (xs : List X) (x : X) → Has xs x → p x ≡ true →
    (y : X) × (find p xs ≡ Some y)
has_found p [] x has pass = absurd has
has_found {X} p (a ∷ xs) x (inl is) pass = (a, ap (λ b. cond b (Some a) (find p xs)) (ap p is ∙ pass))
has_found {X} p (a ∷ xs) x (inr rest) pass = by (p a) (has_found p xs x rest pass)
  where
    by : (b : Bool) → (y : X) × (find p xs ≡ Some y) → (y : X) × (cond b (Some a) (find p xs) ≡ Some y)
    by true later = (a, refl)
    by false later = later

-- no item is refused where none among them is
pub none_has : {X : Type 0} (f : X → Option Refusal) (xs : List X) (x : X) → first_among f xs ≡ None → Has xs x →
    f x ≡ None
none_has f [] x none has = absurd has
none_has f (a ∷ xs) x none (inl is) = ap f (sym is) ∙ none_first (f a) (first_among f xs) none
none_has f (a ∷ xs) x none (inr rest) = none_has f xs x (none_second (f a) (first_among f xs) none) rest

-- ---- lists that are made of others
pub has_map : {X Y : Type 0} (f : X → Y) (xs : List X) (x : X) → Has xs x → Has (map f xs) (f x)
has_map f [] x has = absurd has
has_map f (a ∷ xs) x (inl is) = inl (ap f is)
has_map f (a ∷ xs) x (inr rest) = inr (has_map f xs x rest)

pub map_has : {X Y : Type 0} (f : X → Y) (xs : List X) (y : Y) → Has (map f xs) y → (x : X) × Has xs x × (f x ≡ y)
map_has f [] y has = absurd has
map_has f (a ∷ xs) y (inl is) = (a, inl refl, is)
map_has f (a ∷ xs) y (inr rest) = let (x, has, is) = map_has f xs y rest in (x, inr has, is)

pub has_filter : {X : Type 0} (p : X → Bool) (xs : List X) (x : X) → Has xs x → p x ≡ true → Has (filter p xs) x
has_filter p [] x has pass = absurd has
has_filter {X} p (a ∷ xs) x (inl is) pass =
    subst (λ b. Has (cond b (a ∷ filter p xs) (filter p xs)) x) (sym (ap p is ∙ pass)) (inl is)
has_filter {X} p (a ∷ xs) x (inr rest) pass = by (p a) (has_filter p xs x rest pass)
  where
    by : (b : Bool) → Has (filter p xs) x → Has (cond b (a ∷ filter p xs) (filter p xs)) x
    by true later = inr later
    by false later = later

pub filter_has : {X : Type 0} (p : X → Bool) (xs : List X) (x : X) → Has (filter p xs) x → Has xs x × (p x ≡ true)
filter_has p [] x has = absurd has
filter_has {X} p (a ∷ xs) x has = by (p a) refl (filter_has p xs x) has
  where
    by : (b : Bool) → p a ≡ b → (Has (filter p xs) x → Has xs x × (p x ≡ true)) →
        Has (cond b (a ∷ filter p xs) (filter p xs)) x → Has (a ∷ xs) x × (p x ≡ true)
    by true is later (inl here) = (inl here, ap p (sym here) ∙ is)
    by true is later (inr rest) = let both = later rest in (inr both.0, both.1)
    by false is later rest = let both = later rest in (inr both.0, both.1)

pub has_left : {X : Type 0} (xs ys : List X) (x : X) → Has xs x → Has (xs ++ ys) x
has_left [] ys x has = absurd has
has_left (a ∷ xs) ys x (inl is) = inl is
has_left (a ∷ xs) ys x (inr rest) = inr (has_left xs ys x rest)

pub has_right : {X : Type 0} (xs ys : List X) (x : X) → Has ys x → Has (xs ++ ys) x
has_right [] ys x has = has
has_right (a ∷ xs) ys x has = inr (has_right xs ys x has)

pub has_either : {X : Type 0} (xs ys : List X) (x : X) → Has (xs ++ ys) x → Has xs x ⊎ Has ys x
has_either [] ys x has = inr has
has_either (a ∷ xs) ys x (inl is) = inl (inl is)
has_either (a ∷ xs) ys x (inr rest) = elim (has_either xs ys x rest) [ inl h ↦ inl (inr h) | inr h ↦ inr h ]

pub has_flat : {X Y : Type 0} (f : X → List Y) (xs : List X) (x : X) (y : Y) → Has xs x → Has (f x) y →
    Has (flat_map f xs) y
has_flat f [] x y has inner = absurd has
has_flat f (a ∷ xs) x y (inl is) inner =
    has_left (f a) (flat_map f xs) y (subst (λ z. Has (f z) y) (sym is) inner)
has_flat f (a ∷ xs) x y (inr rest) inner = has_right (f a) (flat_map f xs) y (has_flat f xs x y rest inner)

pub flat_has : {X Y : Type 0} (f : X → List Y) (xs : List X) (y : Y) → Has (flat_map f xs) y →
    (x : X) × Has xs x × Has (f x) y
flat_has f [] y has = absurd has
flat_has {X} {Y} f (a ∷ xs) y has = by (has_either (f a) (flat_map f xs) y has) (flat_has f xs y)
  where
    by : Has (f a) y ⊎ Has (flat_map f xs) y → (Has (flat_map f xs) y → (x : X) × Has xs x × Has (f x) y) →
        (x : X) × Has (a ∷ xs) x × Has (f x) y
    by (inl here) later = (a, inl refl, here)
    by (inr rest) later = let (x, has_x, inner) = later rest in (x, inr has_x, inner)

pub has_kept : {X Y : Type 0} (f : X → Option Y) (xs : List X) (x : X) (y : Y) → Has xs x → f x ≡ Some y →
    Has (filter_map f xs) y
has_kept f [] x y has is = absurd has
has_kept f (a ∷ xs) x y (inl same) is =
    subst (λ o. Has (cons_option o (filter_map f xs)) y) (sym (ap f same ∙ is)) (inl refl)
has_kept {X} {Y} f (a ∷ xs) x y (inr rest) is = by (f a) (has_kept f xs x y rest is)
  where
    by : (o : Option Y) → Has (filter_map f xs) y → Has (cons_option o (filter_map f xs)) y
    by (Some z) later = inr later
    by None later = later

pub kept_has : {X Y : Type 0} (f : X → Option Y) (xs : List X) (y : Y) → Has (filter_map f xs) y →
    (x : X) × Has xs x × (f x ≡ Some y)
kept_has f [] y has = absurd has
kept_has {X} {Y} f (a ∷ xs) y has = by (f a) refl (kept_has f xs y) has
  where
    by : (o : Option Y) → f a ≡ o → (Has (filter_map f xs) y → (x : X) × Has xs x × (f x ≡ Some y)) →
        Has (cons_option o (filter_map f xs)) y → (x : X) × Has (a ∷ xs) x × (f x ≡ Some y)
    by (Some z) is later (inl here) = (a, inl refl, is ∙ ap (λ v. Some v) here)
    by (Some z) is later (inr rest) = let (x, has_x, inner) = later rest in (x, inr has_x, inner)
    by None is later rest = let (x, has_x, inner) = later rest in (x, inr has_x, inner)

-- ---- each two items, the earlier one first
abbrev pub Pairs : {X : Type 0} → (X → X → Type 0) → List X → Type 0
Pairs R [] = Unit {0}
Pairs {X} R (a ∷ xs) = ((y : X) → Has xs y → R a y) × Pairs R xs

pairs_cons : {X : Type 0} (R : X → X → Type 0) (a : X) (xs : List X) → All (R a) xs → AllPairs R xs →
    AllPairs R (a ∷ xs)
pairs_cons R a xs first rest i zero d less within = absurd (omega arith)
pairs_cons R a xs first rest zero (suc j) d less within = first j d (omega arith)
pairs_cons R a xs first rest (suc i) (suc j) d less within = rest i j d (omega arith) (omega arith)

pub all_pairs : {X : Type 0} (R : X → X → Type 0) (xs : List X) → Pairs R xs → AllPairs R xs
all_pairs R [] pairs = λ i j d less within. absurd (omega arith)
all_pairs R (a ∷ xs) pairs = pairs_cons R a xs (all_of (R a) xs pairs.0) (all_pairs R xs pairs.1)

pairs_head : {X : Type 0} (R : X → X → Type 0) (a : X) (xs : List X) → AllPairs R (a ∷ xs) → All (R a) xs
pairs_head R a xs all k d less = all zero (suc k) d (omega arith) (omega arith)

pairs_tail : {X : Type 0} (R : X → X → Type 0) (a : X) (xs : List X) → AllPairs R (a ∷ xs) → AllPairs R xs
pairs_tail R a xs all i j d less within = all (suc i) (suc j) d (omega arith) (omega arith)

pub pairs_of : {X : Type 0} (R : X → X → Type 0) (xs : List X) → AllPairs R xs → Pairs R xs
pairs_of R [] all = tt
pairs_of R (a ∷ xs) all =
    (λ y has. all_has (R a) xs y (pairs_head R a xs all) has, pairs_of R xs (pairs_tail R a xs all))

pub pairs_map : {X Y : Type 0} (f : X → Y) (R : Y → Y → Type 0) (xs : List X) →
    Pairs (λ a b. R (f a) (f b)) xs → Pairs R (map f xs)
pairs_map f R [] pairs = tt
pairs_map f R (a ∷ xs) pairs = (
  λ y has. let (x, has_x, is) = map_has f xs y has in subst (R (f a)) is (pairs.0 x has_x),
  pairs_map f R xs pairs.1,
)

pub map_pairs : {X Y : Type 0} (f : X → Y) (R : Y → Y → Type 0) (xs : List X) → Pairs R (map f xs) →
    Pairs (λ a b. R (f a) (f b)) xs
map_pairs f R [] pairs = tt
map_pairs f R (a ∷ xs) pairs = (λ y has. pairs.0 (f y) (has_map f xs y has), map_pairs f R xs pairs.1)

pub pairs_filter : {X : Type 0} (p : X → Bool) (R : X → X → Type 0) (xs : List X) → Pairs R xs →
    Pairs R (filter p xs)
pairs_filter p R [] pairs = tt
pairs_filter {X} p R (a ∷ xs) pairs = by (p a) (pairs_filter p R xs pairs.1)
  where
    by : (b : Bool) → Pairs R (filter p xs) → Pairs R (cond b (a ∷ filter p xs) (filter p xs))
    by true rest = (λ y has. pairs.0 y (filter_has p xs y has).0, rest)
    by false rest = rest

-- at most one item
abbrev pub IsShort : {X : Type 0} → List X → Type 0
IsShort [] = Unit {0}
IsShort (a ∷ []) = Unit {0}
IsShort (a ∷ b ∷ rest) = ⊥

pairs_short : {X : Type 0} (R : X → X → Type 0) (xs ys : List X) → IsShort xs →
    ((x y : X) → Has xs x → Has ys y → R x y) → Pairs R ys → Pairs R (xs ++ ys)
pairs_short R [] ys short both rest = rest
pairs_short R (a ∷ []) ys short both rest = (λ y has. both a y (inl refl) has, rest)
pairs_short R (a ∷ b ∷ xs) ys short both rest = absurd short

pub pairs_flat : {X Y : Type 0} (R : X → X → Type 0) (S : Y → Y → Type 0) (f : X → List Y) →
    ((x : X) → IsShort (f x)) → ((a b : X) (y z : Y) → Has (f a) y → Has (f b) z → R a b → S y z) →
    (xs : List X) → Pairs R xs → Pairs S (flat_map f xs)
pairs_flat R S f short keeps [] pairs = tt
pairs_flat R S f short keeps (a ∷ xs) pairs =
    pairs_short S (f a) (flat_map f xs) (short a)
    (λ y z has_y has_z.
    let (b, has_b, inner) = flat_has f xs z has_z in keeps a b y z has_y inner (pairs.0 b has_b))
    (pairs_flat R S f short keeps xs pairs.1)

pub pairs_kept : {X Y : Type 0} (R : X → X → Type 0) (S : Y → Y → Type 0) (f : X → Option Y) (xs : List X) →
    ((a b : X) (y z : Y) → Has xs a → Has xs b → f a ≡ Some y → f b ≡ Some z → R a b → S y z) → Pairs R xs →
    Pairs S (filter_map f xs)
pairs_kept R S f [] keeps pairs = tt
pairs_kept {X} {Y} R S f (a ∷ xs) keeps pairs =
    by (f a) refl
    (pairs_kept R S f xs (λ b c y z has_b has_c. keeps b c y z (inr has_b) (inr has_c)) pairs.1)
  where
    by : (o : Option Y) → f a ≡ o → Pairs S (filter_map f xs) → Pairs S (cons_option o (filter_map f xs))
    by (Some y) is rest = (
      λ z has.
          let (b, has_b, at) = kept_has f xs z has in
          keeps a b y z (inl refl) (inr has_b) is at (pairs.0 b has_b),
      rest,
    )
    by None is rest = rest

-- two items are one, or one stands before the other
pub two_of : {X : Type 0} (R : X → X → Type 0) (xs : List X) (a b : X) → Pairs R xs → Has xs a → Has xs b →
    (a ≡ b) ⊎ (R a b ⊎ R b a)
two_of R [] a b pairs has_a has_b = absurd has_a
two_of R (x ∷ xs) a b pairs (inl is_a) (inl is_b) = inl (sym is_a ∙ is_b)
two_of R (x ∷ xs) a b pairs (inl is_a) (inr in_b) = inr (inl (subst (λ y. R y b) is_a (pairs.0 b in_b)))
two_of R (x ∷ xs) a b pairs (inr in_a) (inl is_b) = inr (inr (subst (λ y. R y a) is_b (pairs.0 a in_a)))
two_of R (x ∷ xs) a b pairs (inr in_a) (inr in_b) = two_of R xs a b pairs.1 in_a in_b
