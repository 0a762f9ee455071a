-- What holds of each element of a list that is made of others.
use Rattle.std.proofs.Common.{◌≡◌, List, [], ◌∷◌, ◌++◌, map, Option, Some, None, All, refl, subst}
use Rattle.std.specs.List.{Contains, cons_option, filter_map, flat_map}
use Rattle.std.proofs.lemmas.List.Elements.{All-nil, All-cons, All-head, All-tail, All-append, All-contains}
use Rattle.std.proofs.lemmas.List.Elements.{All-contains_itself}

-- what holds of each of some lists in a row holds of each list
pub front : {X : Type 0} (P : X → Type 0) (xs ys : List X) → All P (xs ++ ys) → All P xs
front P [] ys all = All-nil P
front P (x ∷ xs) ys all = All-cons P x xs (All-head P x (xs ++ ys) all) (front P xs ys (All-tail P x (xs ++ ys) all))

pub behind : {X : Type 0} (P : X → Type 0) (xs ys : List X) → All P (xs ++ ys) → All P ys
behind P [] ys all = all
behind P (x ∷ xs) ys all = behind P xs ys (All-tail P x (xs ++ ys) all)

pub each_of : {X Y : Type 0} (P : Y → Type 0) (f : X → List Y) (xs : List X) → All P (flat_map f xs) →
    All (λ x. All P (f x)) xs
each_of P f [] all = All-nil (λ x. All P (f x))
each_of P f (x ∷ xs) all = All-cons (λ x. All P (f x)) x xs (front P (f x) (flat_map f xs) all)
    (each_of P f xs (behind P (f x) (flat_map f xs) all))

pub all_flat : {X Y : Type 0} (P : Y → Type 0) (f : X → List Y) (xs : List X) → All (λ x. All P (f x)) xs →
    All P (flat_map f xs)
all_flat P f [] all = All-nil P
all_flat P f (x ∷ xs) all =
    All-append P (f x) (flat_map f xs) (All-head (λ x. All P (f x)) x xs all)
    (all_flat P f xs (All-tail (λ x. All P (f x)) x xs all))

pub unmapped : {X Y : Type 0} (P : Y → Type 0) (f : X → Y) (xs : List X) → All P (map f xs) → All (λ x. P (f x)) xs
unmapped P f [] all = All-nil (λ x. P (f x))
unmapped P f (x ∷ xs) all = All-cons (λ x. P (f x)) x xs (All-head P (f x) (map f xs) all)
    (unmapped P f xs (All-tail P (f x) (map f xs) all))

-- what is said by all that say something
abbrev pub SaysAll : {X Y : Type 0} → (Y → Type 0) → (X → Option Y) → X → Type 0
SaysAll {X} {Y} P f x = (y : Y) → f x ≡ Some y → P y

said_at : {X Y : Type 0} (P : Y → Type 0) (f : X → Option Y) (x : X) (xs : List X) (o : Option Y) → f x ≡ o →
    (All P (filter_map f xs) → All (SaysAll P f) xs) →
    All P (cons_option o (filter_map f xs)) → All (SaysAll P f) (x ∷ xs)
said_at P f x xs None is rest all = All-cons (SaysAll P f) x xs (λ y e. absurd (cc (is, e))) (rest all)
said_at P f x xs (Some z) is rest all =
    All-cons (SaysAll P f) x xs (λ y e. subst P (let same : z ≡ y = cc (is, e) in same)
    (All-head P z (filter_map f xs) all)) (rest (All-tail P z (filter_map f xs) all))

pub each_said : {X Y : Type 0} (P : Y → Type 0) (f : X → Option Y) (xs : List X) → All P (filter_map f xs) →
    All (SaysAll P f) xs
each_said P f [] all = All-nil (SaysAll P f)
each_said P f (x ∷ xs) all = said_at P f x xs (f x) refl (each_said P f xs) all

saying : {Y : Type 0} (P : Y → Type 0) (ys : List Y) (o : Option Y) → ((y : Y) → o ≡ Some y → P y) → All P ys →
    All P (cons_option o ys)
saying P ys None here all = all
saying P ys (Some y) here all = All-cons P y ys (here y refl) all

pub all_said : {X Y : Type 0} (P : Y → Type 0) (f : X → Option Y) (xs : List X) → All (SaysAll P f) xs →
    All P (filter_map f xs)
all_said P f [] all = All-nil P
all_said P f (x ∷ xs) all = saying P (filter_map f xs) (f x) (All-head (SaysAll P f) x xs all)
    (all_said P f xs (All-tail (SaysAll P f) x xs all))

pub contains_said : {X Y : Type 0} (f : X → Option Y) (xs : List X) (x : X) (y : Y) → Contains xs x → f x ≡ Some y →
    Contains (filter_map f xs) y
contains_said f xs x y has is =
    All-contains (SaysAll (Contains (filter_map f xs)) f) xs x
    (each_said (Contains (filter_map f xs)) f xs (All-contains_itself (filter_map f xs))) has y is
