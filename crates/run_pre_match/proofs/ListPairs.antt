-- Lists of which each element stands in a relation to each behind it.
use Rattle.std.proofs.Common.{◌≡◌, zero, suc, List, [], ◌∷◌, ◌++◌, map, get_or, Option, Some, None, All, refl, arith}
use Rattle.std.specs.List.{AllPairs, cons_option, filter_map, flat_map}
use Rattle.std.proofs.lemmas.List.Elements.{All-head, All-tail, All-weaker, All-append, All-map}
use Rattle.std.proofs.lemmas.List.Kept.{AllPairs-cons}
use Rattle.run_pre_match.proofs.ListParts.{SaysAll, all_flat, all_said}

pub pairs_nil : {X : Type 0} (R : X → X → Type 0) → AllPairs R []
pairs_nil R = λ i j d lt within. absurd (omega arith)

pub pairs_head : {X : Type 0} (R : X → X → Type 0) (x : X) (xs : List X) → AllPairs R (x ∷ xs) → All (R x) xs
pairs_head R x xs all = λ k d within. all zero (suc k) d (omega arith) (omega arith)

pub pairs_tail : {X : Type 0} (R : X → X → Type 0) (x : X) (xs : List X) → AllPairs R (x ∷ xs) → AllPairs R xs
pairs_tail R x xs all = λ i j d lt within. all (suc i) (suc j) d (omega arith) (omega arith)

pub pairs_weaker : {X : Type 0} (R S : X → X → Type 0) → ((x y : X) → R x y → S x y) → (xs : List X) →
    AllPairs R xs → AllPairs S xs
pairs_weaker R S weaker xs all = λ i j d lt within. weaker (get_or xs i d) (get_or xs j d) (all i j d lt within)

pub pairs_append : {X : Type 0} (R : X → X → Type 0) (xs ys : List X) → AllPairs R xs → AllPairs R ys →
    All (λ x. All (R x) ys) xs → AllPairs R (xs ++ ys)
pairs_append R [] ys first second across = second
pairs_append R (x ∷ xs) ys first second across =
    AllPairs-cons R x (xs ++ ys)
    (All-append (R x) xs ys (pairs_head R x xs first) (All-head (λ x. All (R x) ys) x xs across))
    (pairs_append R xs ys (pairs_tail R x xs first) second (All-tail (λ x. All (R x) ys) x xs across))

pub pairs_map : {X Y : Type 0} (R : Y → Y → Type 0) (f : X → Y) (xs : List X) → AllPairs (λ x y. R (f x) (f y)) xs →
    AllPairs R (map f xs)
pairs_map R f [] all = pairs_nil R
pairs_map R f (x ∷ xs) all =
    AllPairs-cons R (f x) (map f xs) (All-map (R (f x)) f xs (pairs_head (λ x y. R (f x) (f y)) x xs all))
    (pairs_map R f xs (pairs_tail (λ x y. R (f x) (f y)) x xs all))

across_flat : {X Y : Type 0} (R : Y → Y → Type 0) (f : X → List Y) (ys : List Y) (xs : List X) →
    All (λ x. All (λ y. All (R y) (f x)) ys) xs → All (λ y. All (R y) (flat_map f xs)) ys
across_flat R f ys xs all = λ k d lt. all_flat (R (get_or ys k d)) f xs (λ j e within. all j e within k d lt)

-- of lists in a row, by each of them and by each two
pub pairs_flat : {X Y : Type 0} (R : Y → Y → Type 0) (f : X → List Y) (xs : List X) → All (λ x. AllPairs R (f x)) xs →
    AllPairs (λ x other. All (λ y. All (R y) (f other)) (f x)) xs → AllPairs R (flat_map f xs)
pairs_flat R f [] each all = pairs_nil R
pairs_flat R f (x ∷ xs) each all =
    pairs_append R (f x) (flat_map f xs) (All-head (λ x. AllPairs R (f x)) x xs each)
    (pairs_flat R f xs (All-tail (λ x. AllPairs R (f x)) x xs each)
    (pairs_tail (λ x other. All (λ y. All (R y) (f other)) (f x)) x xs all))
    (across_flat R f (f x) xs (pairs_head (λ x other. All (λ y. All (R y) (f other)) (f x)) x xs all))

kept_pairs : {Y : Type 0} (S : Y → Y → Type 0) (ys : List Y) (o : Option Y) → ((y : Y) → o ≡ Some y → All (S y) ys) →
    AllPairs S ys → AllPairs S (cons_option o ys)
kept_pairs S ys None here all = all
kept_pairs S ys (Some y) here all = AllPairs-cons S y ys (here y refl) all

-- of what is said
pub pairs_said : {X Y : Type 0} (R : X → X → Type 0) (S : Y → Y → Type 0) (f : X → Option Y) →
    ((x y : X) (a b : Y) → f x ≡ Some a → f y ≡ Some b → R x y → S a b) → (xs : List X) → AllPairs R xs →
    AllPairs S (filter_map f xs)
pairs_said R S f gives [] all = pairs_nil S
pairs_said R S f gives (x ∷ xs) all =
    kept_pairs S (filter_map f xs) (f x)
    (λ a is. all_said (S a) f xs
    (All-weaker (R x) (SaysAll (S a) f) (λ y r b e. gives x y a b is e r) xs (pairs_head R x xs all)))
    (pairs_said R S f gives xs (pairs_tail R x xs all))
