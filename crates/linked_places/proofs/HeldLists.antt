-- What holds of each two members of a list.
use Rattle.std.proofs.Common.{arith, ◌≡◌, ◌⊎◌, inl, inr, zero, suc, Bool, true, false, cond, List, []}
use Rattle.std.proofs.Common.{◌∷◌, map, sym, subst, ◌∙◌}
use Rattle.std.specs.List.{All, AllPairs, filter}
use Rattle.linked_places.proofs.Members.{Has, all_has, filter_has, has_map}

abbrev pub Pairs : {X : Type 0} → (X → X → Type 0) → List X → Type 0
Pairs R [] = Unit {0}
Pairs {X} R (a ∷ xs) = ((y : X) → Has xs y → R a y) × Pairs R xs

pub pairs_filter : {X : Type 0} (p : X → Bool) (R : X → X → Type 0) (xs : List X) → Pairs R xs →
    Pairs R (filter p xs)
pairs_filter p R [] pairs = tt
pairs_filter {X} p R (a ∷ xs) pairs = by (p a) (pairs_filter p R xs pairs.1)
  where
    by : (b : Bool) → Pairs R (filter p xs) → Pairs R (cond b (a ∷ filter p xs) (filter p xs))
    by true rest = (λ y has. pairs.0 y (filter_has p xs y has).0, rest)
    by false rest = rest

pub two_of : {X : Type 0} (R : X → X → Type 0) (xs : List X) (a b : X) → Pairs R xs → Has xs a → Has xs b →
    (a ≡ b) ⊎ (R a b ⊎ R b a)
two_of R [] a b pairs has_a has_b = absurd has_a
two_of R (x ∷ xs) a b pairs (inl is_a) (inl is_b) = inl (sym is_a ∙ is_b)
two_of R (x ∷ xs) a b pairs (inl is_a) (inr in_b) = inr (inl (subst (λ y. R y b) is_a (pairs.0 b in_b)))
two_of R (x ∷ xs) a b pairs (inr in_a) (inl is_b) = inr (inr (subst (λ y. R y a) is_b (pairs.0 a in_a)))
two_of R (x ∷ xs) a b pairs (inr in_a) (inr in_b) = two_of R xs a b pairs.1 in_a in_b

pairs_head : {X : Type 0} (R : X → X → Type 0) (a : X) (xs : List X) → AllPairs R (a ∷ xs) → All (R a) xs
pairs_head R a xs all k d less = all zero (suc k) d (omega arith) (omega arith)

pairs_tail : {X : Type 0} (R : X → X → Type 0) (a : X) (xs : List X) → AllPairs R (a ∷ xs) → AllPairs R xs
pairs_tail R a xs all i j d less within = all (suc i) (suc j) d (omega arith) (omega arith)

pub pairs_of : {X : Type 0} (R : X → X → Type 0) (xs : List X) → AllPairs R xs → Pairs R xs
pairs_of R [] all = tt
pairs_of R (a ∷ xs) all =
    (λ y has. all_has (R a) xs y (pairs_head R a xs all) has, pairs_of R xs (pairs_tail R a xs all))

pub map_pairs : {X Y : Type 0} (f : X → Y) (R : Y → Y → Type 0) (xs : List X) → Pairs R (map f xs) →
    Pairs (λ a b. R (f a) (f b)) xs
map_pairs f R [] pairs = tt
map_pairs f R (a ∷ xs) pairs = (λ y has. pairs.0 (f y) (has_map f xs y has), map_pairs f R xs pairs.1)
