-- What stands before a partition point, and what stands after it, is what a filter keeps.
use Rattle.std.proofs.Common.{◌≡◌, ℕ, zero, suc, ◌+◌, ◌≤◌, Bool, true, false, not, ◌&&◌, cond, List, [], ◌∷◌, length}
use Rattle.std.proofs.Common.{take, drop, refl, ap, ◌∙◌, arith}
use Rattle.std.specs.List.{filter, AllWithin}
use Rattle.std.specs.List.Sorted.{IsPartitionPoint}
use Rattle.std.proofs.lemmas.Bool.Decides.{nat_tests}
use Rattle.i386_reloc.specs.declared.types.Ref.{Ref}
use Rattle.match_instructions.specs.PreCode.{begins_from, begins_before, references_in}

pub take_filter : {X : Type 0} (q : X → Bool) (xs : List X) (i : ℕ) → i ≤ length xs →
    AllWithin (λ x. q x ≡ true) xs 0 i → AllWithin (λ x. q x ≡ false) xs i (length xs) → take i xs ≡ filter q xs
take_filter q [] zero le here behind = refl
take_filter q [] (suc i) le here behind = absurd (omega (arith, le))
take_filter q (x ∷ xs) zero le here behind =
    let first : q x ≡ false = behind 0 x (omega arith) (omega arith) in
    rw first (take_filter q xs zero (omega arith) (λ k d a b. absurd (omega (arith, b)))
    (λ k d a b. behind (suc k) d (omega arith) (omega (arith, b))))
take_filter q (x ∷ xs) (suc i) le here behind =
    let first : q x ≡ true = here 0 x (omega arith) (omega arith) in
    rw first (ap (λ (ys : List _). x ∷ ys) (take_filter q xs i (omega (arith, le))
    (λ k d a b. here (suc k) d (omega arith) (omega (arith, b)))
    (λ k d a b. behind (suc k) d (omega (arith, a)) (omega (arith, b)))))

pub drop_filter : {X : Type 0} (p q : X → Bool) → ((x : X) → p x ≡ not (q x)) → (xs : List X) (i : ℕ) → i ≤ length xs →
    AllWithin (λ x. q x ≡ true) xs 0 i → AllWithin (λ x. q x ≡ false) xs i (length xs) → drop i xs ≡ filter p xs
drop_filter p q other [] zero le here behind = refl
drop_filter p q other [] (suc i) le here behind = absurd (omega (arith, le))
drop_filter p q other (x ∷ xs) zero le here behind =
    let first : p x ≡ true = other x ∙ ap not (behind 0 x (omega arith) (omega arith)) in
    rw first (ap (λ (ys : List _). x ∷ ys) (drop_filter p q other xs zero (omega arith)
    (λ k d a b. absurd (omega (arith, b))) (λ k d a b. behind (suc k) d (omega arith) (omega (arith, b)))))
drop_filter p q other (x ∷ xs) (suc i) le here behind =
    let first : p x ≡ false = other x ∙ ap not (here 0 x (omega arith) (omega arith)) in
    rw first (drop_filter p q other xs i (omega (arith, le))
    (λ k d a b. here (suc k) d (omega arith) (omega (arith, b)))
    (λ k d a b. behind (suc k) d (omega (arith, a)) (omega (arith, b))))

filter_both : {X : Type 0} (p q : X → Bool) (xs : List X) → filter q (filter p xs) ≡ filter (λ x. p x && q x) xs
filter_both p q [] = refl
filter_both p q (x ∷ xs) =
    elim (p x) as (λ b. filter q (cond b (x ∷ filter p xs) (filter p xs))
    ≡ cond (b && q x) (x ∷ filter (λ y. p y && q y) xs) (filter (λ y. p y && q y) xs)) [
      | true ↦ elim (q x) as (λ b. cond b (x ∷ filter q (filter p xs)) (filter q (filter p xs))
          ≡ cond b (x ∷ filter (λ y. p y && q y) xs) (filter (λ y. p y && q y) xs)) [
            | true ↦ ap (λ (ys : List _). x ∷ ys) (filter_both p q xs)
            | false ↦ filter_both p q xs
          ]
      | false ↦ filter_both p q xs
    ]

pub from_is : (offset : ℕ) (r : Ref) → begins_from offset r ≡ not (begins_before offset r)
from_is offset r = grind (arith, nat_tests)

pub in_both : (refs : List Ref) (offset n : ℕ) →
    filter (begins_before (offset + n)) (filter (begins_from offset) refs) ≡ references_in refs offset n
in_both refs offset n = filter_both (begins_from offset) (begins_before (offset + n)) refs

pub before_point : (refs : List Ref) (offset i : ℕ) → i ≤ length refs →
    IsPartitionPoint (λ (r : Ref). begins_before offset r ≡ true) (λ (r : Ref). begins_before offset r ≡ false) refs i →
    take i refs ≡ filter (begins_before offset) refs
before_point refs offset i le point = take_filter (begins_before offset) refs i le point.0 point.1

pub from_point : (refs : List Ref) (offset i : ℕ) → i ≤ length refs →
    IsPartitionPoint (λ (r : Ref). begins_before offset r ≡ true) (λ (r : Ref). begins_before offset r ≡ false) refs i →
    drop i refs ≡ filter (begins_from offset) refs
from_point refs offset i le point =
    drop_filter (begins_from offset) (begins_before offset) (from_is offset) refs i le point.0 point.1
