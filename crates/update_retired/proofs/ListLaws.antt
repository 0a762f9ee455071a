-- What holds of lists in which nothing is found, and of which no item is refused.
use Rattle.std.proofs.Common.{◌≡◌, ℕ, zero, suc, ◌<◌, Bool, true, false, cond, List, [], ◌∷◌}
use Rattle.std.proofs.Common.{length, get_or, Option, Some, None, refl, arith}
use Rattle.std.specs.List.{find}
use Rattle.ks_base.specs.declared.refusals.Refusal.{Refusal}
use Rattle.i386_reloc.specs.BelowLaws.{none_first, none_second}
use Rattle.i386_reloc.specs.Refused.{first_among}

-- no item is refused where none among them is
pub among_none : {X : Type 0} (f : X → Option Refusal) (xs : List X) (i : ℕ) (d : X) → first_among f xs ≡ None →
    i < length xs → f (get_or xs i d) ≡ None
among_none f [] i d none within = absurd (omega arith)
among_none f (x ∷ xs) zero d none within = none_first (f x) (first_among f xs) none
among_none f (x ∷ xs) (suc i) d none within =
    among_none f xs i d (none_second (f x) (first_among f xs) none) (omega arith)

-- nothing is found where nothing passes, and nothing passes where nothing is found
pub find_none : {X : Type 0} (p : X → Bool) (xs : List X) (i : ℕ) (d : X) → find p xs ≡ None → i < length xs →
    p (get_or xs i d) ≡ false
find_none p [] i d none within = absurd (omega arith)
find_none p (x ∷ xs) zero d none within =
    elim (p x) as (λ b. cond b (Some x) (find p xs) ≡ None → b ≡ false) [ true ↦ λ e. absurd cc | false ↦ λ e. refl ]
    none
find_none p (x ∷ xs) (suc i) d none within =
    elim (p x) as (λ b. cond b (Some x) (find p xs) ≡ None → p (get_or xs i d) ≡ false) [
      | true ↦ λ e. absurd cc
      | false ↦ λ e. find_none p xs i d e (omega arith)
    ] none
