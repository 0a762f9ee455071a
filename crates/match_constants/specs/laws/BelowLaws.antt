-- Laws of a test of each number below another.
use Rattle.std.proofs.Common.{◌≡◌, ℕ, zero, suc, ◌+◌, ◌<◌, Bool, true, false, ◌&&◌, ◌⊎◌, inl, inr, refl, sym, subst}
use Rattle.std.proofs.Common.{add-one, arith}
use Rattle.match_constants.specs.Constants.{all_below}

last_or_before : (i n : ℕ) → i < suc n → (i < n) ⊎ (i ≡ n)
last_or_before i n lt = grind arith

and_true : (a b : Bool) → a && b ≡ true → (a ≡ true) × (b ≡ true)
and_true true b e = (refl, e)
and_true false b e = absurd cc

pub all_below_at : (p : ℕ → Bool) (n i : ℕ) → all_below p n ≡ true → i < n → p i ≡ true
unfolding all_below
all_below_at p zero i all lt = absurd (omega arith)
all_below_at p (suc n) i all lt =
    let both = and_true (all_below p n) (p n) all in
    elim (last_or_before i n lt) [
      | inl before ↦ all_below_at p n i both.0 before
      | inr last ↦
          subst (λ (k : ℕ). p k ≡ true) (sym last) both.1
    ]

pub all_below_from : (p : ℕ → Bool) (n : ℕ) → ((i : ℕ) → i < n → p i ≡ true) → all_below p n ≡ true
unfolding all_below
all_below_from p zero each = refl
all_below_from p (suc n) each =
    rw (all_below_from p n (λ i lt. each i (omega arith)), each n (omega arith)) refl

and_false : (b : Bool) → b && false ≡ false
and_false true = refl
and_false false = refl

pub all_below_not : (p : ℕ → Bool) (n i : ℕ) → i < n → p i ≡ false → all_below p n ≡ false
unfolding all_below
all_below_not p zero i lt not = absurd (omega arith)
all_below_not p (suc n) i lt not =
    elim (last_or_before i n lt) [
      | inl before ↦ rw (all_below_not p n i before not) refl
      | inr last ↦ rw (subst (λ (k : ℕ). p k ≡ false) last not) (and_false (all_below p n))
    ]

-- one more number passes
pub all_below_more : (p : ℕ → Bool) (n : ℕ) → all_below p (n + 1) ≡ all_below p n && p n
unfolding all_below
all_below_more p n = rw add-one refl
