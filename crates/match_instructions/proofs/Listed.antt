-- The instructions from a place on, whatever number is allowed of them, where each one has a byte and ends at a bound
-- or before.
use Rattle.std.proofs.Common.{◌≡◌, ℕ, zero, suc, ◌+◌, ◌-◌, ◌<◌, ◌≤◌, List, [], ◌∷◌, Option, Some, None, refl, sym, ap}
use Rattle.std.proofs.Common.{◌∙◌, ◌⊎◌, inl, inr, arith}
use Rattle.match_instructions.specs.Instructions.{Instruction, after, listed, listed_on}

pub record AreWithin (there : ℕ → Option Instruction) (bound : ℕ) : Type 0 where
  pub each : (place : ℕ) (i : Instruction) → there place ≡ Some i → (place < after i) × (after i ≤ bound)

-- what is listed from a place on
abbrev pub rest_from : (ℕ → Option Instruction) → ℕ → ℕ → List Instruction
rest_from there bound place = listed there (bound - place) place

pub none_or_some : {X : Type 0} (o : Option X) → (o ≡ None) ⊎ ((x : X) × (o ≡ Some x))
none_or_some None = inl refl
none_or_some (Some x) = inr (x, refl)

pub nothing_listed : (there : ℕ → Option Instruction) (n place : ℕ) → there place ≡ None → listed there n place ≡ []
unfolding listed
nothing_listed there zero place none = refl
nothing_listed there (suc n) place none = ap (λ o. listed_on o (listed there n)) none

listed_more : (there : ℕ → Option Instruction) (n place : ℕ) (i : Instruction) → there place ≡ Some i →
    listed there (suc n) place ≡ i ∷ listed there n (after i)
unfolding listed
listed_more there n place i found = ap (λ o. listed_on o (listed there n)) found

listed_none : (there : ℕ → Option Instruction) (place : ℕ) → listed there zero place ≡ []
unfolding listed
listed_none there place = refl

none_behind : (there : ℕ → Option Instruction) (bound : ℕ) → AreWithin there bound → (place : ℕ) → bound ≤ place →
    there place ≡ None
none_behind there bound within place behind =
    elim (none_or_some (there place)) [
      | inl none ↦ none
      | inr it ↦ let ends = within.each place it.0 it.1 in absurd (omega (arith, ends.0, ends.1, behind))
    ]

-- as many as there may be are enough
listed_enough : (there : ℕ → Option Instruction) (bound : ℕ) → AreWithin there bound → (m n place : ℕ) →
    bound ≤ m + place → bound ≤ n + place → listed there m place ≡ listed there n place
listed_enough there bound within zero n place a b =
    listed_none there place ∙ sym (nothing_listed there n place
    (none_behind there bound within place (omega (arith, a))))
listed_enough there bound within (suc m) zero place a b =
    nothing_listed there (suc m) place (none_behind there bound within place (omega (arith, b)))
    ∙ sym (listed_none there place)
listed_enough there bound within (suc m) (suc n) place a b =
    elim (none_or_some (there place)) [
      | inl none ↦ nothing_listed there (suc m) place none ∙ sym (nothing_listed there (suc n) place none)
      | inr it ↦
          let ends = within.each place it.0 it.1 in
          listed_more there m place it.0 it.1
          ∙ ap (λ (is : List Instruction). it.0 ∷ is)
          (listed_enough there bound within m n (after it.0) (omega (arith, a, ends.0)) (omega (arith, b, ends.0)))
          ∙ sym (listed_more there n place it.0 it.1)
    ]

listed_first : (there : ℕ → Option Instruction) (bound : ℕ) → AreWithin there bound → (n place : ℕ) (i : Instruction) →
    bound ≤ n + place → there place ≡ Some i → listed there n place ≡ i ∷ rest_from there bound (after i)
listed_first there bound within zero place i enough found =
    let ends = within.each place i found in absurd (omega (arith, ends.0, ends.1, enough))
listed_first there bound within (suc n) place i enough found =
    let ends = within.each place i found in
    listed_more there n place i found
    ∙ ap (λ (is : List Instruction). i ∷ is)
    (listed_enough there bound within n (bound - after i) (after i) (omega (arith, enough, ends.0)) (omega arith))

-- where an instruction stands, it and those after it
pub rest_first : (there : ℕ → Option Instruction) (bound : ℕ) → AreWithin there bound → (place : ℕ) (i : Instruction) →
    there place ≡ Some i → rest_from there bound place ≡ i ∷ rest_from there bound (after i)
rest_first there bound within place i found =
    listed_first there bound within (bound - place) place i (omega arith) found
