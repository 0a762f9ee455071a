-- What is made of consecutive numbers.
use Rattle.std.proofs.Common.{◌≡◌, ℕ, suc, ◌+◌, ◌-◌, ◌<◌, List, ◌++◌, ap, ◌∙◌, arith}
use Rattle.std.proofs.lemmas.List.Concat.{flat_map-cons}
use Rattle.std.specs.List.{flat_map, range_with_len}

less : (at end : ℕ) → at < end → end - at ≡ suc (end - (at + 1))
less at end below = omega (arith, below)

-- what is made of the first, and of the others
pub first_of_range : (f : ℕ → List ℕ) (at end : ℕ) → at < end
    → flat_map f (range_with_len at (end - at)) ≡ f at ++ flat_map f (range_with_len (at + 1) (end - (at + 1)))
first_of_range f at end below =
    ap (λ (n : ℕ). flat_map f (range_with_len at n)) (less at end below)
    ∙ flat_map-cons f at (range_with_len (at + 1) (end - (at + 1)))
