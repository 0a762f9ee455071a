-- How the lines of solved values come about.
use Rattle.std.proofs.Common.{◌≡◌, List, [], ◌∷◌, refl, arith}
use Rattle.std.specs.List.Sorted.{IsPermutation}
use Rattle.std.proofs.lemmas.List.Sorted.{length_permutation}

-- an order of nothing is nothing
pub nothing_moved : {X : Type 0} → (ys : List X) → IsPermutation [] ys → ys ≡ []
nothing_moved [] order = refl
nothing_moved (y ∷ ys) order = absurd (omega (arith, length_permutation [] (y ∷ ys) order))
