-- Spellings put one after another.
use Rattle.std.proofs.Common.{◌≡◌, ℕ, ◌+◌, List, [], ◌∷◌, ◌++◌, take, Some, append_assoc}
use Rattle.std.specs.List.{slice_get, flat_map}
use Rattle.std.proofs.lemmas.List.{take_more, flat_map_more}
use Rattle.std.proofs.lemmas.Option.{slice_get_within, get_or_from_slice_get}

pub regroup_four : (o a b c d : List ℕ) → (((o ++ a) ++ b) ++ c) ++ d ≡ o ++ (((a ++ b) ++ c) ++ d)
regroup_four o a b c d = simp append_assoc

pub regroup_five : (o a b c d e : List ℕ) → ((((o ++ a) ++ b) ++ c) ++ d) ++ e ≡ o ++ ((((a ++ b) ++ c) ++ d) ++ e)
regroup_five o a b c d e = simp append_assoc

pub regroup_six : (o a b c d e f : List ℕ) →
    (((((o ++ a) ++ b) ++ c) ++ d) ++ e) ++ f ≡ o ++ (((((a ++ b) ++ c) ++ d) ++ e) ++ f)
regroup_six o a b c d e f = simp append_assoc

-- the spelling of one more item of a list
pub one_more : {X : Type 0} (f : X → List ℕ) (o : List ℕ) (xs : List X) (i : ℕ) (x : X) → slice_get xs i ≡ Some x →
    (o ++ flat_map f (take i xs)) ++ f x ≡ o ++ flat_map f (take (i + 1) xs)
one_more f o xs i x h =
    let within = slice_get_within xs i x h in
    let at = get_or_from_slice_get xs i x x h in
    let next : take (i + 1) xs ≡ take i xs ++ x ∷ [] = rw at at (take_more xs i x within) in
    rw next (flat_map_more f o (take i xs) x)
