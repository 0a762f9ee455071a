-- What a mark tells, and what is reached in two graphs.
use Rattle.std.proofs.Common.{◌≡◌, ℕ, Bool, true, false, List, get_or, refl}
use Rattle.std.proofs.lemmas.Bool.{false≢true}
use Rattle.reachability.specs.Reached.{Reached, has_edge, Tells}
use Rattle.reachability.specs.Reached.Reached.{Seed, Next}

pub tells_from : (mark : Bool) (P : Type 0) → (mark ≡ true → P) → (P → mark ≡ true) → Tells mark P
tells_from true P sound all = sound refl
tells_from false P sound all = λ p. false≢true (all p)

-- a true mark tells that the fact holds
pub told : (mark : Bool) (P : Type 0) → Tells mark P → mark ≡ true → P
told true P tells is = tells
told false P tells is = absurd (false≢true is)

-- where the fact holds, the mark is true
pub mark_told : (mark : Bool) (P : Type 0) → Tells mark P → P → mark ≡ true
mark_told true P tells p = refl
mark_told false P tells p = absurd (tells p)

-- with more seeds and more edges as much is reached
pub reached_with_more : (graph more : List (List ℕ)) (seeds others : List Bool)
    → ((node : ℕ) → get_or seeds node false ≡ true → get_or others node false ≡ true)
    → ((from to : ℕ) → has_edge graph from to ≡ true → has_edge more from to ≡ true) → {node : ℕ}
    → Reached graph seeds node → Reached more others node
reached_with_more graph more seeds others started edges (Seed node seed) = Seed node (started node seed)
reached_with_more graph more seeds others started edges (Next node next r edge) =
    Next node next (reached_with_more graph more seeds others started edges r) (edges node next edge)
