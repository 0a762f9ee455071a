-- What is reached along edges is what is reached in the graph that has them.
use Rattle.std.proofs.Common.{◌≡◌, ℕ, Bool, true, false, List, sym}
use Rattle.reachability.specs.declared.edge.Edge.{Edge}
use Rattle.reachability.specs.Reached.{Reached, ReachedAlong, has_edge, connects, Tells}
use Rattle.reachability.specs.Reached.Reached.{Seed as seed, Next as next_of}
use Rattle.reachability.specs.Reached.ReachedAlong.{Seed, Next}

-- a graph has some edges
abbrev pub HasEdges : List (List ℕ) → List Edge → Type 0
HasEdges g edges = (from to : ℕ) → has_edge g from to ≡ connects edges from to

reached_of_along : (g : List (List ℕ)) (edges : List Edge) (seeds : List Bool) → HasEdges g edges → {node : ℕ}
    → ReachedAlong edges seeds node → Reached g seeds node
reached_of_along g edges seeds has (Seed node started) = seed node started
reached_of_along g edges seeds has (Next node next r edge) =
    next_of node next (reached_of_along g edges seeds has r) (rw (has node next) edge)

along_of_reached : (g : List (List ℕ)) (edges : List Edge) (seeds : List Bool) → HasEdges g edges → {node : ℕ}
    → Reached g seeds node → ReachedAlong edges seeds node
along_of_reached g edges seeds has (seed node started) = Seed node started
along_of_reached g edges seeds has (next_of node next r edge) =
    Next node next (along_of_reached g edges seeds has r) (rw (sym (has node next)) edge)

pub tells_along : (mark : Bool) (g : List (List ℕ)) (edges : List Edge) (seeds : List Bool) (node : ℕ)
    → HasEdges g edges → Tells mark (Reached g seeds node) → Tells mark (ReachedAlong edges seeds node)
tells_along true g edges seeds node has tells = along_of_reached g edges seeds has tells
tells_along false g edges seeds node has tells = λ r. tells (reached_of_along g edges seeds has r)
