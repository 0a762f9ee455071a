use Rattle.std.proofs.Common.{◌≡◌, ℕ, length, take}
use Rattle.reachability.specs.Reached.{has_edge, connects}
use Rattle.reachability.proofs.along.graph_of.Given as goal

-- the edges so far
abbrev pub invariant-loop-edge : goal.invariant-loop-edge
invariant-loop-edge l =
    (length l.graph ≡ l.nodes) × ((from to : ℕ) → has_edge l.graph from to ≡ connects
    (take l.edge-index l.edges) from to)
