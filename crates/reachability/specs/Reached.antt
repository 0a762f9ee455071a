-- Directed graphs over nodes 0, 1, .., each with the list of its successors, and what is reached along their edges.
use Rattle.std.specs.Prelude.{◌≡◌, ◌==◌, ◌<◌, ◌&&◌, ℕ, Bool, true, false, List, [], IsTrue, length}
use Rattle.std.specs.List.{list_any, slice_index_or, All}
use Rattle.reachability.specs.declared.edge.Edge.{Edge}

-- whether a list of nodes has a node
abbrev pub has_node : List ℕ → ℕ → Bool
has_node nodes node = list_any (λ other. other == node) nodes

-- whether a node's successors have another; a node that a graph doesn't have has none
abbrev pub has_edge : List (List ℕ) → ℕ → ℕ → Bool
has_edge graph from to = has_node (slice_index_or graph from []) to

-- a node is reached from the seeds along edges
pub data Reached (graph : List (List ℕ)) (seeds : List Bool) : ℕ → Type 0 where
  Seed : (node : ℕ) → slice_index_or seeds node false ≡ true → Reached graph seeds node
  Next : (node next : ℕ) → Reached graph seeds node → IsTrue (has_edge graph node next) → Reached graph seeds next

-- what a mark tells of a fact: that it holds, or that it doesn't
abbrev pub Tells : Bool → Type 0 → Type 0
Tells true P = P
Tells false P = P → ⊥

-- each successor is a node of the graph
abbrev pub HasItsSuccessors : List (List ℕ) → Type 0
HasItsSuccessors graph = All (λ successors. All (λ next. next < length graph) successors) graph

-- whether one of some edges goes from a node to another
abbrev pub connects : List Edge → ℕ → ℕ → Bool
connects edges from to = list_any (λ e. e.from == from && e.to == to) edges

-- a node is reached from the seeds along some edges
pub data ReachedAlong (edges : List Edge) (seeds : List Bool) : ℕ → Type 0 where
  Seed : (node : ℕ) → slice_index_or seeds node false ≡ true → ReachedAlong edges seeds node
  Next : (node next : ℕ) → ReachedAlong edges seeds node → IsTrue (connects edges node next)
      → ReachedAlong edges seeds next

-- an edge's ends are nodes
pub record IsWithin (nodes : ℕ) (e : Edge) : Type 0 where
  pub from : e.from < nodes
  pub to : e.to < nodes
