-- Edges in pairs, and numbers of nodes that fit.
use Rattle.std.specs.Prelude.{◌<◌, ◌^◌, List, [], ◌∷◌, Option, Some, None}
use Rattle.reachability.specs.declared.edge.Edge.{Edge}
use Rattle.extract_post.specs.inside.Edges.{Link, Numbers, into_node}

-- two edges, where there are any
abbrev pub two_edges : Option (Edge × Edge) → List Edge
two_edges None = []
two_edges (Some two) = two.0 ∷ two.1 ∷ []

-- the nodes of a link's sections have numbers of 32 bits
pub record IsNumbered (n : Numbers) (link : Link) : Type 0 where
  pub from : into_node n link.from < 2 ^ 32
  pub to : into_node n link.to < 2 ^ 32
