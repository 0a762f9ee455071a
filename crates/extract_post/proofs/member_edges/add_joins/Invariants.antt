use Rattle.std.proofs.Common.{◌≡◌, ◌++◌, take}
use Rattle.std.specs.List.{flat_map}
use Rattle.extract_post.specs.inside.Edges.{joins}
use Rattle.extract_post.proofs.member_edges.add_joins.Given as goal

abbrev pub invariant-loop-link : goal.invariant-loop-link
invariant-loop-link l = l.edges.items ≡ l.initial.edges.items ++ flat_map (joins l.n) (take l.link-index l.links)
