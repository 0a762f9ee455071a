use Rattle.std.proofs.Common.{◌≡◌, take}
use Rattle.std.specs.List.{flat_map}
use Rattle.extract_post.specs.inside.Edges.{backward}
use Rattle.extract_post.proofs.edges.backward_edges.Given as goal

abbrev pub invariant-loop-link : goal.invariant-loop-link
invariant-loop-link l = l.edges.items ≡ flat_map backward (take l.link-index l.links)
