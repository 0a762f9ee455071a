use Rattle.std.proofs.Common.{◌≡◌, ◌++◌, drop}
use Rattle.extract_post.specs.inside.Edges.{links_from, links_in}
use Rattle.extract_post.proofs.linking.links.Given as goal

abbrev pub invariant-loop-i : goal.invariant-loop-i
invariant-loop-i l = l.links.items ++ links_from l.normal l.i (drop l.i l.sections) ≡ links_in l.normal
