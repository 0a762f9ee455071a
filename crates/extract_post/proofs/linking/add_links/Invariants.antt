use Rattle.std.proofs.Common.{◌≡◌, ◌++◌, take}
use Rattle.std.specs.List.{flat_map}
use Rattle.i386_reloc.specs.Places.{place_of_target}
use Rattle.extract_post.specs.inside.Edges.{link_to}
use Rattle.extract_post.proofs.linking.add_links.Given as goal

abbrev pub invariant-loop-k : goal.invariant-loop-k
invariant-loop-k l =
    l.links.items ≡ l.initial.links.items ++ flat_map
    (λ r. link_to l.normal l.from l.class r (place_of_target l.normal r.target)) (take l.k l.refs)
