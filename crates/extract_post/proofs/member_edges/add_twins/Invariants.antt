use Rattle.std.proofs.Common.{◌≡◌, ◌++◌, drop}
use Rattle.extract_post.specs.inside.Edges.{twins_from}
use Rattle.extract_post.proofs.member_edges.add_twins.Given as goal

abbrev pub invariant-loop-i : goal.invariant-loop-i
invariant-loop-i l =
    l.edges.items ++ twins_from l.p l.q l.post l.i (drop l.i l.sections) ≡ l.initial.edges.items
    ++ twins_from l.p l.q l.post 0 l.pre
