use Rattle.std.proofs.Common.{◌≡◌, length}
use Rattle.reachability.specs.inside.Walk.{seeded}
use Rattle.reachability.proofs.walk.Reaching.mark_seeds.Given as goal

abbrev pub invariant-loop-node : goal.invariant-loop-node
invariant-loop-node l = (length l.self.marks ≡ length l.initial.self.marks)
    × (l.self ≡ seeded l.initial.self l.seeds l.node)
