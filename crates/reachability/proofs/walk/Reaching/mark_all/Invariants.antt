use Rattle.std.proofs.Common.{◌≡◌, length, take}
use Rattle.std.specs.List.{fold}
use Rattle.reachability.specs.inside.Walk.{marked}
use Rattle.reachability.proofs.walk.Reaching.mark_all.Given as goal

abbrev pub invariant-loop-node : goal.invariant-loop-node
invariant-loop-node l = (length l.self.marks ≡ length l.initial.self.marks)
    × (l.self ≡ fold marked l.initial.self (take l.node-index l.nodes))
