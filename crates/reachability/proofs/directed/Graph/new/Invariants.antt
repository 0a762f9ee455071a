use Rattle.std.proofs.Common.{◌≡◌, [], replicate}
use Rattle.reachability.proofs.directed.Graph.new.Given as goal

abbrev pub invariant-loop-node : goal.invariant-loop-node
invariant-loop-node l = l.successors.items ≡ replicate l._node []
