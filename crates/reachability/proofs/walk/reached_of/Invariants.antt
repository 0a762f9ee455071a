use Rattle.std.proofs.Common.{◌-◌, length}
use Rattle.reachability.proofs.WalkLaws.{IsWalk}
use Rattle.reachability.proofs.walk.reached_of.Given as goal

abbrev pub invariant-loop-turn : goal.invariant-loop-turn
invariant-loop-turn l = IsWalk l.graph l.seeds l.turn l.walk

abbrev pub decreases-loop-turn : goal.decreases-loop-turn
decreases-loop-turn l = length l.graph - l.turn
