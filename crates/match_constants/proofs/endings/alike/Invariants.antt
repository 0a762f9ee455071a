-- As many bytes as were passed are equal.
use Rattle.match_constants.specs.Endings.{Agree}
use Rattle.match_constants.proofs.endings.alike.Given as goal

abbrev pub invariant-loop-count : goal.invariant-loop-count
invariant-loop-count l = Agree l.normal l.x l.y l.count
