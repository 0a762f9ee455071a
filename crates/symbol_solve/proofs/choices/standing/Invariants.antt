use Rattle.std.proofs.Common.{◌≡◌, take}
use Rattle.symbol_solve.specs.inside.Numbers.{standing}
use Rattle.symbol_solve.proofs.choices.standing.Given as goal

abbrev pub invariant-loop-n : goal.invariant-loop-n
invariant-loop-n g l = l.list ≡ standing l.points l.body (take l.n-index l.own)
