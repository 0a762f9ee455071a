use Rattle.std.proofs.Common.{All, take}
use Rattle.symbol_solve.specs.inside.Numbers.{Grows, IsUnknownNumbered}
use Rattle.symbol_solve.proofs.numbers.Numbers.add_claims.Given as goal

abbrev pub invariant-loop-claim : goal.invariant-loop-claim
invariant-loop-claim l = record {
  grows : Grows l.initial.self l.self;
  numbered : All (IsUnknownNumbered l.self) (take l.claim-index l.claims);
}
