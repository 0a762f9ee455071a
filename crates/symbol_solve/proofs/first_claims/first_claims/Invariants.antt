use Rattle.std.proofs.Common.{drop}
use Rattle.symbol_solve.specs.inside.Claims.{AreFirst}
use Rattle.symbol_solve.proofs.first_claims.first_claims.Given as goal

abbrev pub invariant-loop-k : goal.invariant-loop-k
invariant-loop-k l = AreFirst l.first.entries (drop l.k l.claims)
