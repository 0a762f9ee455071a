use Rattle.std.proofs.Common.{◌≡◌, drop}
use Rattle.symbol_solve.specs.inside.Claims.{GiveOneValue}
use Rattle.symbol_solve.specs.inside.Reported.{first_contradicted}
use Rattle.symbol_solve.proofs.report.first_contradicted.Given as goal

abbrev pub invariant-loop-claim : goal.invariant-loop-claim
invariant-loop-claim l =
    GiveOneValue l.others → first_contradicted l.ones l.others ≡ first_contradicted (drop l.claim-index l.ones) l.others
