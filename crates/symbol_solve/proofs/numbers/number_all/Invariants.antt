use Rattle.std.proofs.Common.{All, take}
use Rattle.run_pre_match.specs.Matched.{outcome}
use Rattle.match_candidates.specs.Candidates.{candidates}
use Rattle.symbol_solve.specs.inside.Numbers.{IsNumbered}
use Rattle.symbol_solve.proofs.numbers.number_all.Given as goal

abbrev pub invariant-loop-tried : goal.invariant-loop-tried
invariant-loop-tried g l =
    All (λ c. IsNumbered l.object l.numbers (outcome c)) (take l.tried-index (candidates l.running l.object))
