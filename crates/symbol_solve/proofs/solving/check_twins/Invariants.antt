use Rattle.std.proofs.Common.{◌≡◌, ◌-◌, List, drop}
use Rattle.std.specs.List.{AllZip}
use Rattle.run_pre_match.specs.Candidate.{Candidate}
use Rattle.symbol_solve.specs.Solve.{first_twins}
use Rattle.symbol_solve.specs.inside.Left.{IsOf}
use Rattle.symbol_solve.proofs.solving.check_twins.Given as goal

abbrev pub invariant-loop-k : goal.invariant-loop-k
invariant-loop-k l =
    (cs : List Candidate) → AllZip (λ c h. IsOf h.code.now c h.tried.now) cs l.held
    → first_twins cs ≡ first_twins (drop (l.k - 1) cs)
