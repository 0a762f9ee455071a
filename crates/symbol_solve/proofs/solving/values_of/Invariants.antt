use Rattle.std.proofs.Common.{◌≡◌, List, drop}
use Rattle.std.specs.List.{AllZip, flat_map, fold}
use Rattle.run_pre_match.specs.Candidate.{Candidate}
use Rattle.symbol_solve.specs.Solve.{with_value, values_of, values}
use Rattle.symbol_solve.specs.inside.Left.{IsOf, RunsIn}
use Rattle.symbol_solve.proofs.solving.values_of.Given as goal

abbrev pub invariant-loop-one : goal.invariant-loop-one
invariant-loop-one g l =
    (cs : List Candidate) → AllZip (λ c h. IsOf h.code.now c h.tried.now × RunsIn l.running c) cs l.held
    → values cs ≡ fold with_value l.found.entries (flat_map values_of (drop l.one-index cs))
