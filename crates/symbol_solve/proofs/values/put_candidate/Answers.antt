-- What comes of matching again is what comes of the candidate.
use Rattle.std.proofs.Common.{sym, ◌∙◌}
use Rattle.std.specs.List.{fold}
use Rattle.symbol_solve.specs.Solve.{with_value, values_with}
use Rattle.symbol_solve.proofs.CandidateLaws.{again_of}
use Rattle.symbol_solve.proofs.RangeLaws.{on_ok}
use Rattle.symbol_solve.proofs.values.put_candidate.Goals as goal

pub returns : goal.returns
returns g c =
    on_ok c.put_outcome.result
    (λ told d held runs.
    told d held
    ∙ (λ i. fold with_value c.args.values.now.entries
    (values_with d ((c.in_ok-outcome.ensures ∙ sym
    (again_of c.args.running.now c.args.code.now d c.args.tried.now held runs)) i))))
    c.put_outcome.ensures
