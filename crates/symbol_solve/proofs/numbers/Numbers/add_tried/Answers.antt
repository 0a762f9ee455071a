-- What comes of matching again is what comes of the candidate.
use Rattle.std.proofs.Common.{subst, sym, ◌∙◌}
use Rattle.run_pre_match.specs.Matched.{outcome}
use Rattle.symbol_solve.specs.inside.Numbers.{IsNumbered}
use Rattle.symbol_solve.proofs.CandidateLaws.{again_tried}
use Rattle.symbol_solve.proofs.NumberLaws.{none_numbered}
use Rattle.symbol_solve.proofs.RangeLaws.{on_ok}
use Rattle.symbol_solve.proofs.numbers.Numbers.add_tried.Goals as goal

pub returns-then-not-matches-clause-numbered : goal.returns-then-not-matches-clause-numbered
returns-then-not-matches-clause-numbered g c = λ d tried runs.
    none_numbered c.args.object.now c.args.self.now
    (outcome d) c.args.tried.now.outcome tried.outcome (sym c.matches.ensures ∙ c.if-not-matches.true)

pub returns-clause-numbered : goal.returns-clause-numbered
returns-clause-numbered g c =
    on_ok c.add_outcome.result
    (λ numbered d tried runs.
    subst (IsNumbered c.args.object.now c.add_outcome.new.self)
    (c.in_ok-outcome.ensures ∙ sym (again_tried c.args.running.now
    c.args.codes.now c.index-codes-tried.result d c.args.tried.now c.requires c.index-codes-tried.is tried runs))
    numbered)
    c.add_outcome.ensures.numbered
