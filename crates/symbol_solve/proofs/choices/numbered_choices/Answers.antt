-- The choices are by the numbers that were made.
use Rattle.std.proofs.lemmas.Result.{IfOk-weaker}
use Rattle.match_candidates.specs.Candidates.{candidates}
use Rattle.symbol_solve.specs.inside.Numbers.{AreNumbered}
use Rattle.symbol_solve.proofs.choices.numbered_choices.Goals as goal

pub returns : goal.returns
returns g c =
    IfOk-weaker c.choices_of.result _
    (λ choices. AreNumbered c.args.object.now (candidates c.args.running.now c.args.object.now) choices.items)
    (λ choices is. record { numbers = c.in_ok-numbers.numbers; numbered = c.in_ok-numbers.ensures.numbered; are = is })
    c.choices_of.ensures
