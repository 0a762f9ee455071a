use Rattle.std.proofs.Common.{◌∙◌, ap}
use Rattle.std.specs.Prelude.{is_some}
use Rattle.symbol_solve.proofs.Unknowns.{found}
use Rattle.symbol_solve.proofs.values.has_value.Goals as goal

pub returns : goal.returns
returns c = c.is_some.ensures
    ∙ ap is_some (c.copied.ensures ∙ c.get.ensures.value) ∙ found c.args.unknown.now c.args.values.now.entries
