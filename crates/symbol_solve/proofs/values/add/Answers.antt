-- A new key goes last.
use Rattle.std.proofs.Common.{◌∙◌}
use Rattle.indexmap.proofs.CallerLemmas.{insert_entry-new}
use Rattle.symbol_table.specs.contracts.values.UnknownPartialEq.TheImpl as impl
use Rattle.symbol_solve.proofs.Unknowns.{not_found}
use Rattle.symbol_solve.proofs.values.add.Goals as goal

pub returns : goal.returns
returns c =
    let before = c.args.values.now in
    c.in_ok-insert.ensures.entries
    ∙ insert_entry-new
    ((impl.eq-value).it) before c.args.unknown c.args.solved (not_found c.args.unknown before.entries c.requires)
