-- A new key goes last.
use Rattle.std.proofs.Common.{◌∙◌}
use Rattle.indexmap.proofs.CallerLemmas.{insert_entry-new}
use Rattle.symbol_table.specs.declared.values.Solved.TheVariants.{Address}
use Rattle.symbol_table.specs.contracts.values.UnknownPartialEq.TheImpl as impl
use Rattle.link_post.proofs.Found.{looked_up}
use Rattle.link_post.proofs.resolving.add_address.Goals as goal

pub returns : goal.returns
returns c =
    let before = c.args.values.now in
    c.in_ok-insert.ensures.entries
    ∙ insert_entry-new ((impl.eq-value).it) before c.args.which (Address c.args.address)
    (looked_up c.args.which before.entries ∙ c.requires)
