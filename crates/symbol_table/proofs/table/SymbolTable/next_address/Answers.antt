use Rattle.std.proofs.Common.{◌∙◌, List, sym, ap, subst}
use Rattle.symbol_table.specs.declared.entries.Entry.{Entry}
use Rattle.symbol_table.specs.declared.entries.Index.TheVariants.{Functions, Data}
use Rattle.symbol_table.specs.inside.Entries.{HasAll}
use Rattle.symbol_table.specs.Symbols.{next_address}
use Rattle.symbol_table.specs.Table.{Table}
use Rattle.symbol_table.proofs.NextLaws.{next_found}
use Rattle.symbol_table.proofs.table.SymbolTable.next_address.Goals as goal

pub returns : goal.returns
returns c =
    let symbols = c.self.inside.symbols.items in
    let P : List Entry → Type 0 = λ es. HasAll Functions symbols es in
    let Q : List Entry → Type 0 = λ es. HasAll Data symbols es in
    c.lesser.ensures
    ∙ next_found symbols c.as_slice.result.now c.as_slice-2.result.now c.args.address c.next_of.result
    c.next_of-2.result (subst P (sym c.as_slice.ensures.value) c.self.invariant.by_functions.has)
    (subst Q (sym c.as_slice-2.ensures.value) c.self.invariant.by_data.has) c.next_of.ensures c.next_of-2.ensures
    ∙ ap (λ (t : Table). next_address t.symbols c.args.address) c.self.view_is
