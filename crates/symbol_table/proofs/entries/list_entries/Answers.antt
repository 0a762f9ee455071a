use Rattle.std.proofs.Common.{◌≡◌, List, length, sym, subst, arith}
use Rattle.std.proofs.lemmas.List.{with_items_is}
use Rattle.std.proofs.lemmas.List.Sorted.{length_permutation}
use Rattle.symbol_table.specs.declared.entries.Entry.{Entry}
use Rattle.symbol_table.specs.inside.Entries.{HasAll}
use Rattle.symbol_table.proofs.EntryLaws.{all_sorted}
use Rattle.symbol_table.proofs.entries.list_entries.Goals as goal

pub returns-clause-all : goal.returns-clause-all
returns-clause-all c =
    let entries = c.list_symbols.new.entries in
    let sorted = c.sort_entries.new.entries in
    let P : List Entry → Type 0 = λ es. HasAll c.args.index c.args.symbols.now es in
    let len : length sorted ≡ entries.len =
    omega (
      arith,
      length_permutation c.as_mut_slice.result.now sorted c.sort_entries.ensures.same,
      c.as_mut_slice.ensures.len,
    ) in
    subst P (sym (with_items_is entries sorted len))
    (all_sorted c.args.index c.args.symbols.now c.as_mut_slice.result.now entries.items sorted
    c.as_mut_slice.ensures.value c.list_symbols.ensures.items c.sort_entries.ensures.same c.sort_entries.ensures.ascend)
