use Rattle.std.proofs.Common.{◌≡◌, ◌++◌, ◌≤◌, length}
use Rattle.std.specs.Vec.Iter.{into_iter_items, into_iter_len}
use Rattle.update_stack.proofs.carrying.add_symbols.Given as goal

-- there is room for the symbols that are left, and after those of the table they make what all of them do
abbrev pub invariant-loop-symbol : goal.invariant-loop-symbol
invariant-loop-symbol l = record {
  bound : into_iter_len l.symbol-iterator ≡ length (into_iter_items l.symbol-iterator);
  room : length (into_iter_items l.symbol-iterator) ≤ l.table.spare;
  symbols : l.table.symbols ++ into_iter_items l.symbol-iterator ≡ l.fn.table.symbols ++ l.fn.symbols;
}
