use Rattle.std.proofs.Common.{◌≡◌, ◌≤◌, take, vec_len}
use Rattle.std.specs.Prelude.{vec_capacity}
use Rattle.symbol_table.specs.inside.Entries.{entries_from}
use Rattle.symbol_table.proofs.entries.list_symbols.Given as goal

abbrev pub invariant-loop-place : goal.invariant-loop-place
invariant-loop-place l = record {
  listed : l.entries.items ≡ entries_from l.index 0
      (take l.place l.symbols);
  len : vec_len l.entries ≤ l.place;
  capacity : vec_capacity l.fn.entries
      ≤ vec_capacity l.entries;
}
