use Rattle.std.proofs.Common.{◌≡◌, ◌≤◌, ◌+◌, ◌*◌, ◌-◌, [], length, IsTrue}
use Rattle.std.specs.List.{All}
use Rattle.image_file.specs.Keeps.{keeps_symbol}
use Rattle.image_file.specs.Fields.{items_at}
use Rattle.image_file.specs.Reading.{symbol_at, symbol_width}
use Rattle.image_file.proofs.symbols.symbols_of.Given as goal

abbrev pub invariant-loop : goal.invariant-loop
invariant-loop l = record {
  reads : items_at (l.count - l.counter) (symbol_at l.bytes l.pieces) symbol_width l.symbols.items l.offset
      ≡ items_at l.count (symbol_at l.bytes l.pieces) symbol_width [] l.first;
  place : l.offset ≤ l.first + 4112 * l.counter;
  count_is : length l.symbols.items ≡ l.counter;
  kept : All (λ symbol. IsTrue (keeps_symbol l.pieces symbol)) l.symbols.items;
}
