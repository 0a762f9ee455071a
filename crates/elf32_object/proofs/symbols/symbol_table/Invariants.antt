use Rattle.std.proofs.Common.{◌≡◌, None}
use Rattle.elf32_object.specs.Below.{least_below}
use Rattle.elf32_object.specs.Fields.{is_symbol_table}
use Rattle.elf32_object.proofs.symbols.symbol_table.Given as goal

abbrev pub invariant-loop-i : goal.invariant-loop-i
invariant-loop-i l = least_below (is_symbol_table l.layout.bytes.now) l.i ≡ None
