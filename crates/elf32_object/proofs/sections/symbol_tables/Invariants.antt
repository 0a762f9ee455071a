use Rattle.std.proofs.Common.{◌≡◌, ◌≤◌}
use Rattle.elf32_object.specs.Below.{count_below}
use Rattle.elf32_object.specs.Fields.{is_symbol_table}
use Rattle.elf32_object.proofs.sections.symbol_tables.Given as goal

abbrev pub invariant-loop-i : goal.invariant-loop-i
invariant-loop-i l = (l.count ≡ count_below (is_symbol_table l.layout.bytes.now) l.i) × (l.count ≤ l.i)
