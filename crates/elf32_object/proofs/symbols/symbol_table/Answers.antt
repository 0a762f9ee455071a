use Rattle.std.proofs.Common.{◌≡◌, ◌<◌, true, sym, arith}
use Rattle.elf32_object.specs.Fields.{section_count, is_symbol_table, symbol_table}
use Rattle.elf32_object.proofs.Tables.{least_at}
use Rattle.elf32_object.proofs.symbols.symbol_table.Goals as goal

pub returns-then-is_symbol_table : goal.returns-then-is_symbol_table
unfolding symbol_table
returns-then-is_symbol_table c =
    let bytes = c.args.layout.now.bytes.now in
    let within : c.loop-i.i < section_count bytes = omega arith in
    let here : is_symbol_table bytes c.loop-i.i ≡ true = cc in
    sym (least_at (is_symbol_table bytes) (section_count bytes) c.loop-i.i c.loop-i.invariant here within)
