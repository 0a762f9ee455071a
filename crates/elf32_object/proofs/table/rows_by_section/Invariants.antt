use Rattle.elf32_object.specs.inside.Rows.{rows_of, AreRows}
use Rattle.elf32_object.proofs.table.rows_by_section.Given as goal

abbrev pub invariant-loop-i : goal.invariant-loop-i
invariant-loop-i l = AreRows l.layout.bytes.now l.i (rows_of l.rows.items)
