use Rattle.std.proofs.Common.{◌≡◌, ℕ, [], get_or, vec_len}
use Rattle.elf32_object.specs.inside.Rows.{rows_of}
use Rattle.elf32_object.proofs.table.empty_rows.Given as goal

abbrev pub invariant-loop : goal.invariant-loop
invariant-loop l = (vec_len l.rows ≡ l.counter) × ((section : ℕ) → get_or (rows_of l.rows.items) section [] ≡ [])
