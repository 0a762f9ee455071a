use Rattle.std.proofs.Common.{◌≡◌, ◌++◌, [], get_or, slice_set, vec_len}
use Rattle.elf32_object.specs.inside.Rows.{rows_of, spot_of}
use Rattle.elf32_object.specs.Below.{each_below}
use Rattle.elf32_object.proofs.table.add_entries.Given as goal

abbrev pub invariant-loop-index : goal.invariant-loop-index
invariant-loop-index l =
    (rows_of l.rows.items ≡ slice_set (rows_of l.fn.rows.items) l.section
    (get_or (rows_of l.fn.rows.items) l.section [] ++ each_below (spot_of l.from) l.index))
    × (vec_len l.rows ≡ vec_len l.fn.rows)
