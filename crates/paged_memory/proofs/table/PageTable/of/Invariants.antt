-- The pieces so far and those that are left are all.
use Rattle.std.proofs.Common.{◌≡◌, ◌++◌, length}
use Rattle.std.specs.Vec.Iter.{into_iter_items, into_iter_len}
use Rattle.paged_memory.specs.Pages.{pieces_of}
use Rattle.paged_memory.proofs.table.PageTable.of.Given as goal

abbrev pub invariant-loop-piece : goal.invariant-loop-piece
invariant-loop-piece l = record {
  bound : into_iter_len l.piece-iterator ≡ length (into_iter_items l.piece-iterator);
  split : pieces_of l.table.extents.items l.table.pages.items ++ into_iter_items l.piece-iterator ≡ l.fn.pieces;
}
