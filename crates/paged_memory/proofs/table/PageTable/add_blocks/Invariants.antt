use Rattle.std.proofs.Common.{◌≡◌, ◌+◌, vec_len}
use Rattle.paged_memory.proofs.table.PageTable.add_blocks.Given as goal

abbrev pub invariant-loop-block : goal.invariant-loop-block
invariant-loop-block l = record {
  extents : l.self.extents ≡ l.fn.self.extents;
  pages : l.self.pages.items ≡ l.fn.self.pages.items;
  blocks : vec_len l.self.blocks ≡ vec_len l.fn.self.blocks + l._block;
}
