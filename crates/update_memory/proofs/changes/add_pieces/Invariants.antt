use Rattle.std.proofs.Common.{◌≡◌, map, length}
use Rattle.std.specs.Vec.Iter.{into_iter_items, into_iter_len}
use Rattle.image_memory.specs.Contents.{piece_range}
use Rattle.update_memory.specs.Added.{AreAddable, with_pieces}
use Rattle.update_memory.proofs.changes.add_pieces.Given as goal

-- what is left is spare and can be added, and leaves what all of them do
abbrev pub invariant-loop-piece : goal.invariant-loop-piece
invariant-loop-piece g l = record {
  bound : into_iter_len l.piece-iterator ≡ length (into_iter_items l.piece-iterator);
  spare : (g.S.Space.room l.space).ranges ≡ map piece_range (into_iter_items l.piece-iterator);
  kept : (g.S.Space.room l.space).fences ≡ (g.S.Space.room l.fn.space).fences;
  apart : AreAddable (g.S.Space.contents l.space) (into_iter_items l.piece-iterator);
  contents :
      with_pieces (g.S.Space.contents l.space) (into_iter_items l.piece-iterator)
      ≡ with_pieces (g.S.Space.contents l.fn.space) l.fn.pieces;
}
