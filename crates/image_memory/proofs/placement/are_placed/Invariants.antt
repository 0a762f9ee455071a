use Rattle.std.proofs.Common.{◌≤◌, ◌<◌, ℕ, drop, get_or}
use Rattle.image_memory.specs.Ranges.{Ascends}
use Rattle.image_memory.specs.Contents.{piece_range}
use Rattle.image_memory.specs.declared.types.Piece.{Piece}
use Rattle.image_memory.proofs.placement.are_placed.Given as goal

abbrev pub invariant-loop-piece : goal.invariant-loop-piece
invariant-loop-piece l = record {
  ahead : Ascends piece_range 0 l.pieces → Ascends piece_range l.floor (drop l.piece-index l.pieces);
  back : Ascends piece_range l.floor (drop l.piece-index l.pieces) → Ascends piece_range 0 l.pieces;
  below : (k : ℕ) (d : Piece) → k < l.piece-index → (piece_range (get_or l.pieces k d)).high ≤ 0xFFFF_0000;
}
