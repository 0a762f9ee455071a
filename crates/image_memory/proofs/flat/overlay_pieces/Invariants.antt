use Rattle.std.proofs.Common.{◌≡◌, ◌≤◌, ◌<◌, ◌-◌, ℕ, length, get_or}
use Rattle.image_memory.specs.Access.{overlaid_piece}
use Rattle.image_memory.specs.declared.types.Piece.{Piece}
use Rattle.image_memory.proofs.flat.overlay_pieces.Given as goal

abbrev pub invariant-loop-i : goal.invariant-loop-i
invariant-loop-i l = record {
  bound : l.i ≤ length l.pieces;
  same_length : length l.pieces ≡ length l.initial.pieces;
  done : (k : ℕ) (d : Piece) → k < l.i → get_or l.pieces k d ≡ overlaid_piece l.start l.from
      (get_or l.initial.pieces k d);
  rest : (k : ℕ) (d : Piece) → l.i ≤ k → get_or l.pieces k d ≡ get_or l.initial.pieces k d;
}

abbrev pub decreases-loop-i : goal.decreases-loop-i
decreases-loop-i l = length l.pieces - l.i
