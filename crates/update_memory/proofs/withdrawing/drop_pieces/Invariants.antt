use Rattle.std.proofs.Common.{◌≡◌, ℕ, ◌<◌, ◌≤◌, length, get_or, take, drop}
use Rattle.image_memory.specs.Changes.{HasPiece}
use Rattle.update_memory.specs.Withdrawn.{spare_after}
use Rattle.update_memory.proofs.TakeLaws.{dropped_memory}
use Rattle.update_memory.proofs.withdrawing.drop_pieces.Given as goal

-- the pieces to come are there, and without them is what is without all of them
abbrev pub invariant-loop-base : goal.invariant-loop-base
invariant-loop-base g l = record {
  bound : l.base-index ≤ length l.fn.bases;
  ahead : (k d : ℕ) → l.base-index ≤ k → k < length l.fn.bases
      → HasPiece (g.S.Space.contents l.space) (get_or l.fn.bases k d);
  contents :
      dropped_memory (drop l.base-index l.fn.bases) (g.S.Space.contents l.space)
      ≡ dropped_memory l.fn.bases (g.S.Space.contents l.fn.space);
  spare : (g.S.Space.room l.space).ranges
      ≡ spare_after (take l.base-index l.fn.bases) (g.S.Space.room l.fn.space).ranges;
  kept : (g.S.Space.room l.space).fences ≡ (g.S.Space.room l.fn.space).fences;
}
