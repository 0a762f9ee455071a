use Rattle.std.proofs.Common.{◌≡◌, drop}
use Rattle.image_file.specs.Rules.{meets_a_piece}
use Rattle.image_file.proofs.bounds.meets_a_piece.Given as goal

abbrev pub invariant-loop-piece : goal.invariant-loop-piece
invariant-loop-piece l = meets_a_piece (drop l.piece-index l.pieces) l.range ≡ meets_a_piece l.pieces l.range
