use Rattle.std.proofs.Common.{◌≡◌, map, take}
use Rattle.image_memory.specs.Contents.{piece_range}
use Rattle.image_memory.proofs.changes.ranges_of.Given as goal

abbrev pub invariant-loop-piece : goal.invariant-loop-piece
invariant-loop-piece l = l.ranges ≡ map piece_range (take l.piece-index l.pieces)
