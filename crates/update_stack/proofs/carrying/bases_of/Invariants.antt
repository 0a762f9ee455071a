use Rattle.std.proofs.Common.{◌≡◌, map, take}
use Rattle.update_stack.specs.inside.Carrying.{base_of_piece}
use Rattle.update_stack.proofs.carrying.bases_of.Given as goal

abbrev pub invariant-loop-piece : goal.invariant-loop-piece
invariant-loop-piece l = l.bases ≡ map base_of_piece (take l.piece-index l.pieces)
