use Rattle.std.proofs.Common.{◌≡◌, map, take}
use Rattle.update_pieces.specs.Pieces.{new_piece}
use Rattle.update_pieces.proofs.pieces.new_pieces.Given as goal

abbrev pub invariant-loop-part : goal.invariant-loop-part
invariant-loop-part l =
    l.pieces ≡ map (new_piece l.post l.placement l.values.entries) (take l.part-index l.part-items)
