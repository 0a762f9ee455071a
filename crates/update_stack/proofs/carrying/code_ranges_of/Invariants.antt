use Rattle.std.proofs.Common.{◌≡◌, map, take, filter}
use Rattle.image_memory.specs.Contents.{piece_range}
use Rattle.update_stack.specs.AbstractMachine.{is_text}
use Rattle.update_stack.proofs.carrying.code_ranges_of.Given as goal

abbrev pub invariant-loop-piece : goal.invariant-loop-piece
invariant-loop-piece l = l.ranges ≡ map piece_range (filter is_text (take l.piece-index l.pieces))
