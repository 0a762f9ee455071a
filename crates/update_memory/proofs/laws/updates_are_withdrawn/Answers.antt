use Rattle.update_memory.specs.Rows.{rows_of, olds_of}
use Rattle.update_memory.proofs.PastLaws.{update_withdrawn}
use Rattle.update_memory.proofs.laws.updates_are_withdrawn.Goals as goal

pub returns : goal.returns
returns c contents pieces fences jumps valid placeable can retirable spliced is =
    update_withdrawn c.pieces_stay_placed.ensures contents pieces fences (rows_of jumps) (olds_of jumps) valid placeable
    can retirable spliced is
