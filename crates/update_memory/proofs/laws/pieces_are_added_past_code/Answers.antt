use Rattle.std.proofs.Common.{get_or, length}
use Rattle.image_memory.specs.Contents.{Contents}
use Rattle.splice_jump.specs.Jumps.{jumped, unjumped, AreSpliced}
use Rattle.update_memory.proofs.PastLaws.{added_past, OverCode, piece_past_olds}
use Rattle.update_memory.proofs.laws.pieces_are_added_past_code.Goals as goal

pub returns-clause-old : goal.returns-clause-old
returns-clause-old c contents pieces olds valid placeable can code =
    added_past c.pieces_stay_placed.ensures (unjumped olds) (OverCode olds)
    (λ m piece whole apart is k d l.
    c.code_stays_code.ensures.added m piece (get_or olds k d).0 (length (get_or olds k d).1) whole apart (is k d l))
    (piece_past_olds olds) contents pieces valid placeable can code

pub returns-clause-jumps : goal.returns-clause-jumps
returns-clause-jumps c contents pieces rows valid placeable can spliced =
    added_past c.pieces_stay_placed.ensures (jumped rows) (λ (m : Contents). AreSpliced m rows)
    (λ m piece whole apart is. c.homes_stay_spliced.ensures.added m rows piece whole is apart)
    (λ m piece whole apart is. c.pieces_come_and_go_past_jumps.ensures.added m rows piece whole is apart) contents
    pieces valid placeable can spliced
