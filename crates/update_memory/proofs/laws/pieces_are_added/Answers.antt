use Rattle.std.proofs.Common.{◌≡◌, ◌∙◌, refl}
use Rattle.image_memory.specs.Contents.{Contents}
use Rattle.image_memory.specs.Access.{bytes_at}
use Rattle.image_memory.specs.Fetch.{HasCode}
use Rattle.splice_jump.specs.Jumps.{AreSpliced}
use Rattle.update_memory.specs.Added.{with_pieces}
use Rattle.update_memory.proofs.PieceLaws.{along_pieces, fences_stay, piece_kept, piece_given}
use Rattle.update_memory.proofs.laws.pieces_are_added.Goals as goal

pub returns-clause-valid : goal.returns-clause-valid
returns-clause-valid c contents pieces valid placeable can =
    (along_pieces c.pieces_stay_placed.ensures (λ _. Unit {0}) (λ m piece whole apart is. tt) contents pieces valid
    placeable can tt).0

pub returns-clause-fences : goal.returns-clause-fences
returns-clause-fences c contents pieces = fences_stay contents pieces

pub returns-clause-kept : goal.returns-clause-kept
returns-clause-kept c contents pieces piece at = piece_kept contents pieces piece at

pub returns-clause-given : goal.returns-clause-given
returns-clause-given c contents pieces piece at = piece_given contents pieces piece at.0 at.1 at.2

pub returns-clause-code : goal.returns-clause-code
returns-clause-code c contents pieces address count valid placeable can code =
    (along_pieces c.pieces_stay_placed.ensures (λ (m : Contents). HasCode m.pieces address count)
    (λ m piece whole apart is. c.code_stays_code.ensures.added m piece address count whole apart is) contents pieces
    valid placeable can code).1

pub returns-clause-spliced : goal.returns-clause-spliced
returns-clause-spliced c contents pieces rows valid placeable can spliced =
    (along_pieces c.pieces_stay_placed.ensures (λ (m : Contents). AreSpliced m rows)
    (λ m piece whole apart is. c.homes_stay_spliced.ensures.added m rows piece whole is apart) contents pieces valid
    placeable can spliced).1

pub returns-clause-bytes : goal.returns-clause-bytes
returns-clause-bytes c contents pieces address count valid placeable can code =
    let bytes = λ (m : Contents). bytes_at m.pieces address count in
    let same : HasCode (with_pieces contents pieces).pieces address count
    × (bytes (with_pieces contents pieces) ≡ bytes contents) =
    (along_pieces c.pieces_stay_placed.ensures
    (λ (m : Contents). HasCode m.pieces address count × (bytes m ≡ bytes contents))
    (λ m piece whole apart is. (
      c.code_stays_code.ensures.added m piece address count whole apart is.0,
      c.code_stays_code.ensures.bytes m piece address count whole apart is.0 ∙ is.1,
    )) contents pieces
    valid placeable can (code, refl)).1 in
    same.1
