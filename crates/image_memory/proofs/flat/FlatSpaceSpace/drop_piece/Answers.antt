-- Pieces still ascend without one of them.
use Rattle.std.proofs.Common.{◌≤◌, suc, List, take, drop, sym, subst}
use Rattle.std.specs.List.{All}
use Rattle.std.proofs.lemmas.List.Elements.{All-append, All-take, All-drop}
use Rattle.image_memory.specs.Ranges.{Ascends}
use Rattle.image_memory.specs.Contents.{piece_range}
use Rattle.image_memory.specs.declared.types.Piece.{Piece}
use Rattle.image_memory.specs.laws.ChangeLaws.{Ascends-remove}
use Rattle.image_memory.proofs.flat.FlatSpaceSpace.drop_piece.Goals as goal

pub invariant_of-self-clause-ascend : goal.invariant_of-self-clause-ascend
invariant_of-self-clause-ascend c =
    let P : List Piece → Type 0 = λ ps. Ascends piece_range 0 ps in
    subst P (sym c.remove.ensures.items)
    (Ascends-remove piece_range 0 c.args.self.now.pieces.items _ c.args.self.now.ascend)

pub invariant_of-self-clause-end_below : goal.invariant_of-self-clause-end_below
invariant_of-self-clause-end_below c =
    let space = c.args.self.now in
    let P : List Piece → Type 0 = λ ps. All (λ p. (piece_range p).high ≤ 0xFFFF_0000) ps in
    subst P (sym c.remove.ensures.items)
    (All-append (λ p. (piece_range p).high ≤ 0xFFFF_0000) (take _ space.pieces.items) (drop (suc _) space.pieces.items)
    (All-take (λ p. (piece_range p).high ≤ 0xFFFF_0000) _ space.pieces.items space.end_below)
    (All-drop (λ p. (piece_range p).high ≤ 0xFFFF_0000) (suc _) space.pieces.items space.end_below))
