-- A piece whose range is spare may be placed.
use Rattle.std.proofs.Common.{◌≤◌, List, arith, sym, subst}
use Rattle.std.specs.List.{All}
use Rattle.std.proofs.lemmas.List.Elements.{All-contains}
use Rattle.ks_base.specs.declared.places.Range.{Range}
use Rattle.image_memory.specs.Ranges.{Ascends}
use Rattle.image_memory.specs.Contents.{piece_range}
use Rattle.image_memory.specs.Changes.{IsPlaceable}
use Rattle.image_memory.specs.declared.types.Piece.{Piece}
use Rattle.image_memory.specs.laws.PutLaws.{Ascends-put, All-put}
use Rattle.image_memory.specs.laws.ChangeLaws.{All-without_first}
use Rattle.image_memory.proofs.flat.FlatSpaceSpace.add_piece.Goals as goal

pub range-requires : goal.range-requires
range-requires c =
    let fits = All-contains IsPlaceable c.args.self.now.spare_ranges
    (piece_range c.args.piece) c.args.self.now.placeable c.requires.spare in
    let low = fits.1 in
    omega arith

pub invariant_of-self-clause-ascend : goal.invariant_of-self-clause-ascend
invariant_of-self-clause-ascend c =
    let space = c.args.self.now in
    let fits = All-contains IsPlaceable space.spare_ranges
    (piece_range c.args.piece) space.placeable c.requires.spare in
    let P : List Piece → Type 0 = λ ps. Ascends piece_range 0 ps in
    subst P (sym c.put_spare.ensures.items)
    (Ascends-put piece_range 0 c.args.piece space.pieces.items (omega arith) fits.0 c.requires.apart space.ascend)

pub invariant_of-self-clause-end_below : goal.invariant_of-self-clause-end_below
invariant_of-self-clause-end_below c =
    let space = c.args.self.now in
    let fits = All-contains IsPlaceable space.spare_ranges
    (piece_range c.args.piece) space.placeable c.requires.spare in
    let P : List Piece → Type 0 = λ ps. All (λ p. (piece_range p).high ≤ 0xFFFF_0000) ps in
    subst P (sym c.put_spare.ensures.items)
    (All-put piece_range (λ p. (piece_range p).high ≤ 0xFFFF_0000) c.args.piece space.pieces.items fits.1
    space.end_below)

pub invariant_of-self-clause-placeable : goal.invariant_of-self-clause-placeable
invariant_of-self-clause-placeable c =
    let space = c.args.self.now in
    let P : List Range → Type 0 = λ rs. All IsPlaceable rs in
    subst P (sym c.take_first.ensures.left)
    (All-without_first IsPlaceable c.range.result space.spare_ranges space.placeable)
