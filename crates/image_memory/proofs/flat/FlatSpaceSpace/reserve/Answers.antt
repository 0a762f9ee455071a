-- What the memory holds stays, and the new ranges are those of pieces that may be placed.
use Rattle.std.proofs.Common.{◌≤◌, ◌∙◌, List, map, sym, ap, subst}
use Rattle.std.specs.List.{All}
use Rattle.std.proofs.lemmas.List.Elements.{All-map}
use Rattle.ks_base.specs.declared.places.Range.{Range}
use Rattle.image_memory.specs.Contents.{piece_range}
use Rattle.image_memory.specs.Changes.{IsPlaceable}
use Rattle.image_memory.specs.declared.types.Piece.{Piece}
use Rattle.image_memory.proofs.flat.FlatSpaceSpace.reserve.Goals as goal

pub invariant_of-self-2-clause-end_below : goal.invariant_of-self-2-clause-end_below
invariant_of-self-2-clause-end_below c =
    let P : List Piece → Type 0 = λ ps. All (λ p. (piece_range p).high ≤ 0xFFFF_0000) ps in
    subst P (sym c.reserve.ensures.items) c.args.self.now.end_below

pub invariant_of-self-2-clause-placeable : goal.invariant_of-self-2-clause-placeable
invariant_of-self-2-clause-placeable c =
    let P : List Range → Type 0 = λ rs. All IsPlaceable rs in
    subst P
    (sym (c.from_vec.ensures ∙ c.into_vec.ensures ∙ c.in_ok-ranges.ensures ∙ ap (map piece_range) c.as_slice.ensures))
    (All-map IsPlaceable piece_range c.args.pieces.now c.requires)
