-- What the memory holds stays, and the new ranges are those of pieces that may be placed.
use Rattle.std.proofs.Common.{◌∙◌, List, map, sym, ap, subst, arith}
use Rattle.std.specs.List.{All}
use Rattle.std.proofs.lemmas.List.Elements.{All-map}
use Rattle.ks_base.specs.declared.places.Range.{Range}
use Rattle.image_memory.specs.Contents.{piece_range}
use Rattle.image_memory.specs.Changes.{IsPlaceable}
use Rattle.paged_memory.proofs.paged.PagedSpaceSpace.reserve.Goals as goal

pub make_room-requires : goal.make_room-requires
make_room-requires c =
    let P : List Range → Type 0 = λ rs. All IsPlaceable rs in
    subst P (sym (c.as_slice-2.ensures ∙ c.in_ok-ranges.ensures ∙ ap (map piece_range) c.as_slice.ensures))
    (All-map IsPlaceable piece_range c.args.pieces.now c.requires)

pub invariant_of-self-2-clause-placeable : goal.invariant_of-self-2-clause-placeable
invariant_of-self-2-clause-placeable c =
    let P : List Range → Type 0 = λ rs. All IsPlaceable rs in
    subst P
    (sym (c.from_vec.ensures ∙ c.into_vec.ensures ∙ c.in_ok-ranges.ensures ∙ ap (map piece_range) c.as_slice.ensures))
    (All-map IsPlaceable piece_range c.args.pieces.now c.requires)

pub invariant_of-self-2-clause-block_room : goal.invariant_of-self-2-clause-block_room
invariant_of-self-2-clause-block_room c =
    let same = c.as_slice-2.ensures ∙ sym (c.from_vec.ensures ∙ c.into_vec.ensures) in
    let pages = c.in_ok-make_room.ensures.pages in
    let blocks = c.in_ok-make_room.ensures.blocks in
    rw (← same, pages) (omega (arith, blocks))
