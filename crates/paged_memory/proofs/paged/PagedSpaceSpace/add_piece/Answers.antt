-- A piece whose range is spare may be placed, and there are blocks for its pages.
use Rattle.std.proofs.Common.{List, arith, sym, subst}
use Rattle.std.specs.List.{All}
use Rattle.ks_base.specs.declared.places.Range.{Range}
use Rattle.image_memory.specs.Contents.{piece_range}
use Rattle.image_memory.specs.Changes.{IsPlaceable}
use Rattle.image_memory.specs.laws.ChangeLaws.{All-without_first}
use Rattle.paged_memory.proofs.MissingLaws.{missing-one, missing-without}
use Rattle.paged_memory.proofs.NewLaws.{meets_extents}
use Rattle.paged_memory.proofs.paged.PagedSpaceSpace.add_piece.Goals as goal

pub add-requires-clause-apart : goal.add-requires-clause-apart
add-requires-clause-apart c =
    let table = c.args.self.now.table in
    meets_extents (piece_range c.args.piece) table.extents.items table.pages.items c.requires.apart

pub add-requires-clause-blocks : goal.add-requires-clause-blocks
add-requires-clause-blocks c =
    let space = c.args.self.now in
    let fewer = missing-one (piece_range c.args.piece) space.spare_ranges space.table.pages.items c.requires.spare in
    let room = space.block_room in
    omega (arith, fewer, room)

pub invariant_of-self-clause-placeable : goal.invariant_of-self-clause-placeable
invariant_of-self-clause-placeable c =
    let space = c.args.self.now in
    let P : List Range → Type 0 = λ rs. All IsPlaceable rs in
    subst P (sym c.take_first.ensures.left)
    (All-without_first IsPlaceable c.range.result space.spare_ranges space.placeable)

pub invariant_of-self-clause-block_room : goal.invariant_of-self-clause-block_room
invariant_of-self-clause-block_room c =
    let space = c.args.self.now in
    let still = c.add.ensures.blocks space.spare_ranges c.requires.spare space.block_room in
    let fewer = missing-without c.range.result space.spare_ranges c.add.new.self.pages.items in
    rw c.take_first.ensures.left (omega (arith, fewer, still))
