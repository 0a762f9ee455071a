-- What the block has is what all blocks have first.
use Rattle.std.proofs.Common.{◌∙◌, ap}
use Rattle.link_post.specs.inside.Rooms.{first_start, after_first}
use Rattle.link_post.specs.inside.BlockLists.{ranges_of}
use Rattle.link_post.proofs.BlockLaws.{block_start, block_left}
use Rattle.link_post.proofs.gaps.take_in_block.Goals as goal

pub returns-clause-start : goal.returns-clause-start
returns-clause-start c =
    let s = c.args.section.now in
    c.in_ok-base.ensures.start ∙ ap (first_start s) c.into_ranges-ranges.ensures
    ∙ block_start s c.args.blocks.now.items c.args.i c.remove.result c.requires c.remove.ensures.value

pub returns-clause-left : goal.returns-clause-left
returns-clause-left c =
    let s = c.args.section.now in
    block_left s c.args.blocks.now.items c.remove.new.self.items c.args.i c.remove.result c.take_room.new.free.items
    (ranges_of c.put_ranges.new.blocks.items) c.requires
    c.remove.ensures.value c.remove.ensures.items (c.in_ok-base.ensures.left
    ∙ ap (after_first s) c.into_ranges-ranges.ensures) c.in_ok-put_ranges.ensures
