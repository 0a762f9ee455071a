-- Two blocks are put at one place, the upper one first.
use Rattle.std.proofs.Common.{◌∙◌}
use Rattle.link_post.specs.declared.gaps.TheConstants.{NEW_BLOCK_LENGTH}
use Rattle.link_post.proofs.BlockLaws.{split_put}
use Rattle.link_post.proofs.gaps.put_ranges.Goals as goal

pub returns-in_ok-insert-2 : goal.returns-in_ok-insert-2
returns-in_ok-insert-2 c =
    split_put c.args.blocks.now.items c.insert.new.self.items c.insert-then-len-gt-MOST_BLOCK_LENGTH.new.self.items
    c.args.i NEW_BLOCK_LENGTH c.in_ok-lower.lower c.in_ok-upper.upper c.args.ranges.items c.requires
    c.in_ok-insert.ensures.items c.in_ok-insert-2.ensures.items
    (c.in_ok-lower.ensures ∙ c.in_ok-split_off.ensures.items) (c.in_ok-upper.ensures ∙ c.in_ok-split_off.ensures.tail)
