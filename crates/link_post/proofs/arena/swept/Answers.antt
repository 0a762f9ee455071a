use Rattle.std.proofs.Common.{rules, arith, ◌∙◌}
use Rattle.link_post.proofs.SweepLaws.{stands_none, all_of_none, next_range}
use Rattle.link_post.proofs.arena.swept.Goals as goal

pub loop-range-init : goal.loop-range-init
loop-range-init c =
    let taken = c.args.taken.now in
    (c.new-left.ensures ∙ all_of_none taken, (0, c.requires.ascend, stands_none taken))

pub loop-range-preserved : goal.loop-range-preserved
loop-range-preserved c =
    let at = c.loop-range.at in
    next_range c.args.free.now c.args.taken.now c.loop-range.left c.leave.new.left c.loop-range.range-index at.next
    at.reach _ _ _ c.in_ok-at.ensures.left c.in_ok-at.ensures.stands (omega arith) (search rules)
    c.loop-range.invariant
