-- The part between is in order, as all are.
use Rattle.std.proofs.Common.{◌-◌, arith}
use Rattle.stack_scan.proofs.SlotLaws.{order_of_part, ends_by_part}
use Rattle.stack_scan.proofs.slots.ended_between.Goals as goal

pub count_ended-requires : goal.count_ended-requires
count_ended-requires c =
    order_of_part c.args.ranges.now c.args.start (c.args.end - c.args.start) (omega arith) c.requires.order

pub returns : goal.returns
returns c =
    ends_by_part c.args.ranges.now c.args.word c.args.start c.args.end c.count_ended.result c.requires.ascend
    c.requires.bound c.requires.below c.requires.above (rw (← c.from.ensures) c.count_ended.ensures)
