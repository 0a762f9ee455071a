-- The rest is in order, as all are.
use Rattle.std.proofs.Common.{◌-◌, length, arith}
use Rattle.ks_base.specs.declared.places.Range.{Range}
use Rattle.stack_scan.proofs.SlotLaws.{ends_by_part, next_ends_above, no_more_end, order_of_part}
use Rattle.stack_scan.proofs.slots.count_ended_from.Goals as goal

pub returns-then-start-ranges : goal.returns-then-start-ranges
returns-then-start-ranges c =
    no_more_end c.args.ranges.now c.args.address c.args.start c.if-start-ranges.true c.requires.below

pub returns-then-address-from : goal.returns-then-address-from
returns-then-address-from c =
    let d : Range = record { low = 0; high = 0 } in
    next_ends_above c.args.ranges.now c.args.address c.args.start d c.requires.order (omega arith)
    (rw (← c.from.ensures) c.if-address-from.true) c.requires.below

pub count_ended-requires : goal.count_ended-requires
count_ended-requires c =
    order_of_part c.args.ranges.now c.args.start (length c.args.ranges.now - c.args.start) (omega arith) c.requires.order

pub returns : goal.returns
returns c =
    ends_by_part c.args.ranges.now c.args.address c.args.start (length c.args.ranges.now) c.count_ended.result
    c.requires.bound (omega arith) c.requires.below (λ k d from to. absurd (omega arith)) c.count_ended.ensures
