-- One bound more is known.
use Rattle.std.proofs.Common.{◌+◌, ◌*◌, ◌^◌, arith}
use Rattle.std.proofs.lemmas.List.{length-set}
use Rattle.stack_scan.specs.inside.Cuts.{Ends}
use Rattle.stack_scan.proofs.SlotLaws.{ended_by_next, one_bound_more}
use Rattle.stack_scan.proofs.slots.Slots.new.Goals as goal

pub loop-slot-preserved : goal.loop-slot-preserved
loop-slot-preserved c =
    let count = c.count_ended_from-count.result in
    let here : Ends c.args.ranges.now (c.args.low + c.loop-slot.slot * 2 ^ c.shift_for-shift.result) count =
    rw (← c.bound.ensures) c.count_ended_from-count.ensures in (
      omega (arith, length-set c.loop-slot.ended c.loop-slot.slot count),
      one_bound_more c.args.ranges.now c.args.low c.shift_for-shift.result c.loop-slot.slot c.loop-slot.ended count
          (omega arith) c.loop-slot.invariant.1 here,
      c.count_ended_from-count.ensures.bound,
      ended_by_next c.args.ranges.now c.args.low c.shift_for-shift.result c.loop-slot.slot count here,
    )
