-- What is known at the two bounds of a word's slot.
use Rattle.std.proofs.Common.{◌+◌, ◌-◌, ◌/◌, ◌^◌, ◌<◌, get_or, arith}
use Rattle.stack_scan.proofs.SlotLaws.{slot_inside, some_address, around_word}
use Rattle.stack_scan.proofs.slots.Slots.ended.Goals as goal

pub ended_between-requires : goal.ended_between-requires
ended_between-requires c =
    let slots = c.args.self.now in
    let word = c.args.word in
    let size = 2 ^ slots.shift in
    let some = some_address slots.shift in
    let slot = (word - slots.low) / size in
    let inside : slot < 4096 =
    slot_inside slots.low c.args.high word size some c.requires.above c.requires.below c.requires.slots.reach in
    let around = around_word slots.low word size (get_or slots.ended slot 0) (get_or slots.ended (slot + 1) 0)
    c.args.ranges.now some c.requires.above
    (c.requires.slots.ended slot (omega arith)) (c.requires.slots.ended (slot + 1) (omega arith)) in
    record {
      order = c.requires.order;
      ascend = around.0;
      bound = around.1;
      below = around.2;
      above = around.3;
    }
