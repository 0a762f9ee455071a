use Rattle.update_stack.proofs.LeftLaws.{LeftLaws}
use Rattle.update_stack.proofs.UndoLaws.{Laws, can_be_taken, held_without, free_at, leaves_at}
use Rattle.update_stack.proofs.withdrawing.updates_are_taken_back.Goals as goal

pub returns-clause-can : goal.returns-clause-can
returns-clause-can c program arena updates kept at holds clear =
    let laws : Laws = record {
      added = c.jumps_are_added_and_replaced.ensures.added;
      over = c.jumps_are_added_and_replaced.ensures.replaced;
      valid = c.homes_stay_spliced.ensures.valid;
      spliced = c.homes_stay_spliced.ensures.jumped;
      taken_back = c.jumps_are_taken_back.ensures.all;
      stays = c.code_stays_code.ensures.stays;
      places = c.jumps_change_their_bytes_alone.ensures.ranges;
      past_jumps = c.dropping_goes_past_writes.ensures.jumped;
      past_olds = c.dropping_goes_past_writes.ensures.unjumped;
      was_there = c.code_that_stays.ensures.code;
      ranges = c.changes_are_withdrawn.ensures.bare;
    } in
    let left : LeftLaws = record {
      valid = c.memory_stays_memory.ensures;
      ranges = c.changes_are_withdrawn.ensures.bare;
      code = c.code_that_stays.ensures.code;
    } in
    can_be_taken laws program arena updates kept at holds
    (free_at laws program arena updates kept at holds clear)
    (leaves_at laws program arena updates kept at holds clear left c.code_that_stays.ensures.bytes)

pub returns-clause-held : goal.returns-clause-held
returns-clause-held c before after arena updates kept at holds clear is =
    let laws : Laws = record {
      added = c.jumps_are_added_and_replaced.ensures.added;
      over = c.jumps_are_added_and_replaced.ensures.replaced;
      valid = c.homes_stay_spliced.ensures.valid;
      spliced = c.homes_stay_spliced.ensures.jumped;
      taken_back = c.jumps_are_taken_back.ensures.all;
      stays = c.code_stays_code.ensures.stays;
      places = c.jumps_change_their_bytes_alone.ensures.ranges;
      past_jumps = c.dropping_goes_past_writes.ensures.jumped;
      past_olds = c.dropping_goes_past_writes.ensures.unjumped;
      was_there = c.code_that_stays.ensures.code;
      ranges = c.changes_are_withdrawn.ensures.bare;
    } in
    let left : LeftLaws = record {
      valid = c.memory_stays_memory.ensures;
      ranges = c.changes_are_withdrawn.ensures.bare;
      code = c.code_that_stays.ensures.code;
    } in
    held_without laws before arena updates kept at holds
    (free_at laws before arena updates kept at holds clear)
    (leaves_at laws before arena updates kept at holds clear left c.code_that_stays.ensures.bytes) after is
