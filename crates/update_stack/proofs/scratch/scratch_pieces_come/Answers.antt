use Rattle.update_stack.proofs.CarryLaws.{Laws}
use Rattle.update_stack.proofs.ScratchHoldsLaws.{holds_with}
use Rattle.update_stack.proofs.scratch.scratch_pieces_come.Goals as goal

pub returns : goal.returns
returns c before after arena updates kept range holds bare placeable clear is =
    let laws : Laws = record {
      memory = record {
        pieces_valid = c.pieces_are_added.ensures.valid;
        pieces_fences = c.pieces_are_added.ensures.fences;
        pieces_given = c.pieces_are_added.ensures.given;
        pieces_code = c.pieces_are_added.ensures.code;
        pieces_spliced = c.pieces_are_added.ensures.spliced;
        pieces_back = c.changes_are_withdrawn.ensures.pieces;
        ranges_valid = c.ranges_are_retired.ensures.valid;
        ranges_pieces = c.ranges_are_retired.ensures.pieces;
        ranges_made = c.ranges_are_retired.ensures.ranges;
        ranges_kept = c.ranges_are_retired.ensures.kept;
        ranges_given = c.ranges_are_retired.ensures.given;
        ranges_back = c.changes_are_withdrawn.ensures.ranges;
      };
      added = c.jumps_are_added_and_replaced.ensures.added;
      over = c.jumps_are_added_and_replaced.ensures.replaced;
      valid = c.homes_stay_spliced.ensures.valid;
      spliced = c.homes_stay_spliced.ensures.jumped;
      taken_back = c.jumps_are_taken_back.ensures.all;
      stays = c.code_stays_code.ensures.stays;
      places = c.jumps_change_their_bytes_alone.ensures.ranges;
      bytes = c.pieces_are_added.ensures.bytes;
      past_olds = c.pieces_are_added_past_code.ensures.old;
      past_jumps = c.pieces_are_added_past_code.ensures.jumps;
      was_there = c.code_that_stays.ensures.code;
    } in
    holds_with laws c.pieces_are_added.ensures.kept before arena updates kept holds bare range placeable clear after is
