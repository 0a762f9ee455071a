use Rattle.update_stack.specs.AbstractMachine.{contents_of}
use Rattle.update_stack.specs.Systems.{machine_of}
use Rattle.update_stack.specs.laws.StackedLaws.{built_sound}
use Rattle.update_stack.proofs.CarryLaws.{Laws, plan_fits, homes_end, holds_after}
use Rattle.update_stack.proofs.carrying.plans_are_carried_out.Goals as goal

pub returns-clause-fits : goal.returns-clause-fits
returns-clause-fits c program arena updates kept plan jumps holds can rows =
    let laws : Laws = record {
      memory = record {
        pieces_valid = c.pieces_are_added.ensures.valid;
        pieces_fences = c.pieces_are_added.ensures.fences;
        pieces_given = c.pieces_are_added.ensures.given;
        pieces_code = c.pieces_are_added.ensures.code;
        pieces_spliced = c.pieces_are_added.ensures.spliced;
        pieces_back = c.changes_are_withdrawn.ensures.pieces;
        ranges_valid = c.ranges_are_retired.ensures.valid;
        ranges_pieces = c.ranges_are_retired.ensures.pieces;
        ranges_made = c.ranges_are_retired.ensures.ranges;
        ranges_kept = c.ranges_are_retired.ensures.kept;
        ranges_given = c.ranges_are_retired.ensures.given;
        ranges_back = c.changes_are_withdrawn.ensures.ranges;
      };
      added = c.jumps_are_added_and_replaced.ensures.added;
      over = c.jumps_are_added_and_replaced.ensures.replaced;
      valid = c.homes_stay_spliced.ensures.valid;
      spliced = c.homes_stay_spliced.ensures.jumped;
      taken_back = c.jumps_are_taken_back.ensures.all;
      stays = c.code_stays_code.ensures.stays;
      places = c.jumps_change_their_bytes_alone.ensures.ranges;
      bytes = c.pieces_are_added.ensures.bytes;
      past_olds = c.pieces_are_added_past_code.ensures.old;
      past_jumps = c.pieces_are_added_past_code.ensures.jumps;
      was_there = c.code_that_stays.ensures.code;
    } in
    plan_fits laws program arena updates kept holds plan can jumps rows

pub returns-clause-ends : goal.returns-clause-ends
returns-clause-ends c program arena updates kept plan holds can =
    let k = machine_of program arena updates kept in
    homes_end c.code_stays_code.ensures.ends (contents_of k) plan (built_sound k holds.built).jumps.valid can

pub returns-clause-holds : goal.returns-clause-holds
returns-clause-holds c before after arena updates kept name plan jumps one holds can replace new is has =
    let laws : Laws = record {
      memory = record {
        pieces_valid = c.pieces_are_added.ensures.valid;
        pieces_fences = c.pieces_are_added.ensures.fences;
        pieces_given = c.pieces_are_added.ensures.given;
        pieces_code = c.pieces_are_added.ensures.code;
        pieces_spliced = c.pieces_are_added.ensures.spliced;
        pieces_back = c.changes_are_withdrawn.ensures.pieces;
        ranges_valid = c.ranges_are_retired.ensures.valid;
        ranges_pieces = c.ranges_are_retired.ensures.pieces;
        ranges_made = c.ranges_are_retired.ensures.ranges;
        ranges_kept = c.ranges_are_retired.ensures.kept;
        ranges_given = c.ranges_are_retired.ensures.given;
        ranges_back = c.changes_are_withdrawn.ensures.ranges;
      };
      added = c.jumps_are_added_and_replaced.ensures.added;
      over = c.jumps_are_added_and_replaced.ensures.replaced;
      valid = c.homes_stay_spliced.ensures.valid;
      spliced = c.homes_stay_spliced.ensures.jumped;
      taken_back = c.jumps_are_taken_back.ensures.all;
      stays = c.code_stays_code.ensures.stays;
      places = c.jumps_change_their_bytes_alone.ensures.ranges;
      bytes = c.pieces_are_added.ensures.bytes;
      past_olds = c.pieces_are_added_past_code.ensures.old;
      past_jumps = c.pieces_are_added_past_code.ensures.jumps;
      was_there = c.code_that_stays.ensures.code;
    } in
    holds_after laws before arena updates kept holds plan can name new replace after jumps one is has
