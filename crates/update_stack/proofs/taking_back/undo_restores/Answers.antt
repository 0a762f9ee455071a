use Rattle.update_stack.specs.laws.DataLaws.{DataLaws}
use Rattle.update_stack.proofs.BuiltLaws.{MemoryLaws}
use Rattle.update_stack.proofs.FirstLaws.{starts_well}
use Rattle.update_stack.proofs.TakenBackLaws.{BackLaws, taken_back, homes_back}
use Rattle.update_stack.proofs.taking_back.undo_restores.Goals as goal

pub returns-clause-newest : goal.returns-clause-newest
returns-clause-newest c =
    let alone : DataLaws = record {
      written = c.data_alone_differ.ensures.written;
      put = c.data_alone_differ.ensures.put_back;
      on = c.data_alone_differ.ensures.on;
      valid = c.data_alone_differ.ensures.valid;
      left = c.data_alone_differ.ensures.left;
      fit = c.saved_data_come_back.ensures.fit;
      same = c.saved_data_come_back.ensures.same;
    } in
    let laws : MemoryLaws = record {
      pieces_valid = c.pieces_are_added.ensures.valid;
      pieces_fences = c.pieces_are_added.ensures.fences;
      pieces_given = c.pieces_are_added.ensures.given;
      pieces_code = c.pieces_are_added.ensures.code;
      pieces_spliced = c.pieces_are_added.ensures.spliced;
      pieces_back = c.changes_are_withdrawn.ensures.pieces;
      ranges_valid = c.ranges_are_retired.ensures.valid;
      ranges_pieces = c.ranges_are_retired.ensures.pieces;
      ranges_made = c.ranges_are_retired.ensures.ranges;
      ranges_kept = c.ranges_are_retired.ensures.kept;
      ranges_given = c.ranges_are_retired.ensures.given;
      ranges_back = c.changes_are_withdrawn.ensures.ranges;
    } in
    let back : BackLaws = record {
      event = record {
        memory = laws;
        plans = record { can = c.plans_can_be_made.ensures; replace = c.plans_replace_the_newest.ensures };
        free = λ contents free valid up low. record {
          ascend = c.gaps_are_free.ensures.ascend free contents.pieces up;
          low = c.gaps_are_free.ensures.below 0xFFFF_0000 free contents.pieces low;
          free = c.gaps_are_free.ensures.apart free contents.pieces;
        };
        goes = c.uncovered_updates_can_go.ensures.goes;
        hooked = c.hooks_are_updates.ensures;
        data_alone = alone;
      };
      left = record {
        valid = c.memory_stays_memory.ensures;
        ranges = c.changes_are_withdrawn.ensures.bare;
        code = c.code_that_stays.ensures.code;
      };
      stay = c.code_that_stays.ensures.bytes;
      jumps = record {
        added = c.jumps_are_added_and_replaced.ensures.added;
        over = c.jumps_are_added_and_replaced.ensures.replaced;
        valid = c.homes_stay_spliced.ensures.valid;
        spliced = c.homes_stay_spliced.ensures.jumped;
        taken_back = c.jumps_are_taken_back.ensures.all;
        dropped = c.dropping_goes_past_writes.ensures.jumped;
      };
    } in
    taken_back back (starts_well c.pieces_stay_placed.ensures)

pub returns-clause-homes : goal.returns-clause-homes
returns-clause-homes c =
    let alone : DataLaws = record {
      written = c.data_alone_differ.ensures.written;
      put = c.data_alone_differ.ensures.put_back;
      on = c.data_alone_differ.ensures.on;
      valid = c.data_alone_differ.ensures.valid;
      left = c.data_alone_differ.ensures.left;
      fit = c.saved_data_come_back.ensures.fit;
      same = c.saved_data_come_back.ensures.same;
    } in
    let laws : MemoryLaws = record {
      pieces_valid = c.pieces_are_added.ensures.valid;
      pieces_fences = c.pieces_are_added.ensures.fences;
      pieces_given = c.pieces_are_added.ensures.given;
      pieces_code = c.pieces_are_added.ensures.code;
      pieces_spliced = c.pieces_are_added.ensures.spliced;
      pieces_back = c.changes_are_withdrawn.ensures.pieces;
      ranges_valid = c.ranges_are_retired.ensures.valid;
      ranges_pieces = c.ranges_are_retired.ensures.pieces;
      ranges_made = c.ranges_are_retired.ensures.ranges;
      ranges_kept = c.ranges_are_retired.ensures.kept;
      ranges_given = c.ranges_are_retired.ensures.given;
      ranges_back = c.changes_are_withdrawn.ensures.ranges;
    } in
    let back : BackLaws = record {
      event = record {
        memory = laws;
        plans = record { can = c.plans_can_be_made.ensures; replace = c.plans_replace_the_newest.ensures };
        free = λ contents free valid up low. record {
          ascend = c.gaps_are_free.ensures.ascend free contents.pieces up;
          low = c.gaps_are_free.ensures.below 0xFFFF_0000 free contents.pieces low;
          free = c.gaps_are_free.ensures.apart free contents.pieces;
        };
        goes = c.uncovered_updates_can_go.ensures.goes;
        hooked = c.hooks_are_updates.ensures;
        data_alone = alone;
      };
      left = record {
        valid = c.memory_stays_memory.ensures;
        ranges = c.changes_are_withdrawn.ensures.bare;
        code = c.code_that_stays.ensures.code;
      };
      stay = c.code_that_stays.ensures.bytes;
      jumps = record {
        added = c.jumps_are_added_and_replaced.ensures.added;
        over = c.jumps_are_added_and_replaced.ensures.replaced;
        valid = c.homes_stay_spliced.ensures.valid;
        spliced = c.homes_stay_spliced.ensures.jumped;
        taken_back = c.jumps_are_taken_back.ensures.all;
        dropped = c.dropping_goes_past_writes.ensures.jumped;
      };
    } in
    homes_back back (starts_well c.pieces_stay_placed.ensures)
