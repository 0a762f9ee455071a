use Rattle.update_stack.proofs.AcceptedLaws.{accepted_on_top, jumps_on_top, singles_replace_one}
use Rattle.update_stack.proofs.BuiltLaws.{MemoryLaws}
use Rattle.update_stack.proofs.accepted.accepted_updates_lie_on_top.Goals as goal

pub returns-clause-accepted : goal.returns-clause-accepted
returns-clause-accepted c =
    let laws : MemoryLaws = record {
      pieces_valid = c.pieces_are_added.ensures.valid;
      pieces_fences = c.pieces_are_added.ensures.fences;
      pieces_given = c.pieces_are_added.ensures.given;
      pieces_code = c.pieces_are_added.ensures.code;
      pieces_spliced = c.pieces_are_added.ensures.spliced;
      pieces_back = c.changes_are_withdrawn.ensures.pieces;
      ranges_valid = c.ranges_are_retired.ensures.valid;
      ranges_pieces = c.ranges_are_retired.ensures.pieces;
      ranges_made = c.ranges_are_retired.ensures.ranges;
      ranges_kept = c.ranges_are_retired.ensures.kept;
      ranges_given = c.ranges_are_retired.ensures.given;
      ranges_back = c.changes_are_withdrawn.ensures.ranges;
    } in
    accepted_on_top laws c.pieces_are_added.ensures.kept
    (record {
      can = c.plans_can_be_made.ensures;
      replace = c.plans_replace_the_newest.ensures;
    })
    c.gaps_are_free.ensures.ascend c.gaps_are_free.ensures.below c.gaps_are_free.ensures.apart

pub returns-clause-jumps : goal.returns-clause-jumps
returns-clause-jumps c =
    jumps_on_top c.jumps_are_added_and_replaced.ensures.added c.jumps_are_added_and_replaced.ensures.replaced

pub returns-clause-single : goal.returns-clause-single
returns-clause-single c =
    singles_replace_one c.replaced_functions_have_new_code.ensures c.gaps_are_free.ensures.ascend
    c.single_changes_are_reported.ensures
