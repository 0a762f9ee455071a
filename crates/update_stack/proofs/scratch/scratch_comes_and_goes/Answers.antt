use Rattle.update_stack.proofs.BuiltLaws.{MemoryLaws}
use Rattle.update_stack.proofs.ScratchMachineLaws.{comes_and_goes}
use Rattle.update_stack.proofs.scratch.scratch_comes_and_goes.Goals as goal

pub returns : goal.returns
returns c =
    let laws : MemoryLaws = record {
      pieces_valid = c.pieces_are_added.ensures.valid;
      pieces_fences = c.pieces_are_added.ensures.fences;
      pieces_given = c.pieces_are_added.ensures.given;
      pieces_code = c.pieces_are_added.ensures.code;
      pieces_spliced = c.pieces_are_added.ensures.spliced;
      pieces_back = c.changes_are_withdrawn.ensures.pieces;
      ranges_valid = c.ranges_are_retired.ensures.valid;
      ranges_pieces = c.ranges_are_retired.ensures.pieces;
      ranges_made = c.ranges_are_retired.ensures.ranges;
      ranges_kept = c.ranges_are_retired.ensures.kept;
      ranges_given = c.ranges_are_retired.ensures.given;
      ranges_back = c.changes_are_withdrawn.ensures.ranges;
    } in
    comes_and_goes laws c.pieces_are_added.ensures.kept c.pieces_are_added.ensures.bytes c.places_are_lowest.ensures.some
    c.gaps_are_free.ensures.ascend c.gaps_are_free.ensures.below c.gaps_are_free.ensures.apart
