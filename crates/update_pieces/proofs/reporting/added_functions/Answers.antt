use Rattle.std.proofs.Common.{◌++◌, sym, ap, ◌∙◌, arith, option_to_list}
use Rattle.update_pieces.specs.Reports.{added_of}
use Rattle.update_pieces.proofs.Steps.{filter_map_more}
use Rattle.update_pieces.proofs.reporting.added_functions.Goals as goal

pub loop-part-preserved : goal.loop-part-preserved
loop-part-preserved c =
    let placed = c.args.placed.now in
    let i = c.loop-part.part-index in
    c.in_ok-add_added.ensures
    ∙ ap (λ added. added ++ option_to_list (added_of c.part-item.result)) c.loop-part.invariant
    ∙ sym (filter_map_more added_of placed i c.part-item.result (omega arith) c.part-item.is)
