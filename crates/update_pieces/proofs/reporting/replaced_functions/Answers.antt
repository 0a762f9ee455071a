use Rattle.std.proofs.Common.{◌++◌, sym, ap, ◌∙◌, arith, option_to_list}
use Rattle.update_pieces.specs.Reports.{replaced_of}
use Rattle.update_pieces.proofs.Steps.{filter_map_more}
use Rattle.update_pieces.proofs.reporting.replaced_functions.Goals as goal

pub loop-part-preserved : goal.loop-part-preserved
loop-part-preserved c =
    let olds = c.args.olds.now in
    let placed = c.args.placed.now in
    let i = c.loop-part.part-index in
    c.in_ok-add_replaced.ensures olds c.in_ok-by_section.ensures
    ∙ ap (λ replaced. replaced ++ option_to_list (replaced_of olds c.part-item.result)) c.loop-part.invariant
    ∙ sym (filter_map_more (replaced_of olds) placed i c.part-item.result (omega arith) c.part-item.is)
