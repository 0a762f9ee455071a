use Rattle.std.proofs.Common.{◌++◌, ◌∷◌, [], sym, ap, ◌∙◌, arith}
use Rattle.update_plan.specs.Olds.{olds_of}
use Rattle.update_plan.proofs.Steps.{olds_more}
use Rattle.update_plan.proofs.olds.olds_of.Goals as goal

pub loop-section-init : goal.loop-section-init
unfolding olds_of
loop-section-init c = c.new-olds.ensures.items

pub loop-section-preserved : goal.loop-section-preserved
loop-section-preserved c =
    let extract = c.args.extract.now in
    let values = c.args.values.now.entries in
    let sections = c.as_slice-section-items.result.now in
    let section = c.section-item.result in
    c.in_ok-add_old.ensures extract c.in_ok-fates.ensures
    ∙ ap (λ olds. olds ++ olds_of extract values (section ∷ [])) c.loop-section.invariant
    ∙ sym (olds_more extract values sections c.loop-section.section-index section (omega arith) c.section-item.is)
