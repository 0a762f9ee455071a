use Rattle.std.proofs.Common.{ℕ, List, nat_eq, ap, ◌∙◌, arith}
use Rattle.indexmap.specs.IndexMap.{insert_all}
use Rattle.ks_base.specs.declared.reports.Replaced.{Replaced}
use Rattle.update_stack.specs.AbstractMachine.{jump_rows}
use Rattle.update_stack.proofs.LiveLaws.{next_put}
use Rattle.update_stack.proofs.live.newest_bases.Goals as goal

pub loop-update-preserved : goal.loop-update-preserved
loop-update-preserved c =
    c.in_ok-put_replaced.ensures
    ∙ ap (λ (more : List Replaced). insert_all nat_eq c.loop-update.bases.entries (jump_rows more)) c.as_slice.ensures
    ∙ ap (λ (rows : List (ℕ × ℕ)). insert_all nat_eq rows (jump_rows c.update-item.result.report.replaced))
    c.loop-update.invariant
    ∙ next_put c.args.updates.now c.loop-update.update-index c.update-item.result (omega arith) c.update-item.is
