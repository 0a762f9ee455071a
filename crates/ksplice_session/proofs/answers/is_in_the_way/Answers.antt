use Rattle.std.proofs.Common.{◌∙◌, ap, sym, Result}
use Rattle.ks_base.specs.declared.refusals.Refusal.{Refusal}
use Rattle.update_stack.specs.PlanType.{Plan}
use Rattle.update_stack.specs.Phases.{Phased}
use Rattle.update_stack.specs.Standing.{thread_refusal}
use Rattle.ksplice_session.specs.Replies.{is_busy}
use Rattle.ksplice_session.specs.inside.Trying.{checked}
use Rattle.ksplice_session.proofs.TryLaws.{checked_by}
use Rattle.ksplice_session.proofs.answers.is_in_the_way.Goals as goal

pub returns-in-Ok : goal.returns-in-Ok
returns-in-Ok c =
    let k = c.args.session.now.machine in
    let plan = c.in-Ok.planned in
    c.is_busy.ensures
    ∙ checked_by k plan c.check_threads-outcome.result
    (c.check_threads-outcome.ensures
    ∙ ap (λ (seen : Phased). thread_refusal seen.machine.pieces plan.guarded seen.machine.threads) c.system.ensures)
    ∙ ap (λ (r : Result Plan Refusal). is_busy (checked k r)) (sym c.in-Ok.is)
