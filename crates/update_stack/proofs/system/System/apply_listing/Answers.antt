use Rattle.std.proofs.Common.{◌≡◌, Result, IsOkAnd, sym, subst}
use Rattle.std.proofs.lemmas.Result.{err_from_is_err_and}
use Rattle.ks_base.specs.declared.refusals.Refusal.{Refusal}
use Rattle.update_plan.specs.declared.types.Plan.{Plan}
use Rattle.update_stack.proofs.ApplyLaws.{plan_refused, thread_refused, plan_accepted}
use Rattle.update_stack.proofs.system.System.apply_listing.Goals as goal

pub returns-in_err-planned-clause-answered : goal.returns-in_err-planned-clause-answered
returns-in_err-planned-clause-answered g c =
    let p = err_from_is_err_and c.from_residual.result c.from_residual.ensures.1 in
    rw (p.1, p.2)
    (λ other. plan_refused c.args.self.now.machine c.args.name.now c.args.pre.now c.args.post.now _
    (c.in_err-planned.ensures other))

pub returns-in_err-check_threads-clause-answered : goal.returns-in_err-check_threads-clause-answered
returns-in_err-check_threads-clause-answered g c =
    let p = err_from_is_err_and c.from_residual-in_err-check_threads.result
    c.from_residual-in_err-check_threads.ensures.1 in
    rw (p.1, p.2)
    (λ other. thread_refused c.args.self.now.machine c.args.name.now c.args.pre.now c.args.post.now
    c.in_ok-planned.planned _ c.in_ok-planned.ensures (sym c.in_err-check_threads.ensures))

pub apply_planned-requires-clause-planned : goal.apply_planned-requires-clause-planned
apply_planned-requires-clause-planned g c =
    record { pre_file = c.args.pre.now; post_file = c.args.post.now; is = c.in_ok-planned.ensures }

pub apply_planned-requires-clause-clear : goal.apply_planned-requires-clause-clear
apply_planned-requires-clause-clear g c = sym c.in_ok-check_threads.ensures

pub returns-clause-answered : goal.returns-clause-answered
returns-clause-answered g c =
    c.in_ok-apply_planned.ensures.answered c.args.pre.now c.args.post.now c.in_ok-planned.ensures

pub returns-clause-listed : goal.returns-clause-listed
returns-clause-listed g c =
    subst (λ (r : Result Plan Refusal). IsOkAnd r (λ plan. plan.hooks ≡ c.in_ok-apply_planned.field-0.1))
    (sym (plan_accepted c.args.self.now.machine c.args.name.now c.args.pre.now c.args.post.now c.in_ok-planned.planned
    c.in_ok-planned.ensures (sym c.in_ok-check_threads.ensures)))
    (sym c.in_ok-apply_planned.ensures.listed)
