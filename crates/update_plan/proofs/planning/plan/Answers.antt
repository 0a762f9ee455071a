use Rattle.std.proofs.Common.{sym, subst}
use Rattle.std.proofs.lemmas.Result.{err_from_is_err_and}
use Rattle.ks_base.specs.Gives.{Gives}
use Rattle.symbol_solve.specs.Candidates.{Running}
use Rattle.update_plan.specs.declared.types.Plan.{Plan}
use Rattle.update_plan.proofs.Planned.{pre_ends, post_ends, post_goes_on}
use Rattle.update_plan.proofs.planning.plan.Goals as goal

pub returns : goal.returns
returns g c =
    let running : Running = record {
      contents = g.S.Space.contents c.args.space.now;
      symbols = c.args.symbols.now.symbols;
      bodies = c.args.bodies.now;
    } in
    subst (Gives (λ (plan : Plan). plan) c.plan_between.result)
    (sym (post_goes_on running c.args.retired.now c.args.gaps.now c.args.pre.now c.args.post.now c.in_ok-old.old
    c.in_ok-old.ensures c.in_ok-new.new c.in_ok-new.ensures)) c.plan_between.ensures

pub returns-in_err-old : goal.returns-in_err-old
returns-in_err-old g c =
    let running : Running = record {
      contents = g.S.Space.contents c.args.space.now;
      symbols = c.args.symbols.now.symbols;
      bodies = c.args.bodies.now;
    } in
    let p = err_from_is_err_and c.from_residual.result c.from_residual.ensures.1 in
    rw (p.1, p.2) (λ free. pre_ends running c.args.retired.now c.args.gaps.now c.args.pre.now c.args.post.now _
    (c.in_err-old.ensures free))

pub returns-in_err-new : goal.returns-in_err-new
returns-in_err-new g c =
    let running : Running = record {
      contents = g.S.Space.contents c.args.space.now;
      symbols = c.args.symbols.now.symbols;
      bodies = c.args.bodies.now;
    } in
    let refused = c.from_residual-in_err-new in
    let p = err_from_is_err_and refused.result refused.ensures.1 in
    rw (p.1, p.2) (λ free. post_ends running c.args.retired.now c.args.gaps.now c.args.pre.now c.args.post.now
    c.in_ok-old.old c.in_ok-old.ensures _ (c.in_err-new.ensures free))
