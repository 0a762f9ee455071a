use Rattle.std.proofs.Common.{sym, subst}
use Rattle.std.proofs.lemmas.Result.{err_from_is_err_and}
use Rattle.ks_base.specs.Gives.{Gives}
use Rattle.symbol_solve.specs.Candidates.{Running}
use Rattle.update_plan.specs.declared.types.Plan.{Plan}
use Rattle.update_plan.proofs.Planned.{extract_ends, solution_ends, solution_goes_on}
use Rattle.update_plan.proofs.planning.plan_between.Goals as goal

pub returns : goal.returns
returns g c =
    let running : Running = record {
      contents = g.S.Space.contents c.args.program.now.space.now;
      symbols = c.args.program.now.symbols.now.symbols;
      bodies = c.args.program.now.bodies.now;
    } in
    subst (Gives (λ (plan : Plan). plan) c.plan_with.result)
    (sym (solution_goes_on running c.args.program.now.retired.now c.args.program.now.gaps.now c.args.objects.now.pre.now
    c.args.objects.now.post.now
    c.in_ok-extract.extract c.in_ok-extract.ensures c.in_ok-found.found.entries c.in_ok-found.ensures))
    c.plan_with.ensures

pub returns-in_err-extract : goal.returns-in_err-extract
returns-in_err-extract g c =
    let running : Running = record {
      contents = g.S.Space.contents c.args.program.now.space.now;
      symbols = c.args.program.now.symbols.now.symbols;
      bodies = c.args.program.now.bodies.now;
    } in
    let p = err_from_is_err_and c.from_residual.result c.from_residual.ensures.1 in
    rw (p.1, p.2) (λ free. extract_ends running c.args.program.now.retired.now c.args.program.now.gaps.now
    c.args.objects.now.pre.now c.args.objects.now.post.now _
    (c.in_err-extract.ensures free))

pub returns-in_err-found : goal.returns-in_err-found
returns-in_err-found g c =
    let running : Running = record {
      contents = g.S.Space.contents c.args.program.now.space.now;
      symbols = c.args.program.now.symbols.now.symbols;
      bodies = c.args.program.now.bodies.now;
    } in
    let refused = c.from_residual-in_err-found in
    let p = err_from_is_err_and refused.result refused.ensures.1 in
    rw (p.1, p.2) (λ free. solution_ends running c.args.program.now.retired.now c.args.program.now.gaps.now
    c.args.objects.now.pre.now c.args.objects.now.post.now
    c.in_ok-extract.extract c.in_ok-extract.ensures _
    (c.in_err-found.ensures free))
