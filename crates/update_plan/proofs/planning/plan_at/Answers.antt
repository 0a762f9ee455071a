use Rattle.std.proofs.Common.{Ok, sym, ap, ◌∙◌}
use Rattle.std.proofs.lemmas.Result.{err_from_is_err_and}
use Rattle.symbol_solve.specs.Candidates.{Running}
use Rattle.update_plan.specs.declared.types.Plan.{Plan}
use Rattle.update_plan.specs.Plan.{plan_of}
use Rattle.update_plan.specs.inside.Rests.{planned_at}
use Rattle.update_plan.proofs.Planned.{goes_on, ends}
use Rattle.update_plan.proofs.planning.plan_at.Goals as goal

pub returns : goal.returns
unfolding planned_at
returns g c = λ symbols bodies.
    let running : Running = record {
      contents = g.S.Space.contents c.args.program.now.space.now;
      symbols = symbols;
      bodies = bodies;
    } in
    let made = plan_of running c.args.objects.now.pre.now c.args.objects.now.post.now
    c.args.values.now.entries c.args.olds.now c.args.parts.now in
    goes_on _ c.in_ok-placement.placement (λ placement. Ok (made placement)) c.in_ok-placement.ensures.places
    ∙ ap (λ (plan : Plan). Ok plan) (sym (c.in_ok-plan_of.ensures symbols bodies))

pub returns-in_err-placement : goal.returns-in_err-placement
unfolding planned_at
returns-in_err-placement g c = λ symbols bodies.
    let running : Running = record {
      contents = g.S.Space.contents c.args.program.now.space.now;
      symbols = symbols;
      bodies = bodies;
    } in
    let made = plan_of running c.args.objects.now.pre.now c.args.objects.now.post.now
    c.args.values.now.entries c.args.olds.now c.args.parts.now in
    let p = err_from_is_err_and c.from_residual.result c.from_residual.ensures.1 in
    rw (p.1, p.2) (λ free. ends _ _ (λ placement. Ok (made placement)) (c.in_err-placement.ensures.places free))
