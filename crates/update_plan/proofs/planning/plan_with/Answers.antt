use Rattle.std.proofs.Common.{List, sym, ap, ◌∙◌, subst}
use Rattle.std.proofs.lemmas.Result.{err_from_is_err_and}
use Rattle.ks_base.specs.Gives.{Gives}
use Rattle.symbol_solve.specs.Candidates.{Running}
use Rattle.update_retired.specs.declared.types.OldFunction.{OldFunction}
use Rattle.update_pieces.specs.Parts.{NewPart}
use Rattle.update_plan.specs.declared.types.Plan.{Plan}
use Rattle.update_plan.specs.inside.Rests.{planned_at}
use Rattle.update_plan.proofs.Planned.{values_end, olds_end, olds_go_on}
use Rattle.update_plan.proofs.planning.plan_with.Goals as goal

pub returns : goal.returns
returns g c =
    let running : Running = record {
      contents = g.S.Space.contents c.args.program.now.space.now;
      symbols = c.args.program.now.symbols.now.symbols;
      bodies = c.args.program.now.bodies.now;
    } in
    let gaps = c.args.program.now.gaps.now in
    let pre = c.args.objects.now.pre.now in
    let post = c.args.objects.now.post.now in
    let values = c.in_ok-values.values.entries in
    let olds = c.in_ok-olds.olds.items in
    let goes_on = olds_go_on running c.args.program.now.retired.now gaps pre post
    c.args.extract.now
    c.args.found.now.entries c.as_slice.result.now (c.as_slice.ensures.value ∙ c.in_ok-parts.ensures.parts) values
    c.in_ok-values.ensures olds c.in_ok-olds.ensures.olds in
    let same_parts = ap (λ (parts : List NewPart). planned_at running gaps pre post parts values olds)
    (c.as_slice.ensures.value ∙ sym c.as_slice-2.ensures.value) in
    let same_olds = ap (λ (olds : List OldFunction). planned_at running gaps pre post c.as_slice-2.result.now values olds)
    (sym c.as_slice-3.ensures.value) in
    subst (Gives (λ (plan : Plan). plan) c.plan_at.result) (sym (goes_on ∙ same_parts ∙ same_olds))
    (c.plan_at.ensures running.symbols running.bodies)

pub returns-in_err-values : goal.returns-in_err-values
returns-in_err-values g c =
    let running : Running = record {
      contents = g.S.Space.contents c.args.program.now.space.now;
      symbols = c.args.program.now.symbols.now.symbols;
      bodies = c.args.program.now.bodies.now;
    } in
    let refused = c.from_residual-in_err-values in
    let p = err_from_is_err_and refused.result refused.ensures.1 in
    rw (p.1, p.2) (λ free. values_end running c.args.program.now.retired.now c.args.program.now.gaps.now
    c.args.objects.now.pre.now c.args.objects.now.post.now
    c.args.extract.now c.args.found.now.entries c.as_slice.result.now
    (c.as_slice.ensures.value ∙ c.in_ok-parts.ensures.parts) _ (c.in_err-values.ensures free))

pub returns-in_err-olds : goal.returns-in_err-olds
returns-in_err-olds g c =
    let running : Running = record {
      contents = g.S.Space.contents c.args.program.now.space.now;
      symbols = c.args.program.now.symbols.now.symbols;
      bodies = c.args.program.now.bodies.now;
    } in
    let refused = c.from_residual-in_err-olds in
    let p = err_from_is_err_and refused.result refused.ensures.1 in
    rw (p.1, p.2) (λ free. olds_end running c.args.program.now.retired.now c.args.program.now.gaps.now
    c.args.objects.now.pre.now c.args.objects.now.post.now
    c.args.extract.now c.args.found.now.entries c.as_slice.result.now
    (c.as_slice.ensures.value ∙ c.in_ok-parts.ensures.parts) c.in_ok-values.values.entries c.in_ok-values.ensures _
    (c.in_err-olds.ensures.olds free))
