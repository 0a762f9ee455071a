use Rattle.std.proofs.Common.{Result, Ok, slice_get, sym, ◌∙◌, ap, subst}
use Rattle.std.proofs.lemmas.Result.{err_from_is_err_and}
use Rattle.ks_base.specs.declared.refusals.Refusal.{Refusal}
use Rattle.ks_base.specs.declared.reports.Report.{Report}
use Rattle.update_stack.specs.Phases.{Phased, phased}
use Rattle.update_stack.specs.Stacked.{IsBuilt}
use Rattle.live_poke.specs.Poke.{marked_at}
use Rattle.live_poke.proofs.SystemLaws.{mark_closed, mark_single, mark_applied, mark_made, may_open}
use Rattle.live_poke.proofs.live.LiveSystem.mark.Goals as goal

pub returns-in_err-check_closed-clause-answered : goal.returns-in_err-check_closed-clause-answered
returns-in_err-check_closed-clause-answered g c =
    let p = err_from_is_err_and c.from_residual.result c.from_residual.ensures.1 in
    rw (p.1, p.2)
    (λ other. mark_closed c.args.self.now c.args.name.now c.args.pre.now c.args.post.now _
    (c.in_err-check_closed.ensures.refused other))

pub returns-in_err-check_one_changed-clause-answered :
    goal.returns-in_err-check_one_changed-clause-answered
returns-in_err-check_one_changed-clause-answered g c =
    let p = err_from_is_err_and c.from_residual-in_err-check_one_changed.result
    c.from_residual-in_err-check_one_changed.ensures.1 in
    rw (p.1, p.2)
    (λ other. mark_single c.args.self.now c.args.name.now c.args.pre.now c.args.post.now _
    c.in_ok-check_closed.ensures.refused (c.in_err-check_one_changed.ensures other))

pub returns-in_err-report-clause-answered : goal.returns-in_err-report-clause-answered
returns-in_err-report-clause-answered g c =
    let p = err_from_is_err_and c.from_residual-in_err-report.result c.from_residual-in_err-report.ensures.1 in
    rw (p.1, p.2)
    (λ other. mark_applied c.args.self.now c.args.name.now c.args.pre.now c.args.post.now _
    c.in_ok-check_closed.ensures.refused c.in_ok-check_one_changed.ensures c.self.inside.system c.self.view_is
    (c.in_err-report.ensures.answered other))

pub open_one-requires-clause-replaced : goal.open_one-requires-clause-replaced
open_one-requires-clause-replaced g c =
    let live = c.args.self.now in
    let report = c.in_ok-report.report in
    let now = phased c.apply.new.self.machine (marked_at (slice_get report.replaced 0)) in
    let built = subst (λ (seen : Phased). IsBuilt seen.machine) c.self.view_is c.machine-program.ensures.built in
    may_open live now c.args.name.now c.args.pre.now c.args.post.now report
    (c.first_writes_open_one_home.ensures live now c.args.name.now c.args.pre.now c.args.post.now report built
    (mark_made live c.args.name.now c.args.pre.now c.args.post.now c.apply.new.self.machine report
    c.in_ok-check_closed.ensures.refused c.in_ok-check_one_changed.ensures c.self.inside.system c.self.view_is
    c.in_ok-report.ensures.answered))

pub returns-clause-answered : goal.returns-clause-answered
returns-clause-answered g c =
    let report = c.in_ok-report.report in
    mark_made c.args.self.now c.args.name.now c.args.pre.now c.args.post.now c.apply.new.self.machine report
    c.in_ok-check_closed.ensures.refused c.in_ok-check_one_changed.ensures c.self.inside.system c.self.view_is
    c.in_ok-report.ensures.answered
    ∙ ap (λ (now : Phased). let r : Result (Phased × Report) Refusal = Ok (now, report) in r) (sym c.open_one.ensures)

pub returns-clause-marked : goal.returns-clause-marked
returns-clause-marked g c =
    let live = c.args.self.now in
    let report = c.in_ok-report.report in
    let built = subst (λ (seen : Phased). IsBuilt seen.machine) c.self.view_is c.machine-program.ensures.built in
    c.first_writes_open_one_home.ensures live c.open_one.new.self c.args.name.now c.args.pre.now c.args.post.now report
    built
    (mark_made live c.args.name.now c.args.pre.now c.args.post.now c.apply.new.self.machine report
    c.in_ok-check_closed.ensures.refused c.in_ok-check_one_changed.ensures c.self.inside.system c.self.view_is
    c.in_ok-report.ensures.answered
    ∙ ap (λ (now : Phased). let r : Result (Phased × Report) Refusal = Ok (now, report) in r) (sym c.open_one.ensures))
