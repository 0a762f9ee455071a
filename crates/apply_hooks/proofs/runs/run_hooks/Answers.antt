use Rattle.std.proofs.Common.{◌+◌, ◌≤◌, IsSome, arith, refl, sym, ◌∙◌, subst}
use Rattle.std.proofs.lemmas.Result.{err_from_is_err_and}
use Rattle.update_stack.specs.HookRuns.{scratch_range}
use Rattle.update_stack.specs.Phases.{Phased}
use Rattle.apply_hooks.specs.Runs.{LeavesRuns, NoneRan, SomeRan}
use Rattle.apply_hooks.proofs.HookingLaws.{aside_scratch}
use Rattle.apply_hooks.proofs.ScratchLaws.{no_scratch, on_err, ran_on, scratch_ends}
use Rattle.apply_hooks.proofs.runs.run_hooks.Goals as goal

pub returns-in_err-runs-clause-left : goal.returns-in_err-runs-clause-left
returns-in_err-runs-clause-left g c = on_err c.from_residual.result _ NoneRan

pub returns-in_err-base-clause-ran : goal.returns-in_err-base-clause-ran
returns-in_err-base-clause-ran g c =
    let p = err_from_is_err_and c.from_residual-in_err-base.result c.from_residual-in_err-base.ensures.1 in
    rw (p.1, p.2)
    (λ other. no_scratch c.args.hooks.now c.args.system.now.machine _ (c.in_err-base.ensures.added other))

pub returns-in_err-base-clause-left : goal.returns-in_err-base-clause-left
returns-in_err-base-clause-left g c =
    on_err c.from_residual-in_err-base.result _
    (subst (λ (s : Phased). LeavesRuns c.args.system.now.machine s.machine) (sym c.in_err-base.ensures.refused) NoneRan)

pub overflow_add-stack : goal.overflow_add-stack
overflow_add-stack g c =
    let k = c.args.system.now.machine in
    let ready = c.add_scratch.new.self.machine in
    let base = c.in_ok-base.base in
    let came = c.scratch_comes_and_goes.ensures k ready base c.machine-program.ensures.built c.requires.none
    c.in_ok-base.ensures.added in
    let low : base + 4096 ≤ 0xFFFF_0000 = scratch_ends k ready base came in
    omega (arith, low)

pub drop_scratch-requires-clause-some : goal.drop_scratch-requires-clause-some
drop_scratch-requires-clause-some g c =
    let k = c.args.system.now.machine in
    let ready = c.add_scratch.new.self.machine in
    let base = c.in_ok-base.base in
    let came = c.scratch_comes_and_goes.ensures k ready base c.machine-program.ensures.built c.requires.none
    c.in_ok-base.ensures.added in
    subst IsSome
    (sym (aside_scratch ready c.run_on-ran.new.system.machine c.run_on-ran.ensures.aside ∙ came.scratch)) refl

pub returns-clause-ran : goal.returns-clause-ran
returns-clause-ran g c =
    ran_on c.args.hooks.now c.args.system.now.machine c.add_scratch.new.self.machine c.run_on-ran.new.system.machine
    c.drop_scratch.new.self.machine c.in_ok-base.base c.run_on-ran.result c.in_ok-base.ensures.added
    c.drop_scratch.ensures.dropped c.run_on-ran.ensures.ran

pub returns-clause-left : goal.returns-clause-left
returns-clause-left g c =
    let k = c.args.system.now.machine in
    let ready = c.add_scratch.new.self.machine in
    let base = c.in_ok-base.base in
    let came = c.scratch_comes_and_goes.ensures k ready base c.machine-program.ensures.built c.requires.none
    c.in_ok-base.ensures.added in
    on_err c.run_on-ran.result _
    (subst (LeavesRuns k) (sym c.drop_scratch.ensures.dropped)
    (SomeRan ready c.run_on-ran.new.system.machine (scratch_range base) came.built came.scratch came.goes
    c.run_on-ran.ensures.aside))
