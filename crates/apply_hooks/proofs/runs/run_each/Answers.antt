use Rattle.std.proofs.Common.{ℕ, List, Result, Err, ap, sym, ◌∙◌}
use Rattle.ks_base.specs.declared.refusals.Refusal.{Refusal}
use Rattle.ks_base.specs.declared.refusals.Refusal.TheVariants.{HookFault, HookBudget}
use Rattle.update_stack.specs.declared.updates.HookEnd.TheVariants.{Faulted, Unreturned}
use Rattle.update_stack.specs.Aside.{AsItWas}
use Rattle.update_stack.specs.HookRuns.{Ran}
use Rattle.apply_hooks.proofs.RunsLaws.{all_have_run, ended, leaves_on, name_there, none_run, one_more}
use Rattle.apply_hooks.proofs.runs.run_each.Goals as goal

pub loop-at-init : goal.loop-at-init
loop-at-init g c = record {
  has =
      none_run c.args.hooks.now c.args.stack.low c.args.system.now.machine c.args.runs c.requires.waiting;
  aside = AsItWas;
  stands = c.requires.stands;
  phase = c.requires.done;
}

pub loop-at-preserved : goal.loop-at-preserved
loop-at-preserved g c =
    let before = c.args.system.now.machine in
    let now = c.loop-at.system.machine in
    let next = c.run_function.new.system.machine in
    record {
      has =
          one_more c.args.hooks.now c.args.stack.low before now c.loop-at.runs c.loop-at.at c.loop-at.invariant.has
          c.index-hooks-at.result c.loop-at-test.true c.index-hooks-at.is next c.set_steps.new.runs c.in-Returned.steps
          c.in-Returned.ensures.left c.set_steps.ensures;
      aside = leaves_on before now next c.loop-at.invariant.aside c.in-Returned.ensures.aside;
      stands = c.in-Returned.ensures.stands;
      phase = c.in-Returned.ensures.phase;
    }

pub returns-in-Faulted-clause-ran : goal.returns-in-Faulted-clause-ran
returns-in-Faulted-clause-ran g c =
    let before = c.args.system.now.machine in
    let now = c.loop-at.system.machine in
    let next = c.run_function.new.system.machine in
    let hook = c.index-hooks-at.result in
    let has = c.loop-at.invariant.has in
    let name = name_there c.args.hooks.now c.args.stack.low before now c.loop-at.runs c.loop-at.at has hook
    c.loop-at-test.true c.index-hooks-at.is c.take_name-function.result c.take_name-function.ensures in
    sym (ended c.args.hooks.now c.args.stack.low before now c.loop-at.runs c.loop-at.at has hook c.loop-at-test.true
    c.index-hooks-at.is next (Faulted c.in-Faulted.fault c.in-Faulted.pc) c.in-Faulted.ensures.left)
    ∙ ap (λ (n : List ℕ). let r : Result Ran Refusal = Err (HookFault n c.in-Faulted.fault c.in-Faulted.pc) in r)
    (sym name)

pub returns-in-Faulted-clause-aside : goal.returns-in-Faulted-clause-aside
returns-in-Faulted-clause-aside g c =
    leaves_on c.args.system.now.machine c.loop-at.system.machine c.run_function.new.system.machine
    c.loop-at.invariant.aside c.in-Faulted.ensures.aside

pub returns-in-Unreturned-clause-ran : goal.returns-in-Unreturned-clause-ran
returns-in-Unreturned-clause-ran g c =
    let before = c.args.system.now.machine in
    let now = c.loop-at.system.machine in
    let next = c.run_function.new.system.machine in
    let hook = c.index-hooks-at.result in
    let has = c.loop-at.invariant.has in
    let name = name_there c.args.hooks.now c.args.stack.low before now c.loop-at.runs c.loop-at.at has hook
    c.loop-at-test.true c.index-hooks-at.is c.take_name.result c.take_name.ensures in
    sym (ended c.args.hooks.now c.args.stack.low before now c.loop-at.runs c.loop-at.at has hook c.loop-at-test.true
    c.index-hooks-at.is next Unreturned c.in-Unreturned.ensures.left)
    ∙ ap (λ (n : List ℕ). let r : Result Ran Refusal = Err (HookBudget n) in r) (sym name)

pub returns-in-Unreturned-clause-aside : goal.returns-in-Unreturned-clause-aside
returns-in-Unreturned-clause-aside g c =
    leaves_on c.args.system.now.machine c.loop-at.system.machine c.run_function.new.system.machine
    c.loop-at.invariant.aside c.in-Unreturned.ensures.aside

pub returns-clause-ran : goal.returns-clause-ran
returns-clause-ran g c =
    sym (all_have_run c.args.hooks.now c.args.stack.low c.args.system.now.machine c.loop-at.system.machine
    c.loop-at.runs c.loop-at.at c.loop-at.invariant.has c.loop-at-test.false)
