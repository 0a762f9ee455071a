use Rattle.std.proofs.Common.{◌<◌, ◌≤◌, ℕ, ap, sym, ◌∙◌, subst}
use Rattle.update_stack.specs.laws.DataLaws.{DataLaws}
use Rattle.update_stack.specs.laws.StackedLaws.{built_sound}
use Rattle.ia32_step.specs.declared.types.State.TheVariants.{Running, Exited, Stopped}
use Rattle.ia32_step.specs.declared.types.Thread.{Thread}
use Rattle.image_threads.specs.Spawning.{first_thread}
use Rattle.apply_hooks.proofs.RunLaws.{aside_fresh, aside_stepped, begins, budget_is, fresh_fits, none_left, steps_on}
use Rattle.apply_hooks.proofs.RunLaws.{still_stands}
use Rattle.apply_hooks.proofs.run.run_function.Goals as goal

pub put_back-requires-clause-fit : goal.put_back-requires-clause-fit
put_back-requires-clause-fit g c =
    fresh_fits c.args.system.now.machine.pieces c.args.stack c.args.stack.low c.args.fresh_stack.now
    c.requires.scratch c.requires.stands c.requires.fresh

pub loop-made-init : goal.loop-made-init
loop-made-init g c =
    let k = c.args.system.now.machine in
    record {
      rest =
          begins k c.put_back.new.self.machine c.first_thread-thread.result c.args.stack c.args.stack.low c.args.address
          c.args.fresh_stack.now c.requires.scratch c.requires.fresh c.put_back.ensures.put
          c.first_thread-thread.ensures;
      running = ap (λ (t : Thread). t.state) {y = first_thread 0 c.args.stack c.args.address} c.first_thread-thread.ensures;
      aside =
          aside_fresh k c.put_back.new.self.machine c.args.fresh_stack.now
          (fresh_fits k.pieces c.args.stack c.args.stack.low c.args.fresh_stack.now c.requires.scratch
          c.requires.stands c.requires.fresh)
          c.put_back.ensures.put;
      phase = c.put_back.ensures.phase ∙ c.requires.done;
    }

pub loop-made-preserved : goal.loop-made-preserved
loop-made-preserved g c =
    let now = c.loop-made.system.machine in
    let next = c.step_scratch.new.self.machine in
    let less = subst (λ (n : ℕ). c.loop-made.made < n) (sym budget_is) c.loop-made-test.true in
    record {
      rest =
          sym (steps_on c.loop-made.made now next c.loop-made.thread c.step_scratch.new.thread Running less
          c.step_scratch.ensures.machine c.step_scratch.ensures.thread c.in-Running.is)
          ∙ c.loop-made.invariant.rest;
      running = c.in-Running.is;
      aside =
          aside_stepped c.args.system.now.machine now next c.loop-made.thread c.loop-made.invariant.aside
          c.step_scratch.ensures.machine;
      phase = c.step_scratch.ensures.phase ∙ c.loop-made.invariant.phase;
    }

pub returns-in-Exited-clause-left : goal.returns-in-Exited-clause-left
returns-in-Exited-clause-left g c =
    let less = subst (λ (n : ℕ). c.loop-made.made < n) (sym budget_is) c.loop-made-test.true in
    sym (steps_on c.loop-made.made c.loop-made.system.machine c.step_scratch.new.self.machine c.loop-made.thread
    c.step_scratch.new.thread (Exited c.in-Exited.field-0) less c.step_scratch.ensures.machine
    c.step_scratch.ensures.thread c.in-Exited.is)
    ∙ c.loop-made.invariant.rest

pub returns-in-Exited-clause-aside : goal.returns-in-Exited-clause-aside
returns-in-Exited-clause-aside g c =
    aside_stepped c.args.system.now.machine c.loop-made.system.machine c.step_scratch.new.self.machine
    c.loop-made.thread c.loop-made.invariant.aside c.step_scratch.ensures.machine

pub returns-in-Exited-clause-stands : goal.returns-in-Exited-clause-stands
returns-in-Exited-clause-stands g c =
    let laws : DataLaws = record {
      written = c.data_alone_differ.ensures.written;
      put = c.data_alone_differ.ensures.put_back;
      on = c.data_alone_differ.ensures.on;
      valid = c.data_alone_differ.ensures.valid;
      left = c.data_alone_differ.ensures.left;
      fit = c.saved_data_come_back.ensures.fit;
      same = c.saved_data_come_back.ensures.same;
    } in
    let k = c.args.system.now.machine in
    let next = c.step_scratch.new.self.machine in
    still_stands laws k next c.args.stack (built_sound k c.machine-program.ensures.built).jumps.valid
    (aside_stepped k c.loop-made.system.machine next c.loop-made.thread c.loop-made.invariant.aside
    c.step_scratch.ensures.machine)
    c.requires.stands

pub returns-in-Stopped-clause-left : goal.returns-in-Stopped-clause-left
returns-in-Stopped-clause-left g c =
    let less = subst (λ (n : ℕ). c.loop-made.made < n) (sym budget_is) c.loop-made-test.true in
    sym (steps_on c.loop-made.made c.loop-made.system.machine c.step_scratch.new.self.machine c.loop-made.thread
    c.step_scratch.new.thread (Stopped c.in-Stopped.fault) less c.step_scratch.ensures.machine
    c.step_scratch.ensures.thread c.in-Stopped.is)
    ∙ c.loop-made.invariant.rest

pub returns-in-Stopped-clause-aside : goal.returns-in-Stopped-clause-aside
returns-in-Stopped-clause-aside g c =
    aside_stepped c.args.system.now.machine c.loop-made.system.machine c.step_scratch.new.self.machine
    c.loop-made.thread c.loop-made.invariant.aside c.step_scratch.ensures.machine

pub returns-in-Stopped-clause-stands : goal.returns-in-Stopped-clause-stands
returns-in-Stopped-clause-stands g c =
    let laws : DataLaws = record {
      written = c.data_alone_differ.ensures.written;
      put = c.data_alone_differ.ensures.put_back;
      on = c.data_alone_differ.ensures.on;
      valid = c.data_alone_differ.ensures.valid;
      left = c.data_alone_differ.ensures.left;
      fit = c.saved_data_come_back.ensures.fit;
      same = c.saved_data_come_back.ensures.same;
    } in
    let k = c.args.system.now.machine in
    let next = c.step_scratch.new.self.machine in
    still_stands laws k next c.args.stack (built_sound k c.machine-program.ensures.built).jumps.valid
    (aside_stepped k c.loop-made.system.machine next c.loop-made.thread c.loop-made.invariant.aside
    c.step_scratch.ensures.machine)
    c.requires.stands

pub returns-clause-left : goal.returns-clause-left
returns-clause-left g c =
    let over = subst (λ (n : ℕ). n ≤ c.loop-made.made) (sym budget_is) c.loop-made-test.false in
    none_left c.loop-made.made c.loop-made.system.machine c.loop-made.thread over ∙ c.loop-made.invariant.rest

pub returns-clause-stands : goal.returns-clause-stands
returns-clause-stands g c =
    let laws : DataLaws = record {
      written = c.data_alone_differ.ensures.written;
      put = c.data_alone_differ.ensures.put_back;
      on = c.data_alone_differ.ensures.on;
      valid = c.data_alone_differ.ensures.valid;
      left = c.data_alone_differ.ensures.left;
      fit = c.saved_data_come_back.ensures.fit;
      same = c.saved_data_come_back.ensures.same;
    } in
    let k = c.args.system.now.machine in
    still_stands laws k c.loop-made.system.machine c.args.stack (built_sound k c.machine-program.ensures.built).jumps.valid
    c.loop-made.invariant.aside c.requires.stands
