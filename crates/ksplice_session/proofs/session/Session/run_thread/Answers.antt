use Rattle.std.proofs.Common.{◌≡◌, ◌+◌, ◌-◌, sym, ◌∙◌, arith}
use Rattle.update_stack.specs.Events.{Step}
use Rattle.ksplice_session.specs.Running.{thread_steps}
use Rattle.ksplice_session.proofs.RunLaws.{begins, goes_on, has_gone, thread_goes_on, thread_ends, thread_done}
use Rattle.ksplice_session.proofs.session.Session.run_thread.Goals as goal

pub loop-made-init : goal.loop-made-init
loop-made-init c =
    let all : c.args.count - 0 ≡ c.args.count = omega arith in
    rw all (begins c.args.self.now (thread_steps c.args.self.now.machine c.args.thread c.args.count))

pub loop-made-preserved : goal.loop-made-preserved
loop-made-preserved c =
    let k = c.loop-made.self in
    let m = c.args.count - (c.loop-made.made + 1) in
    goes_on c.args.self.now (thread_steps c.args.self.now.machine c.args.thread c.args.count)
    c.loop-made.made k c.step.new.self (Step c.args.thread)
    (thread_steps k.machine c.args.thread (c.args.count - c.loop-made.made))
    (thread_steps c.step.new.self.machine c.args.thread m)
    (thread_goes_on k c.step.new.self c.args.thread (c.args.count - c.loop-made.made) m
    (omega arith) (sym c.step.ensures.runs ∙ c.if-not-step.false) c.step.ensures.after)
    c.step.ensures.after c.loop-made.invariant

pub returns-then-not-step : goal.returns-then-not-step
returns-then-not-step c =
    let k = c.loop-made.self in
    let ends = thread_ends k c.step.new.self c.args.thread
    (c.args.count - c.loop-made.made) (sym c.step.ensures.runs ∙ c.if-not-step.true) c.step.ensures.after in
    let gone =
    has_gone c.args.self.now (thread_steps c.args.self.now.machine c.args.thread c.args.count) c.loop-made.made k
    (thread_steps k.machine c.args.thread (c.args.count - c.loop-made.made)) ends.0 c.loop-made.invariant in
    record { made = gone.0; after = ends.1 ∙ gone.1 }

pub returns : goal.returns
returns c =
    let k = c.loop-made.self in
    let gone =
    has_gone c.args.self.now (thread_steps c.args.self.now.machine c.args.thread c.args.count) c.loop-made.made k
    (thread_steps k.machine c.args.thread (c.args.count - c.loop-made.made))
    (thread_done k.machine c.args.thread (c.args.count - c.loop-made.made) (omega arith)) c.loop-made.invariant in
    let all : c.args.count ≡ c.loop-made.made = omega arith in
    record { made = all ∙ gone.0; after = gone.1 }
