use Rattle.std.proofs.Common.{◌-◌}
use Rattle.ksplice_session.specs.Running.{thread_steps}
use Rattle.ksplice_session.proofs.RunLaws.{Goes}
use Rattle.ksplice_session.proofs.session.Session.run_thread.Given as goal

abbrev pub invariant-loop-made : goal.invariant-loop-made
invariant-loop-made l =
    Goes l.fn.self (thread_steps l.fn.self.machine l.thread l.count) l.made l.self
    (thread_steps l.self.machine l.thread (l.count - l.made))
