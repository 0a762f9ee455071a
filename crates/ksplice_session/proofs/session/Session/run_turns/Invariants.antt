use Rattle.std.proofs.Common.{◌≡◌, ◌-◌, ◌<◌, ◌≤◌}
use Rattle.ksplice_session.specs.Running.{round_robin}
use Rattle.ksplice_session.specs.inside.WholeTurns.{IsOrder, steps_after}
use Rattle.ksplice_session.proofs.RunLaws.{Goes}
use Rattle.ksplice_session.proofs.session.Session.run_turns.Given as goal

abbrev pub invariant-loop-taken : goal.invariant-loop-taken
invariant-loop-taken l = record {
  order : IsOrder l.order;
  left : l.order.left ≡ l.count - l.taken;
  taken : l.taken ≤ l.made;
  made : l.made ≤ l.count;
  more : 0 < l.count → l.made < l.count;
  goes : Goes l.fn.self (round_robin l.fn.self.machine l.quantum l.count) l.made l.self
      (steps_after l.quantum (l.count - l.made) l.order.turn l.self.machine);
}
