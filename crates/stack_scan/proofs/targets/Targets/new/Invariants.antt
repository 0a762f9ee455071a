use Rattle.std.proofs.Common.{◌≡◌, true}
use Rattle.stack_scan.specs.inside.Words.{AreWithin, AreInOrder}
use Rattle.stack_scan.proofs.targets.Targets.new.Given as goal

abbrev pub invariant-loop-range : goal.invariant-loop-range
invariant-loop-range l =
    AreWithin l.low l.high l.range-index l.ranges × (l.in_order ≡ true → AreInOrder l.range-index l.ranges)
