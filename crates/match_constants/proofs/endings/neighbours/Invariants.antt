-- The ends that were passed have their counts.
use Rattle.std.proofs.Common.{◌≡◌, length}
use Rattle.match_constants.specs.Endings.{Share}
use Rattle.match_constants.proofs.endings.neighbours.Given as goal

abbrev pub invariant-loop-i : goal.invariant-loop-i
invariant-loop-i l = record {
  share : Share l.normal l.ends 1 l.shared.items;
  many : length l.shared.items ≡ l.i;
}
