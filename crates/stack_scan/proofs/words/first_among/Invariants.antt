use Rattle.std.proofs.Common.{◌≤◌, ◌-◌, length}
use Rattle.stack_scan.specs.inside.Words.{NoneBetween}
use Rattle.stack_scan.proofs.words.first_among.Given as goal

abbrev pub invariant-loop-passed : goal.invariant-loop-passed
invariant-loop-passed l = (l.passed ≤ length l.words) × NoneBetween l.targets l.words 0 l.passed

abbrev pub decreases-loop-passed : goal.decreases-loop-passed
decreases-loop-passed l = length l.words - l.passed
