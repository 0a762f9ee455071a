use Rattle.std.proofs.Common.{◌≡◌, ◌<◌, ℕ, false, get_or}
use Rattle.stack_scan.specs.Standing.{in_one}
use Rattle.bench_parts.proofs.searching.first_by_halving.Given as goal

abbrev pub invariant-loop-index : goal.invariant-loop-index
invariant-loop-index l = (k : ℕ) → k < l.index → in_one l.fn.ranges (get_or l.words k 0) ≡ false
