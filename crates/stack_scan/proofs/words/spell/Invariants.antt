use Rattle.std.proofs.Common.{◌≡◌, ◌<◌, ℕ, get_or}
use Rattle.stack_scan.specs.inside.Words.{spelled}
use Rattle.stack_scan.proofs.words.spell.Given as goal

abbrev pub invariant-loop-k : goal.invariant-loop-k
invariant-loop-k l = (k : ℕ) → k < l.k → get_or l.words k 0 ≡ spelled l.bytes k
