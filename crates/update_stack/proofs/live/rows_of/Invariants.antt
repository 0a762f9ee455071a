use Rattle.std.proofs.Common.{◌≡◌, take, length}
use Rattle.update_stack.proofs.live.rows_of.Given as goal

abbrev pub invariant-loop-home : goal.invariant-loop-home
invariant-loop-home l = l.rows.items ≡ take (length l.yielded) l.bases.entries
