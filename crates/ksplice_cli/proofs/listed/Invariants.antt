-- The list has what came so far.
use Rattle.std.proofs.Common.{◌≡◌}
use Rattle.ksplice_cli.proofs.listed.Given as goal

abbrev pub invariant-loop-word : goal.invariant-loop-word
invariant-loop-word g l = l.list.items ≡ l.yielded
