use Rattle.std.proofs.Common.{◌≡◌, take}
use Rattle.update_stack.specs.AbstractMachine.{bodies_in}
use Rattle.update_stack.specs.Systems.{table_of}
use Rattle.update_stack.proofs.live.newest_bases.Given as goal

abbrev pub invariant-loop-update : goal.invariant-loop-update
invariant-loop-update l = l.bases.entries ≡ bodies_in (table_of (take l.update-index l.updates))
