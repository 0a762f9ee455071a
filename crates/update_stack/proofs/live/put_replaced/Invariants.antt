use Rattle.std.proofs.Common.{◌≡◌, nat_eq, take}
use Rattle.indexmap.specs.IndexMap.{insert_all}
use Rattle.update_stack.specs.AbstractMachine.{jump_rows}
use Rattle.update_stack.proofs.live.put_replaced.Given as goal

abbrev pub invariant-loop-one : goal.invariant-loop-one
invariant-loop-one l = l.bases.entries ≡ insert_all nat_eq l.fn.bases.entries (jump_rows (take l.one-index l.replaced))
