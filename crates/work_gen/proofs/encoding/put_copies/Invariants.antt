use Rattle.std.proofs.Common.{◌≡◌, ◌++◌, replicate}
use Rattle.work_gen.proofs.encoding.put_copies.Given as goal

abbrev pub invariant-loop : goal.invariant-loop
invariant-loop l = l.to.items ≡ l.fn.to.items ++ replicate l.counter l.byte
