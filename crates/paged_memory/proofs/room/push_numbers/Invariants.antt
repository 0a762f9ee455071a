use Rattle.std.proofs.Common.{◌≡◌, ◌-◌, ◌++◌}
use Rattle.paged_memory.specs.inside.Missing.{count_up}
use Rattle.paged_memory.proofs.room.push_numbers.Given as goal

abbrev pub invariant-loop-number : goal.invariant-loop-number
invariant-loop-number l = l.numbers.items ≡ l.fn.numbers.items ++ count_up l.low (l.number - l.low)
