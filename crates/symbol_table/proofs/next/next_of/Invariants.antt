use Rattle.std.proofs.Common.{◌≤◌, length, drop}
use Rattle.symbol_table.specs.inside.Next.{any_address, IsNext}
use Rattle.symbol_table.proofs.next.next_of.Given as goal

abbrev pub invariant-loop-end : goal.invariant-loop-end
invariant-loop-end l = record {
  within : l.end ≤ length l.entries;
  so_far : IsNext l.address
      (any_address (drop l.end l.entries)) l.next;
}

abbrev pub decreases-loop-end : goal.decreases-loop-end
decreases-loop-end l = l.end
