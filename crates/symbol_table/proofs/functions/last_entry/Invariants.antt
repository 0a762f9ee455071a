use Rattle.std.proofs.Common.{◌≡◌, ◌≤◌, length, drop}
use Rattle.symbol_table.specs.inside.Functions.{entry_below}
use Rattle.symbol_table.proofs.functions.last_entry.Given as goal

abbrev pub invariant-loop-end : goal.invariant-loop-end
invariant-loop-end l = record {
  within : l.end ≤ length l.entries;
  so_far : l.last ≡ entry_below l.address
      (drop l.end l.entries);
}

abbrev pub decreases-loop-end : goal.decreases-loop-end
decreases-loop-end l = l.end
