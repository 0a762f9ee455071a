use Rattle.std.proofs.Common.{◌≤◌, length, drop}
use Rattle.std.specs.List.Sorted.{IsPermutation}
use Rattle.symbol_table.specs.inside.Names.{found_at}
use Rattle.symbol_table.proofs.kinds.addresses_found.Given as goal

abbrev pub invariant-loop-end : goal.invariant-loop-end
invariant-loop-end l = record {
  within : l.end ≤ length l.entries;
  so_far : IsPermutation
      (found_at l.symbols l.kind l.name (drop l.end l.entries)) l.found.items;
}

abbrev pub decreases-loop-end : goal.decreases-loop-end
decreases-loop-end l = l.end
