use Rattle.std.proofs.Common.{◌≡◌, ◌≤◌, false, length, drop}
use Rattle.std.specs.List.{list_any}
use Rattle.symbol_table.specs.inside.Names.{is_entry_of}
use Rattle.symbol_table.proofs.kinds.is_global.Given as goal

abbrev pub invariant-loop-end : goal.invariant-loop-end
invariant-loop-end l = record {
  within : l.end ≤ length l.entries;
  none : list_any
      (is_entry_of l.symbols l.name l.address) (drop l.end l.entries) ≡ false;
}

abbrev pub decreases-loop-end : goal.decreases-loop-end
decreases-loop-end l = l.end
