use Rattle.std.proofs.Common.{◌≡◌, length}
use Rattle.symbol_solve.specs.inside.Numbers.{AreListed}
use Rattle.symbol_solve.proofs.points.points_by_section.Given as goal

abbrev pub invariant-loop-n : goal.invariant-loop-n
invariant-loop-n l = record {
  count : length l.table.items ≡ l.count;
  lists : AreListed l.points l.n l.table.items;
}
