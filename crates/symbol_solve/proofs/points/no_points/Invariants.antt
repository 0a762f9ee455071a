use Rattle.std.proofs.Common.{◌≡◌, replicate, []}
use Rattle.symbol_solve.proofs.points.no_points.Given as goal

abbrev pub invariant-loop-place : goal.invariant-loop-place
invariant-loop-place l = l.table.items ≡ replicate l._place []
