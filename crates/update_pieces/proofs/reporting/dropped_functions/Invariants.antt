use Rattle.std.proofs.Common.{◌≡◌, take}
use Rattle.update_pieces.specs.Reports.{dropped_in}
use Rattle.update_pieces.proofs.reporting.dropped_functions.Given as goal

abbrev pub invariant-loop-old : goal.invariant-loop-old
invariant-loop-old l = l.names ≡ dropped_in (take l.old-index l.olds)
