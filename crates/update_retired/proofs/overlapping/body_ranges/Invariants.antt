use Rattle.std.proofs.Common.{◌≡◌, map, take}
use Rattle.update_retired.specs.Retired.{body_range}
use Rattle.update_retired.proofs.overlapping.body_ranges.Given as goal

abbrev pub invariant-loop-old : goal.invariant-loop-old
invariant-loop-old l = l.ranges ≡ map body_range (take l.old-index l.olds)
