use Rattle.std.proofs.Common.{◌≡◌, ◌++◌, map, take}
use Rattle.update_retired.specs.Retired.{body_range}
use Rattle.update_retired.proofs.overlapping.all_ranges.Given as goal

abbrev pub invariant-loop-range : goal.invariant-loop-range
invariant-loop-range l = l.ranges ≡ map body_range l.fn.olds ++ take l.range-index l.retired
