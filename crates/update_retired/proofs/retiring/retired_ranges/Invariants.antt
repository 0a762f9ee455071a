use Rattle.std.proofs.Common.{◌≡◌, take}
use Rattle.update_retired.specs.Retired.{retired_by}
use Rattle.update_retired.proofs.retiring.retired_ranges.Given as goal

abbrev pub invariant-loop-old : goal.invariant-loop-old
invariant-loop-old l = l.ranges ≡ retired_by (take l.old-index l.olds)
