use Rattle.std.proofs.Common.{◌≡◌, take}
use Rattle.update_plan.specs.Plan.{fences_of}
use Rattle.update_plan.proofs.planning.fences_of.Given as goal

abbrev pub invariant-loop-old : goal.invariant-loop-old
invariant-loop-old l = l.fences ≡ fences_of (take l.old-index l.olds)
