use Rattle.std.proofs.Common.{◌≡◌, take}
use Rattle.update_plan.specs.Olds.{olds_of}
use Rattle.update_plan.proofs.olds.olds_of.Given as goal

abbrev pub invariant-loop-section : goal.invariant-loop-section
invariant-loop-section l = l.olds.items ≡ olds_of l.extract l.values.entries (take l.section-index l.section-items)
