use Rattle.std.proofs.Common.{◌≡◌, take}
use Rattle.update_plan.specs.Placing.{parts_of}
use Rattle.update_plan.proofs.parts.parts_of.Given as goal

abbrev pub invariant-loop-section : goal.invariant-loop-section
invariant-loop-section l = l.parts.items ≡ parts_of l.extract (take l.section-index l.section-items)
