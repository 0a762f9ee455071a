use Rattle.std.proofs.Common.{◌≡◌, take}
use Rattle.update_plan.specs.Placing.{names_of}
use Rattle.update_plan.proofs.parts.names_of.Given as goal

abbrev pub invariant-loop-part : goal.invariant-loop-part
invariant-loop-part l = l.names ≡ names_of (take l.part-index l.parts)
