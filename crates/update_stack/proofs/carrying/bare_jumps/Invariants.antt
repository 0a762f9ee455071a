use Rattle.std.proofs.Common.{◌≡◌, map, take}
use Rattle.update_stack.specs.inside.Carrying.{bare_jump}
use Rattle.update_stack.proofs.carrying.bare_jumps.Given as goal

abbrev pub invariant-loop-one : goal.invariant-loop-one
invariant-loop-one l = l.jumps.items ≡ map bare_jump (take l.one-index l.replaced)
