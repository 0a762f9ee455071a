use Rattle.std.proofs.Common.{◌≡◌, take}
use Rattle.std.specs.List.{fold}
use Rattle.propagation.specs.inside.Engine.{refusing}
use Rattle.propagation.proofs.engine.Engine.refuse_each.Given as goal

abbrev pub invariant-loop-number : goal.invariant-loop-number
invariant-loop-number l = l.self ≡ fold (refusing l.choices l.section) l.initial.self (take l.number-index l.numbers)
