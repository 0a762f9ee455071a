use Rattle.std.proofs.Common.{◌≡◌, take}
use Rattle.propagation.specs.inside.Engine.{excluded_each}
use Rattle.propagation.proofs.marking.Marks.exclude_each.Given as goal

abbrev pub invariant-loop-choice : goal.invariant-loop-choice
invariant-loop-choice l = l.self ≡ excluded_each l.choices l.initial.self (take l.choice-index l.victims)
