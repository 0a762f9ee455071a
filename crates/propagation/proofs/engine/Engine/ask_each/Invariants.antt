use Rattle.std.proofs.Common.{◌≡◌, take}
use Rattle.std.specs.List.{fold}
use Rattle.propagation.specs.inside.Engine.{asked_by}
use Rattle.propagation.proofs.engine.Engine.ask_each.Given as goal

abbrev pub invariant-loop-demand : goal.invariant-loop-demand
invariant-loop-demand l = l.self ≡ fold (asked_by l.own l.choices) l.initial.self (take l.demand-index l.demands)
