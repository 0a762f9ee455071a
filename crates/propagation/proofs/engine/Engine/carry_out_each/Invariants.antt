use Rattle.std.proofs.Common.{◌≡◌, take}
use Rattle.std.specs.List.{fold}
use Rattle.propagation.specs.inside.Engine.{carried_at}
use Rattle.propagation.proofs.engine.Engine.carry_out_each.Given as goal

abbrev pub invariant-loop-place : goal.invariant-loop-place
invariant-loop-place l = l.self ≡ fold (carried_at l.choices) l.initial.self (take l.place-index l.places)
