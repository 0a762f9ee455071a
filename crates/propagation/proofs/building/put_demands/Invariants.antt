use Rattle.std.proofs.Common.{◌≡◌, ℕ, ◌++◌, take}
use Rattle.propagation.specs.inside.Engine.{list_at, demands_of}
use Rattle.propagation.proofs.building.put_demands.Given as goal

abbrev pub invariant-loop-demand : goal.invariant-loop-demand
invariant-loop-demand l =
    (number : ℕ) → list_at l.table number
    ≡ list_at l.initial.table number ++ demands_of number l.place l.own (take l.demand-index l.demands)
