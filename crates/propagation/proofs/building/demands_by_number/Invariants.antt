use Rattle.std.proofs.Common.{◌≡◌, ℕ}
use Rattle.propagation.specs.inside.Engine.{list_at, said_below, demands_at}
use Rattle.propagation.proofs.building.demands_by_number.Given as goal

abbrev pub invariant-loop-place : goal.invariant-loop-place
invariant-loop-place l = (number : ℕ) → list_at l.table number ≡ said_below (demands_at l.choices number) l.place
