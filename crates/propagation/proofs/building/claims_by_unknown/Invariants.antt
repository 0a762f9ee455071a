use Rattle.std.proofs.Common.{◌≡◌, ℕ}
use Rattle.propagation.specs.inside.Engine.{list_at, said_below, claims_at}
use Rattle.propagation.proofs.building.claims_by_unknown.Given as goal

abbrev pub invariant-loop-place : goal.invariant-loop-place
invariant-loop-place l = (unknown : ℕ) → list_at l.table unknown ≡ said_below (claims_at l.choices unknown) l.place
