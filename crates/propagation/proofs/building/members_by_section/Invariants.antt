use Rattle.std.proofs.Common.{◌≡◌, ℕ}
use Rattle.propagation.specs.inside.Engine.{list_at, said_below, members_at}
use Rattle.propagation.proofs.building.members_by_section.Given as goal

abbrev pub invariant-loop-place : goal.invariant-loop-place
invariant-loop-place l = (section : ℕ) → list_at l.table section ≡ said_below (members_at l.choices section) l.place
