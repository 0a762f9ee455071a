use Rattle.std.proofs.Common.{◌≡◌, ℕ, ◌+◌, ◌-◌, length}
use Rattle.propagation.specs.inside.Engine.{list_at}
use Rattle.propagation.proofs.tables.Table.grow.Given as goal

abbrev pub invariant-room : goal.invariant-room
invariant-room g l = (k : ℕ) → list_at l.self-inside.lists.items k ≡ list_at l.initial.self-inside.lists.items k

abbrev pub decreases-room : goal.decreases-room
decreases-room g l = l.key + 1 - length l.self-inside.lists.items
