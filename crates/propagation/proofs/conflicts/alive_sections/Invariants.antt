use Rattle.std.proofs.Common.{◌≡◌, ℕ, ◌<◌, length}
use Rattle.std.specs.List.{list_any}
use Rattle.propagation.specs.inside.Engine.{is_left, list_at}
use Rattle.propagation.proofs.conflicts.alive_sections.Given as goal

abbrev pub invariant-loop-section : goal.invariant-loop-section
invariant-loop-section l =
    (length l.alive.items ≡ l.section)
    × ((k : ℕ) → k < l.section → is_left l.alive.items k ≡ list_any (is_left l.left) (list_at l.whole k))
