use Rattle.std.proofs.Common.{◌≡◌, ℕ, ◌<◌, ◌≤◌, false, slice_index}
use Rattle.propagation.specs.inside.Engine.{is_other}
use Rattle.propagation.proofs.marking.Marks.end_of_left.Given as goal

abbrev pub invariant-loop-last : goal.invariant-loop-last
invariant-loop-last l =
    (l.last ≤ l.end) × ((k : ℕ) → l.last ≤ k → k < l.end → is_other l.self.left l.except (slice_index l.list k) ≡ false)

abbrev pub decreases-loop-last : goal.decreases-loop-last
decreases-loop-last l = l.last
