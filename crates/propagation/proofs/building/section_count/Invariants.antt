use Rattle.std.proofs.Common.{ℕ, ◌<◌, slice_index_or}
use Rattle.propagation.specs.declared.choice.Choice.{Choice}
use Rattle.propagation.proofs.building.section_count.Given as goal

abbrev pub invariant-loop-choice : goal.invariant-loop-choice
invariant-loop-choice l =
    (k : ℕ) (d : Choice) → k < l.choice-index → (slice_index_or l.choices k d).section < l.count
