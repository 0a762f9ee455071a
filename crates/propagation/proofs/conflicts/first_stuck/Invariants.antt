use Rattle.std.proofs.Common.{◌≡◌, ℕ, ◌<◌, false}
use Rattle.propagation.specs.declared.choice.Choice.{Choice}
use Rattle.propagation.specs.inside.State.{At}
use Rattle.propagation.specs.inside.Striking.{is_stuck}
use Rattle.propagation.proofs.conflicts.first_stuck.Given as goal

abbrev pub invariant-loop-place : goal.invariant-loop-place
invariant-loop-place l = (k : ℕ) (c : Choice) → k < l.place → At l.choices k c → is_stuck l.alive c ≡ false
