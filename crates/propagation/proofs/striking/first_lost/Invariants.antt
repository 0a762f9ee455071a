use Rattle.std.proofs.Common.{◌≡◌, ℕ, ◌<◌, true}
use Rattle.propagation.specs.inside.Engine.{is_left}
use Rattle.propagation.proofs.striking.first_lost.Given as goal

abbrev pub invariant-loop-place : goal.invariant-loop-place
invariant-loop-place l = (k : ℕ) → k < l.place → is_left l.marks k ≡ true → is_left l.rest k ≡ true
