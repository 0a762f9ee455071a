use Rattle.propagation.specs.inside.State.{State, weight}
use Rattle.propagation.proofs.propagating.propagate.Given as goal

abbrev pub invariant-waiting : goal.invariant-waiting
invariant-waiting l = State l.choices l.engine

abbrev pub decreases-waiting : goal.decreases-waiting
decreases-waiting l = weight l.engine.marking
