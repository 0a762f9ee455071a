use Rattle.propagation.specs.inside.Engine.{AreListed, HasNumbers}
use Rattle.propagation.proofs.building.numbers_by_section.Given as goal

abbrev pub invariant-loop-choice : goal.invariant-loop-choice
invariant-loop-choice l =
    record { listed : AreListed l.listed l.table; has : HasNumbers l.choices l.choice-index l.table }
