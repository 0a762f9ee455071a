use Rattle.elf32_object.specs.inside.Taken.{AreTaken}
use Rattle.elf32_object.proofs.relocations.fields_before.Given as goal

abbrev pub invariant-loop-j : goal.invariant-loop-j
invariant-loop-j l = AreTaken l.layout.bytes.now l.j 0 l.fields
