use Rattle.elf32_object.specs.inside.Taken.{AreTaken}
use Rattle.elf32_object.proofs.relocations.add_fields.Given as goal

abbrev pub invariant-loop-k : goal.invariant-loop-k
invariant-loop-k l = AreTaken l.layout.bytes.now l.i l.k l.fields
