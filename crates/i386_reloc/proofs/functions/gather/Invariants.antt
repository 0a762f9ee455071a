use Rattle.i386_reloc.specs.inside.Functions.{AreFunctions}
use Rattle.i386_reloc.proofs.functions.gather.Given as goal

abbrev pub invariant-loop-k : goal.invariant-loop-k
invariant-loop-k l = AreFunctions l.source.object.now l.k l.table.items
