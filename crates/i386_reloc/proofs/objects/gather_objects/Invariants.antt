use Rattle.i386_reloc.specs.inside.Objects.{AreObjects}
use Rattle.i386_reloc.proofs.objects.gather_objects.Given as goal

abbrev pub invariant-loop-k : goal.invariant-loop-k
invariant-loop-k l = AreObjects l.source.object.now l.k l.table.items
