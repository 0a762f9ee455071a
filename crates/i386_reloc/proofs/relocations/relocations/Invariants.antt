use Rattle.std.proofs.Common.{◌≡◌, take, All}
use Rattle.i386_reloc.specs.References.{relocations_of}
use Rattle.i386_reloc.specs.inside.Fields.{IsPlaced}
use Rattle.i386_reloc.proofs.relocations.relocations.Given as goal

abbrev pub invariant-loop-k : goal.invariant-loop-k
invariant-loop-k l =
    record {
      items : l.list.items ≡ take l.k (relocations_of l.object l.i);
      placed : All (λ r. IsPlaced l.object l.i r) l.list.items;
    }
