use Rattle.std.proofs.Common.{◌≡◌, None}
use Rattle.elf32_object.specs.Below.{first_below}
use Rattle.i386_reloc.specs.Normal.{loaded_below}
use Rattle.i386_reloc.specs.References.{HasOrder}
use Rattle.i386_reloc.specs.Refused.{relocation_fault_at}
use Rattle.i386_reloc.specs.inside.Objects.{AreLeft}
use Rattle.i386_reloc.specs.inside.Targets.{places_below}
use Rattle.i386_reloc.proofs.reading.read_all.Given as goal

abbrev pub invariant-loop-i : goal.invariant-loop-i
invariant-loop-i l =
    record {
      none : first_below (relocation_fault_at l.source.object.now) l.i ≡ None;
      sections : l.read.sections ≡ loaded_below l.source.object.now l.i;
      targets : l.read.targets ≡ places_below l.source.object.now l.i;
      order : HasOrder l.source.object.now l.i;
      objects : AreLeft l.source.object.now l.i l.objects.items;
    }
