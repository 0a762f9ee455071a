use Rattle.std.proofs.Common.{◌≡◌, length}
use Rattle.i386_reloc.specs.inside.Known.{known_at}
use Rattle.i386_reloc.specs.Normal.{loaded_below}
use Rattle.elf32_object.specs.Below.{each_below}
use Rattle.i386_reloc.proofs.source.known_sections.Given as goal

abbrev pub invariant-loop-i : goal.invariant-loop-i
invariant-loop-i l =
    record {
      known : l.sections.items ≡ each_below (known_at l.object) l.i;
      place : l.place ≡ length (loaded_below l.object l.i);
    }
