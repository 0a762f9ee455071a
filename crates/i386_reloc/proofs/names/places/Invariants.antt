use Rattle.std.proofs.Common.{◌≡◌, None}
use Rattle.elf32_object.specs.Below.{first_below}
use Rattle.i386_reloc.specs.Normal.{loaded_below}
use Rattle.i386_reloc.specs.inside.NamePlaces.{HasPlaces}
use Rattle.i386_reloc.specs.Refused.{name_fault_at}
use Rattle.i386_reloc.proofs.names.places.Given as goal

abbrev pub invariant-loop-i : goal.invariant-loop-i
invariant-loop-i l =
    (first_below (name_fault_at l.object) l.i ≡ None) × HasPlaces (loaded_below l.object l.i) l.places
