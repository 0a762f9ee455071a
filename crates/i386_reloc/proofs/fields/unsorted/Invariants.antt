use Rattle.std.proofs.Common.{◌≡◌, take}
use Rattle.std.specs.List.{filter}
use Rattle.elf32_object.specs.Rules.{has_field}
use Rattle.i386_reloc.proofs.fields.unsorted.Given as goal

abbrev pub invariant-loop-r : goal.invariant-loop-r
invariant-loop-r l = l.fields.items ≡ filter has_field (take l.r-index l.relocations)
