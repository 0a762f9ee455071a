use Rattle.std.proofs.Common.{◌≡◌, take}
use Rattle.i386_reloc.specs.References.{blanked_from}
use Rattle.i386_reloc.proofs.blanking.blanked.Given as goal

abbrev pub invariant-loop-r : goal.invariant-loop-r
invariant-loop-r l = l.copy.items ≡ blanked_from 0 (take l.r-index l.fields) l.bytes
