use Rattle.std.proofs.Common.{◌≡◌, None, take}
use Rattle.i386_reloc.specs.Refused.{first_among, relocation_fault_of}
use Rattle.i386_reloc.proofs.relocation_checks.check_relocations.Given as goal

abbrev pub invariant-loop-r : goal.invariant-loop-r
invariant-loop-r l = first_among (relocation_fault_of l.source.object.now l.i) (take l.r-index l.relocations) ≡ None
