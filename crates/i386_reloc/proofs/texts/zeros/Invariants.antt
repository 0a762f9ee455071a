use Rattle.std.proofs.Common.{◌≡◌}
use Rattle.elf32_object.specs.Below.{all_below}
use Rattle.i386_reloc.specs.inside.Zeros.{zero_at}
use Rattle.i386_reloc.proofs.texts.zeros.Given as goal

abbrev pub invariant-loop-i : goal.invariant-loop-i
invariant-loop-i l = l.zeros.items ≡ all_below (zero_at l.bytes) l.i
