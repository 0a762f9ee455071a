use Rattle.std.proofs.Common.{◌≡◌}
use Rattle.i386_reloc.specs.inside.Known.{named_at}
use Rattle.elf32_object.specs.Below.{each_below}
use Rattle.i386_reloc.proofs.source.named_symbols.Given as goal

abbrev pub invariant-loop-k : goal.invariant-loop-k
invariant-loop-k l = l.symbols.items ≡ each_below (named_at l.object) l.k
