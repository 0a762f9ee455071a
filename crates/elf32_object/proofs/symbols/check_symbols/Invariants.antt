use Rattle.std.proofs.Common.{◌≡◌, None}
use Rattle.elf32_object.specs.Below.{first_below}
use Rattle.elf32_object.specs.Rules.{symbol_fault}
use Rattle.elf32_object.proofs.symbols.check_symbols.Given as goal

abbrev pub invariant-loop-k : goal.invariant-loop-k
invariant-loop-k l = first_below (symbol_fault l.layout.bytes.now) l.k ≡ None
