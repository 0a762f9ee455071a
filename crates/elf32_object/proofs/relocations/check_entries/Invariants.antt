use Rattle.std.proofs.Common.{◌≡◌, None}
use Rattle.elf32_object.specs.Below.{first_below}
use Rattle.elf32_object.specs.Rules.{relocation_fault}
use Rattle.elf32_object.specs.inside.Held.{AreHeld}
use Rattle.elf32_object.proofs.relocations.check_entries.Given as goal

abbrev pub invariant-loop-k : goal.invariant-loop-k
invariant-loop-k l =
    (first_below (relocation_fault l.layout.bytes.now l.i) l.k ≡ None) × AreHeld l.layout.bytes.now l.i l.k l.taken
