use Rattle.std.proofs.Common.{◌≡◌, None}
use Rattle.elf32_object.specs.Below.{first_below}
use Rattle.elf32_object.specs.Rules.{relocations_fault}
use Rattle.elf32_object.specs.inside.Held.{AreHeld}
use Rattle.elf32_object.proofs.relocations.check_relocations.Given as goal

abbrev pub invariant-loop-i : goal.invariant-loop-i
invariant-loop-i l =
    (first_below (relocations_fault l.layout.bytes.now) l.i ≡ None) × AreHeld l.layout.bytes.now l.i 0 l.taken
