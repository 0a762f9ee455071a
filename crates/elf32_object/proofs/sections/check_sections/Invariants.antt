use Rattle.std.proofs.Common.{◌≡◌, None}
use Rattle.elf32_object.specs.Below.{first_below}
use Rattle.elf32_object.specs.Rules.{section_fault}
use Rattle.elf32_object.specs.inside.Kept.{AreTotals}
use Rattle.elf32_object.proofs.sections.check_sections.Given as goal

abbrev pub invariant-loop-i : goal.invariant-loop-i
invariant-loop-i l =
    (first_below (section_fault l.layout.bytes.now) l.i ≡ None)
    × AreTotals l.layout.bytes.now l.i l.totals.relocations l.totals.content
