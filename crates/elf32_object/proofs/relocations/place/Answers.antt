use Rattle.std.proofs.Common.{ap, sym, ◌∙◌}
use Rattle.elf32_object.specs.Rules.{has_field}
use Rattle.elf32_object.proofs.Held.{same_held}
use Rattle.elf32_object.proofs.relocations.place.Goals as goal

pub returns-then-not-has_field-clause-taken : goal.returns-then-not-has_field-clause-taken
returns-then-not-has_field-clause-taken c = λ _.
    same_held c.args.layout.now.bytes.now c.args.patch.now.index c.args.k c.args.taken.now
    (sym (ap has_field c.requires.reloc) ∙ sym c.has_field.ensures ∙ c.if-not-has_field.true) c.requires.taken
