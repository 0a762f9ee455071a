use Rattle.std.proofs.Common.{ap, ◌∙◌}
use Rattle.elf32_object.specs.Fields.{is_loaded}
use Rattle.elf32_object.proofs.Loads.{loaded_within}
use Rattle.elf32_object.proofs.Rules.{sections_kept}
use Rattle.elf32_object.proofs.object.Object.reloc_count.Goals as goal

pub count_of-requires-clause-within : goal.count_of-requires-clause-within
count_of-requires-clause-within c =
    loaded_within c.self.inside.layout.bytes.now c.args.section
    (ap (λ b. is_loaded b c.args.section) c.self.view_is ∙ c.requires)

pub count_of-requires-clause-sections : goal.count_of-requires-clause-sections
count_of-requires-clause-sections c =
    sections_kept c.self.inside.layout.bytes.now c.self.invariant.no_fault
