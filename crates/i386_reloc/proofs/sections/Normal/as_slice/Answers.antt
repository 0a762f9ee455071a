use Rattle.std.proofs.Common.{subst, All, List}
use Rattle.i386_reloc.specs.declared.types.NormalSection.{NormalSection}
use Rattle.i386_reloc.specs.Normal.{HasFieldsInOrder}
use Rattle.i386_reloc.proofs.sections.Normal.as_slice.Goals as goal

pub returns-clause-by_offset : goal.returns-clause-by_offset
returns-clause-by_offset c = subst (λ (sections : List NormalSection). All HasFieldsInOrder sections) c.self.view_is
    c.self.invariant.3
