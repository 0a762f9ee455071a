use Rattle.std.proofs.Common.{◌<◌, List, length, subst, sym}
use Rattle.i386_reloc.specs.declared.types.NormalSection.{NormalSection}
use Rattle.run_pre_match.proofs.Verdicts.{ordered_at}
use Rattle.run_pre_match.proofs.CodeLaws.{section_here}
use Rattle.run_pre_match.proofs.code.PreObject.section.Goals as goal

pub returns-clause-order : goal.returns-clause-order
returns-clause-order c =
    let object = c.self.inside.normal.now in
    let lt = subst (λ (xs : List NormalSection). c.args.place < length xs) (sym c.self.view_is) c.requires in
    ordered_at object c.args.place c.index-as_slice-place.result c.as_slice.ensures.by_offset
    (section_here object c.as_slice.result.now c.args.place c.index-as_slice-place.result
    (sym c.as_slice.ensures.sections) lt c.index-as_slice-place.is)
