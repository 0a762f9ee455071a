-- The section is one of the object's.
use Rattle.std.proofs.Common.{subst}
use Rattle.std.specs.List.{All}
use Rattle.i386_reloc.specs.Normal.{HasFieldsInOrder}
use Rattle.run_pre_match.specs.Candidate.{Candidate}
use Rattle.run_pre_match.proofs.Verdicts.{ordered_found}
use Rattle.run_pre_match.proofs.candidate.Candidate.section.Goals as goal

pub returns-clause-order : goal.returns-clause-order
returns-clause-order g c =
    ordered_found c.args.self.now.object c.args.place c.find.result
    (subst (λ (x : Candidate). All HasFieldsInOrder x.object) c.self.view_is c.as_slice-sections.ensures.by_offset)
    c.find.ensures
