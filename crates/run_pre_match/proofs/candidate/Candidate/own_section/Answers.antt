use Rattle.std.proofs.Common.{◌≡◌, ap, subst, Some}
use Rattle.std.specs.List.{slice_get}
use Rattle.i386_reloc.specs.Normal.{HasFieldsInOrder}
use Rattle.run_pre_match.specs.Candidate.{Candidate}
use Rattle.run_pre_match.proofs.Verdicts.{ordered_at}
use Rattle.run_pre_match.proofs.candidate.Candidate.own_section.Goals as goal

pub returns : goal.returns
returns g c =
    let order : HasFieldsInOrder c.self.inside.section.now =
    ordered_at c.self.inside.normal.now c.self.inside.place c.self.inside.section.now
    c.as_slice-sections.ensures.by_offset c.self.invariant.0 in
    record {
      section = ap (λ (x : Candidate). x.section) c.self.view_is;
      at = subst (λ (x : Candidate). slice_get x.object x.place ≡ Some x.section) c.self.view_is c.self.invariant.0;
      order = subst (λ (x : Candidate). HasFieldsInOrder x.section) c.self.view_is order;
    }
