use Rattle.std.proofs.Common.{◌≡◌, ◌∙◌, ap, sym, subst}
use Rattle.i386_reloc.specs.declared.types.NormalSection.{NormalSection}
use Rattle.match_instructions.specs.PreCode.{pre_instruction_at}
use Rattle.run_pre_match.specs.Candidate.{Candidate, pre_list}
use Rattle.match_instructions.specs.Places.{places_of}
use Rattle.run_pre_match.proofs.Numbered.{pre_met}
use Rattle.run_pre_match.proofs.candidate.Candidate.pre_at.Goals as goal

pub returns-clause-nth : goal.returns-clause-nth
returns-clause-nth g c =
    c.pre_instruction_at.ensures.at ∙ ap (λ (s : NormalSection). pre_instruction_at s c.in_ok-kept_at.field-0)
    c.own_section.ensures.section
    ∙ pre_met (λ section offset i at. (c.instructions_lie_within.ensures section offset i at).0) c.args.self.now
    c.self.inside.pre.now c.args.number c.in_ok-kept_at.field-0
    (subst (λ (x : Candidate). c.self.inside.pre.now ≡ places_of (pre_list x)) c.self.view_is c.self.invariant.1)
    (sym c.kept_at.ensures.place ∙ c.in_ok-kept_at.was)
