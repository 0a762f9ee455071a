use Rattle.std.proofs.Common.{◌≡◌, ◌∙◌, ap, sym, subst}
use Rattle.match_instructions.specs.RunCode.{run_instruction_at}
use Rattle.run_pre_match.specs.Candidate.{Candidate, run_list}
use Rattle.match_instructions.specs.Places.{places_of}
use Rattle.run_pre_match.proofs.Numbered.{run_met}
use Rattle.run_pre_match.proofs.candidate.Candidate.run_at.Goals as goal

pub returns : goal.returns
returns g c =
    c.instruction_at.ensures.at ∙ ap (λ (x : Candidate). run_instruction_at x.contents c.in_ok-kept_at.field-0)
    c.self.view_is
    ∙ run_met c.run_code_goes_on.ensures.place c.args.self.now c.self.inside.run.now.places c.args.number
    c.in_ok-kept_at.field-0
    (subst (λ (x : Candidate). c.self.inside.run.now.places ≡ places_of (run_list x)) c.self.view_is c.self.invariant.2)
    (sym c.kept_at.ensures.place ∙ c.in_ok-kept_at.was)
