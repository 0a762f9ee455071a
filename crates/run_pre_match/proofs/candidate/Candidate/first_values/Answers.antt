-- The own home is the first value.
use Rattle.std.proofs.Common.{[], ◌∷◌, true, subst}
use Rattle.run_pre_match.specs.declared.goals.Goal.TheVariants.{Entry}
use Rattle.run_pre_match.specs.Candidate.{Candidate}
use Rattle.run_pre_match.specs.Found.{judged}
use Rattle.run_pre_match.specs.inside.Kept.{Keeps, given}
use Rattle.run_pre_match.proofs.candidate.Candidate.first_values.Goals as goal

pub returns-clause-keeps : goal.returns-clause-keeps
returns-clause-keeps g c =
    subst (λ (x : Candidate). Keeps c.args.self.now
    (judged c.args.self.now true [] (given (Entry x.place) x.home) ∷ []) c.judge_entry.new.values) c.self.view_is
    ((c.in_ok-judge_entry.ensures.judges [] (c.new-values.ensures.keeps c.args.self.now)).keeps true)
