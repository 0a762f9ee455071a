use Rattle.std.proofs.Common.{◌≡◌, List, Option, Some, None, refl, sym, ap}
use Rattle.std.specs.Prelude.{◌↔◌, Ok, Err}
use Rattle.ks_base.specs.declared.refusals.Refusal.{Refusal}
use Rattle.run_pre_match.specs.Candidate.{Candidate}
use Rattle.symbol_solve.specs.Solve.{Value, left_of, obstacle, solved, values, values_unless}
use Rattle.symbol_solve.proofs.laws.answers_tell_the_obstacle.Goals as goal

ok_by : (o : Option Refusal) (chosen : List Candidate) (answer : List Value)
    → (values_unless o chosen ≡ Ok answer) ↔ ((o ≡ None) × (answer ≡ values chosen))
ok_by None chosen answer = (λ is. (refl, cc), λ both. ap Ok (sym both.1))
ok_by (Some refusal) chosen answer = (λ is. absurd cc, λ both. absurd (let never = both.0 in cc))

err_by : (o : Option Refusal) (chosen : List Candidate) (refusal : Refusal)
    → (values_unless o chosen ≡ Err refusal) ↔ (o ≡ Some refusal)
err_by None chosen refusal = (λ is. absurd cc, λ is. absurd cc)
err_by (Some other) chosen refusal = (λ is. cc, λ is. cc)

pub returns-clause-ok : goal.returns-clause-ok
unfolding solved
returns-clause-ok c = λ running object answer. ok_by (obstacle running object) (left_of running object) answer

pub returns-clause-err : goal.returns-clause-err
unfolding solved
returns-clause-err c = λ running object refusal. err_by (obstacle running object) (left_of running object) refusal
