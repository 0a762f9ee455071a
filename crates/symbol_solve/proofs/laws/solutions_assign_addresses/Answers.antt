use Rattle.symbol_solve.proofs.AssignmentLaws.{OfMatching, claims_assign, to_assignment, to_solution}
use Rattle.symbol_solve.proofs.ListedLaws.{all_listed}
use Rattle.symbol_solve.proofs.laws.solutions_assign_addresses.Goals as goal

pub returns-clause-solution : goal.returns-clause-solution
returns-clause-solution c =
    let laws : OfMatching = record {
      some = c.matches_have_one_valuation.ensures.some;
      comes = c.matches_have_one_valuation.ensures.comes;
      says = c.matches_have_one_valuation.ensures.says;
      agree = c.claims_agree.ensures.agree;
      numbers = c.numbers_stand_for_one.ensures;
    } in
    λ running object chosen distinct. (
      (λ it. (claims_assign laws running object distinct chosen, to_assignment laws running object distinct chosen it)),
      (λ solved. to_solution laws running object distinct solved.0 chosen solved.1),
    )

pub returns-clause-listed : goal.returns-clause-listed
returns-clause-listed c =
    let laws : OfMatching = record {
      some = c.matches_have_one_valuation.ensures.some;
      comes = c.matches_have_one_valuation.ensures.comes;
      says = c.matches_have_one_valuation.ensures.says;
      agree = c.claims_agree.ensures.agree;
      numbers = c.numbers_stand_for_one.ensures;
    } in
    λ running object assigned chosen distinct solves. all_listed laws running object distinct assigned chosen solves
