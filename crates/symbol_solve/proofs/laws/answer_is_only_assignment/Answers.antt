use Rattle.symbol_solve.proofs.OnlyAssignment.{clear_by, left_solves, listed_all, no_second, otherwise, exactly}
use Rattle.symbol_solve.proofs.laws.answer_is_only_assignment.Goals as goal

pub returns-clause-some : goal.returns-clause-some
returns-clause-some c = λ running object answer distinct is.
    left_solves c.solutions_assign_addresses.ensures.solution running object distinct
    (clear_by running object answer is).0

pub returns-clause-only : goal.returns-clause-only
returns-clause-only c = λ running object answer assigned chosen distinct is solves.
    listed_all c.solutions_assign_addresses.ensures.solution
    c.solutions_assign_addresses.ensures.listed running object distinct answer is assigned chosen solves

pub returns-clause-no_second : goal.returns-clause-no_second
returns-clause-no_second c = λ running object answer one other chosen others distinct is solves also.
    no_second c.solutions_assign_addresses.ensures.solution
    c.solutions_assign_addresses.ensures.listed running object distinct answer is one other chosen others solves also

pub returns-clause-otherwise : goal.returns-clause-otherwise
returns-clause-otherwise c = λ running object refusal assigned chosen distinct is solves.
    otherwise c.solutions_assign_addresses.ensures.solution running object distinct refusal assigned
    chosen is solves

pub returns-clause-exactly : goal.returns-clause-exactly
returns-clause-exactly c = λ running object distinct.
    exactly c.solutions_assign_addresses.ensures.solution running object distinct
