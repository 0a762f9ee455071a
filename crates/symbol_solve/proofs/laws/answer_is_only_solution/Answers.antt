use Rattle.symbol_solve.proofs.OnlyLaws.{parts_clear, solution_left, only_left}
use Rattle.symbol_solve.proofs.SolvedLaws.{none_in_the_way}
use Rattle.symbol_solve.proofs.laws.answer_is_only_solution.Goals as goal

pub returns-clause-solution : goal.returns-clause-solution
returns-clause-solution c = solution_left

pub returns-clause-only : goal.returns-clause-only
returns-clause-only c = only_left

pub returns-clause-exactly : goal.returns-clause-exactly
returns-clause-exactly c = λ running object. (
  (λ clear. let (decoded, there) = parts_clear running object clear in
      (decoded, there, (solution_left running object clear).choice)),
  (λ parts. none_in_the_way running object parts.2 parts.0 parts.1),
)
