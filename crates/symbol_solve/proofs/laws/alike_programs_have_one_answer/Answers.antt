use Rattle.symbol_solve.proofs.AlikeLaws.{left_of_alike, solved_alike}
use Rattle.symbol_solve.proofs.laws.alike_programs_have_one_answer.Goals as goal

pub returns-clause-left : goal.returns-clause-left
returns-clause-left c = λ one other object alike inside.
    left_of_alike c.alike_memories_match_alike.ensures.outcome c.alike_memories_match_alike.ensures.body
    c.alike_programs_have_alike_candidates.ensures.candidates c.alike_programs_have_alike_candidates.ensures.own_fault
    one other object alike inside

pub returns-clause-answer : goal.returns-clause-answer
returns-clause-answer c = λ one other object alike inside.
    solved_alike c.alike_memories_match_alike.ensures.outcome c.alike_memories_match_alike.ensures.body
    c.alike_programs_have_alike_candidates.ensures.candidates c.alike_programs_have_alike_candidates.ensures.own_fault
    one other object alike inside
