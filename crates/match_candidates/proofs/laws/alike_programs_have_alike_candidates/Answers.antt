use Rattle.match_candidates.proofs.AlikeLaws.{candidates_alike, own_fault_alike}
use Rattle.match_candidates.proofs.laws.alike_programs_have_alike_candidates.Goals as goal

pub returns-clause-candidates : goal.returns-clause-candidates
returns-clause-candidates c = λ one other object alike. candidates_alike one other alike object

pub returns-clause-own_fault : goal.returns-clause-own_fault
returns-clause-own_fault c = λ one other object alike inside.
    own_fault_alike one other alike c.alike_memories_match_alike.ensures.outcome object inside
