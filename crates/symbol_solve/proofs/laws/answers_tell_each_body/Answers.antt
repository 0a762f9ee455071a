use Rattle.symbol_solve.proofs.AnsweredLaws.{answer_tells}
use Rattle.symbol_solve.proofs.laws.answers_tell_each_body.Goals as goal

pub returns : goal.returns
returns c = λ running object values valid distinct is.
    answer_tells c.bodies_lie_in_code.ensures.kept c.bodies_lie_in_code.ensures.some c.bodies_lie_in_code.ensures.low
    running object values valid distinct is
