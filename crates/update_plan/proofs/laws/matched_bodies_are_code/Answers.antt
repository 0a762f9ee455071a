use Rattle.update_plan.proofs.SoundCode.{olds_are_code}
use Rattle.update_plan.proofs.laws.matched_bodies_are_code.Goals as goal

pub returns : goal.returns
returns c = olds_are_code c.instructions_have_bytes.ensures.within c.answer_is_only_solution.ensures.solution
