use Rattle.update_plan.proofs.InUseOlds.{olds_in_use}
use Rattle.update_plan.proofs.laws.matched_bodies_are_in_use.Goals as goal

pub returns : goal.returns
returns c = olds_in_use c.instructions_have_bytes.ensures.within c.answer_is_only_solution.ensures.solution
