use Rattle.update_plan.proofs.OnePlan.{one_plan}
use Rattle.update_plan.proofs.laws.alike_programs_have_one_plan.Goals as goal

pub returns : goal.returns
returns c = one_plan c.alike_programs_have_one_answer.ensures.answer c.room_is_met.ensures c.fields_stand_inside.ensures
