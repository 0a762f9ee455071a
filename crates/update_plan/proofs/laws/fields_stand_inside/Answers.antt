use Rattle.update_plan.proofs.Fields.{all_inside}
use Rattle.update_plan.proofs.laws.fields_stand_inside.Goals as goal

pub returns : goal.returns
returns c = all_inside c.sections_are_whole.ensures
