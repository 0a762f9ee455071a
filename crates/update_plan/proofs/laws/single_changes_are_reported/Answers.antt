use Rattle.update_plan.proofs.OneFunctions.{single_reported}
use Rattle.update_plan.proofs.laws.single_changes_are_reported.Goals as goal

pub returns : goal.returns
returns c = single_reported c.answers_tell_each_body.ensures c.places_lie_apart.ensures
