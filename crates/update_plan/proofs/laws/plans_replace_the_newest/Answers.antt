use Rattle.update_plan.proofs.Versions.{all_replace_newest}
use Rattle.update_plan.proofs.laws.plans_replace_the_newest.Goals as goal

pub returns : goal.returns
returns c = all_replace_newest c.answers_tell_each_body.ensures
