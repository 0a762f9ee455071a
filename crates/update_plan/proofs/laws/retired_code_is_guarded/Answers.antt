use Rattle.update_plan.proofs.GuardLaws.{plan_guarded}
use Rattle.update_plan.proofs.laws.retired_code_is_guarded.Goals as goal

pub returns : goal.returns
returns c = plan_guarded
