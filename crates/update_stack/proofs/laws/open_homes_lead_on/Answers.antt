use Rattle.update_stack.proofs.OpenStepLaws.{leads_on}
use Rattle.update_stack.proofs.laws.open_homes_lead_on.Goals as goal

pub returns : goal.returns
returns c = leads_on
