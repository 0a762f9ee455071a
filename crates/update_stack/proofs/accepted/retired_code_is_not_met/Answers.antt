use Rattle.update_stack.proofs.AcceptedLaws.{not_met}
use Rattle.update_stack.proofs.accepted.retired_code_is_not_met.Goals as goal

pub returns : goal.returns
returns c = not_met
