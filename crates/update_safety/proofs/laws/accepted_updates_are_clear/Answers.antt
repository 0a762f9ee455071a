use Rattle.update_safety.proofs.ClearLaws.{accepted_clear}
use Rattle.update_safety.proofs.laws.accepted_updates_are_clear.Goals as goal

pub returns : goal.returns
returns c = accepted_clear c.retired_code_is_guarded.ensures
