use Rattle.update_safety.proofs.ClearLaws.{taken_back_clear}
use Rattle.update_safety.proofs.laws.undone_updates_are_clear.Goals as goal

pub returns : goal.returns
returns c = taken_back_clear
