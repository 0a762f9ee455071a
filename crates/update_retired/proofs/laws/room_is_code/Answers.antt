use Rattle.update_retired.proofs.SameRoom.{room_in_code}
use Rattle.update_retired.proofs.laws.room_is_code.Goals as goal

pub returns : goal.returns
returns c = room_in_code
