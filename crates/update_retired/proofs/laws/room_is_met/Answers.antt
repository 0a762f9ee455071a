use Rattle.update_retired.proofs.SameRoom.{same_room}
use Rattle.update_retired.proofs.laws.room_is_met.Goals as goal

pub returns : goal.returns
returns c = same_room
