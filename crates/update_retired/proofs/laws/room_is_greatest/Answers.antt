use Rattle.update_retired.proofs.RoomyLaws.{room_enough, room_greatest}
use Rattle.update_retired.proofs.laws.room_is_greatest.Goals as goal

pub returns-clause-enough : goal.returns-clause-enough
returns-clause-enough c = room_enough

pub returns-clause-greatest : goal.returns-clause-greatest
returns-clause-greatest c = room_greatest c.instructions_have_bytes.ensures.some
