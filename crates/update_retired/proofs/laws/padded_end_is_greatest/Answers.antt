use Rattle.std.proofs.Common.{arith}
use Rattle.update_retired.proofs.RoomyLaws.{padded_reached, padded_greatest}
use Rattle.update_retired.proofs.laws.padded_end_is_greatest.Goals as goal

pub returns-clause-reached : goal.returns-clause-reached
returns-clause-reached c = padded_reached

pub returns-clause-greatest : goal.returns-clause-greatest
returns-clause-greatest c contents home long end padded in_code =
    padded_greatest c.instructions_have_bytes.ensures.some contents home long end end padded (omega arith) in_code
