use Rattle.std.proofs.Common.{length, arith, ap}
use Rattle.ia32_decode.proofs.WideForms.{bounds}
use Rattle.ia32_decode.proofs.widening.Form.push_displacement.Goals as goal

pub field_bytes-requires : goal.field_bytes-requires
field_bytes-requires c = (bounds _ _ c.requires.decoded).displacement

pub push_number-requires-clause-number : goal.push_number-requires-clause-number
push_number-requires-clause-number c =
    let b = bounds _ _ c.requires.decoded in omega (arith, b.displacement_few, ap length c.field_bytes.ensures)

pub push_number-requires-clause-room : goal.push_number-requires-clause-room
push_number-requires-clause-room c =
    let b = bounds _ _ c.requires.decoded in omega (arith, b.addressing, ap length c.requires.before)
