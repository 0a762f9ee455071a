use Rattle.std.proofs.Common.{length, arith, ap}
use Rattle.ia32_decode.proofs.WideForms.{put_together, longer}
use Rattle.ia32_decode.proofs.widening.widen.Goals as goal

pub overflow_sub-length : goal.overflow_sub-length
overflow_sub-length c =
    omega (
      arith,
      longer c.args.window.now c.args.decoded.now,
      c.len-immediate.ensures.value,
      c.len-length.ensures.value,
      ap length c.push_displacement.ensures,
      ap length c.push_immediate.ensures,
    )

pub returns : goal.returns
returns c =
    put_together c.args.window.now c.args.decoded.now _ _ _ _ _ _ _ c.push_addressing.ensures
    c.push_displacement.ensures c.push_immediate.ensures c.len-displacement.ensures.value
    c.len-immediate.ensures.value c.len-length.ensures.value c.padded.ensures _ _ c.field.ensures c.field-2.ensures
