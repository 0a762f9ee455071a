use Rattle.std.proofs.Common.{ap, arith, length}
use Rattle.std.proofs.lemmas.List.{length-append}
use Rattle.ia32_decode.proofs.WideForms.{bounds}
use Rattle.ia32_decode.proofs.widening.Form.push_head.Goals as goal

pub first_bytes-requires : goal.first_bytes-requires
first_bytes-requires c = let b = bounds _ _ c.requires.decoded in omega (arith, b.begins, b.within)

pub push-requires : goal.push-requires
push-requires c =
    let b = bounds _ _ c.requires.decoded in
    omega (arith, b.begins, b.short, ap length c.requires.empty, c.first_bytes.ensures.length)

pub set-requires : goal.set-requires
set-requires c =
    let b = bounds _ _ c.requires.decoded in
    omega (
      arith,
      b.opcode,
      ap length c.push.ensures,
      length-append c.args.self.now c.first_bytes.result.now,
      c.first_bytes.ensures.length,
    )
