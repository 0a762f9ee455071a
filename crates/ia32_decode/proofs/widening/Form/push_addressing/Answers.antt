use Rattle.std.proofs.Common.{◌-◌, take, drop, length, arith, ap, sym, ◌∙◌}
use Rattle.std.proofs.lemmas.List.{length-append}
use Rattle.ia32_decode.specs.Wide.{with_wide_mode}
use Rattle.ia32_decode.proofs.WideForms.{bounds, short_addressing, long_addressing}
use Rattle.ia32_decode.proofs.widening.Form.push_addressing.Goals as goal

pub bytes_between-requires-clause-order : goal.bytes_between-requires-clause-order
bytes_between-requires-clause-order c =
    let b = bounds _ _ c.requires.decoded in omega (arith, b.begins, c.fields_begin.ensures)

pub bytes_between-requires-clause-within : goal.bytes_between-requires-clause-within
bytes_between-requires-clause-within c =
    let b = bounds _ _ c.requires.decoded in omega (arith, b.within, c.fields_begin.ensures)

pub push-requires : goal.push-requires
push-requires c =
    let b = bounds _ _ c.requires.decoded in
    omega (
      arith,
      b.begins,
      b.short,
      b.head,
      c.fields_begin.ensures,
      ap length c.requires.head,
      c.bytes_between.ensures.length,
    )

pub set-requires : goal.set-requires
set-requires c =
    let b = bounds _ _ c.requires.decoded in
    omega (
      arith,
      b.head,
      b.follows_mode (sym c.is_short.ensures ∙ c.if-is_short.true),
      c.fields_begin.ensures,
      ap length c.requires.head,
      ap length c.push.ensures,
      length-append c.args.self.now c.bytes_between.result.now,
      c.bytes_between.ensures.length,
    )

pub returns-then-is_short : goal.returns-then-is_short
returns-then-is_short c =
    short_addressing _ _ (bounds _ _ c.requires.decoded) _ _ _ _ _ c.set.ensures c.push.ensures c.requires.head
    (c.bytes_between.ensures.value
    ∙ ap (λ k. take (k - c.args.decoded.now.fields.opcode_end)
    (drop c.args.decoded.now.fields.opcode_end c.args.window.now)) c.fields_begin.ensures)
    (ap with_wide_mode c.byte_at.ensures) (sym c.is_short.ensures ∙ c.if-is_short.true)

pub returns-else-is_short : goal.returns-else-is_short
returns-else-is_short c =
    long_addressing c.args.window.now c.args.decoded.now _ _ _ c.push.ensures c.requires.head
    (c.bytes_between.ensures.value
    ∙ ap (λ k. take (k - c.args.decoded.now.fields.opcode_end)
    (drop c.args.decoded.now.fields.opcode_end c.args.window.now)) c.fields_begin.ensures)
    (sym c.is_short.ensures ∙ c.if-is_short.false)
