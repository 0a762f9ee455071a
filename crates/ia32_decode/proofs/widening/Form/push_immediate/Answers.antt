use Rattle.std.proofs.Common.{◌++◌, length, arith, ap, sym, ◌∙◌, true, false}
use Rattle.ia32_alu.specs.Widths.{byte_count}
use Rattle.ia32_decode.specs.Wide.{widened, has_wide_opcode}
use Rattle.ia32_decode.proofs.WideForms.{bounds, finished}
use Rattle.ia32_decode.proofs.widening.Form.push_immediate.Goals as goal

pub field_bytes-number-requires : goal.field_bytes-number-requires
field_bytes-number-requires c = (bounds _ _ c.requires.decoded).immediate

pub push_number-requires-clause-number : goal.push_number-requires-clause-number
push_number-requires-clause-number c =
    let b = bounds _ _ c.requires.decoded in omega (arith, b.immediate_few, ap length c.field_bytes-number.ensures)

pub push_number-requires-clause-room : goal.push_number-requires-clause-room
push_number-requires-clause-room c =
    let b = bounds _ _ c.requires.decoded in omega (arith, b.numbers, ap length c.requires.before)

pub push-requires : goal.push-requires
push-requires c =
    let b = bounds _ _ c.requires.decoded in
    omega (arith, b.numbers, b.immediate_few, ap length c.requires.before, ap length c.field_bytes-number.ensures)

pub returns-then-has_wide_opcode : goal.returns-then-has_wide_opcode
returns-then-has_wide_opcode c =
    finished _ _ true _ _ _
    (c.push_number.ensures ∙ ap (λ n. c.args.self.now ++ widened n c.field_bytes-number.result.now)
    (c.byte_count.ensures ∙ ap byte_count c.full_width.ensures))
    c.requires.before c.field_bytes-number.ensures
    (sym c.if-has_wide_opcode.true ∙ c.has_wide_opcode.ensures ∙ ap has_wide_opcode c.byte_at.ensures)

pub returns-else-has_wide_opcode : goal.returns-else-has_wide_opcode
returns-else-has_wide_opcode c =
    finished _ _ false _ _ _ c.push.ensures c.requires.before c.field_bytes-number.ensures
    (sym c.if-has_wide_opcode.false ∙ c.has_wide_opcode.ensures ∙ ap has_wide_opcode c.byte_at.ensures)
