use Rattle.std.proofs.Common.{◌-◌, ◌∙◌, [], length, sym, arith}
use Rattle.ksplice_calls.proofs.ReplyLines.{empty_goes, other_stays}
use Rattle.ksplice_calls.proofs.reply_lines.without_empty_last.Goals as goal

pub returns-in-len1-up : goal.returns-in-len1-up
returns-in-len1-up c =
    empty_goes (record { ref_ptr = (0, 0); now = [] }) c.args.parts.now (length c.args.parts.now - 1)
    (omega (arith, c.in-len1-up.len_at_least)) (sym c.is_empty.ensures ∙ c.if-is_empty.true)

pub returns-in_default-2 : goal.returns-in_default-2
returns-in_default-2 c =
    other_stays (record { ref_ptr = (0, 0); now = [] }) c.args.parts.now (length c.args.parts.now - 1)
    (omega (arith, c.in-len1-up.len_at_least)) (sym c.is_empty.ensures ∙ c.if-is_empty.false)
