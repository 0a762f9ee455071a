use Rattle.ksplice_calls.proofs.ReplyLines.{last_ones}
use Rattle.ksplice_calls.proofs.reply_lines.last_three.Goals as goal

pub returns : goal.returns
returns c = last_ones c.args.lines.now c.saturating_sub.result c.saturating_sub.ensures
