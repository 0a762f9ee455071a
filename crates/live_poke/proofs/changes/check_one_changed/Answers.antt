use Rattle.live_poke.proofs.ChangeLaws.{refused_change}
use Rattle.live_poke.proofs.changes.check_one_changed.Goals as goal

pub returns-in-Err : goal.returns-in-Err
returns-in-Err c =
    refused_change c.args.pre.now c.args.post.now c.in-Err.refusal c.check_memory.result c.in-Err.ensures
    c.check_memory.ensures
