use Rattle.extract_post.proofs.ChangeLaws.{tell_seeds}
use Rattle.extract_post.proofs.changes.first_members.Goals as goal

pub returns : goal.returns
returns c =
    tell_seeds c.args.pre.now c.args.post.now c.args.changed.now c.in_ok-of.field-0 c.and-code.result
    c.in_ok-of-2.field-0 c.or.result
    c.requires c.in_ok-of.ensures c.and-code.ensures c.in_ok-of-2.ensures c.or.ensures
