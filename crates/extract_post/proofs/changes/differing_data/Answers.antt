use Rattle.extract_post.proofs.ChangeLaws.{tell_data}
use Rattle.extract_post.proofs.changes.differing_data.Goals as goal

pub returns : goal.returns
returns c =
    tell_data c.args.pre.now c.args.post.now c.args.changed.now c.in_ok-of.field-0 c.and-data.result
    c.in_ok-of-2.field-0 c.or.result
    c.requires c.in_ok-of.ensures c.and-data.ensures c.in_ok-of-2.ensures c.or.ensures
