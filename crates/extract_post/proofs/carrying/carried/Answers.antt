use Rattle.extract_post.proofs.DataLaws.{tell_carried}
use Rattle.extract_post.proofs.carrying.carried.Goals as goal

pub returns : goal.returns
returns c =
    tell_carried c.args.pre.now c.args.post.now c.args.members.now c.in_ok-of.field-0 c.and-functions.result
    c.in_ok-of-2.field-0 c.or-starts.result
    c.in_ok-reached.field-0 c.in_ok-constants.constants c.and.result
    c.requires.distinct c.requires.members c.in_ok-of.ensures c.and-functions.ensures c.in_ok-of-2.ensures
    c.or-starts.ensures
    c.in_ok-reached.ensures c.in_ok-constants.ensures c.and.ensures
