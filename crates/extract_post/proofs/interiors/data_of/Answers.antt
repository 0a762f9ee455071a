use Rattle.extract_post.proofs.DataLaws.{tell_data_of}
use Rattle.extract_post.proofs.interiors.data_of.Goals as goal

pub returns : goal.returns
returns c =
    tell_data_of c.args.post.now c.args.starts.now c.in_ok-reached.field-0 c.in_ok-of.field-0 c.or-wanted.result
    c.and.result
    c.in_ok-reached.ensures c.in_ok-of.ensures c.or-wanted.ensures c.and.ensures
