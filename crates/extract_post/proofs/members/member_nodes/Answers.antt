use Rattle.std.proofs.Common.{◌+◌, ◌*◌, ◌∙◌, arith}
use Rattle.extract_post.proofs.ChangeLaws.{seeds_are}
use Rattle.extract_post.proofs.Numbered.{tell_members}
use Rattle.extract_post.proofs.members.member_nodes.Goals as goal

pub returns : goal.returns
returns c =
    let pre = c.args.pre.now in
    let post = c.args.post.now in
    rw c.new.ensures
    (tell_members pre post c.requires.pre_distinct c.requires.post_distinct c.as_slice-2.result.now
    (rw c.as_slice-2.ensures (seeds_are pre post c.args.first.now c.in_ok-seeds.seeds
    (3 * (c.len.result + c.len-2.result)) (omega arith) c.requires.first c.in_ok-seeds.ensures))
    c.in_ok-nodes.nodes.items c.as_slice.result.now (c.as_slice.ensures.value ∙ c.in_ok-edges.ensures)
    (3 * (c.len.result + c.len-2.result)) (omega arith) c.in_ok-nodes.ensures.marks)
