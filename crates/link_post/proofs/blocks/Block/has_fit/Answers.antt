use Rattle.std.proofs.Common.{◌≡◌, ◌<◌, sym, ap, ◌∙◌, arith}
use Rattle.link_post.specs.Places.{boundary}
use Rattle.link_post.specs.inside.Blocks.{most_room}
use Rattle.link_post.proofs.BlockLaws.{short}
use Rattle.link_post.proofs.blocks.Block.has_fit.Goals as goal

pub returns-then-limit-section : goal.returns-then-limit-section
returns-then-limit-section c =
    let s = c.args.section.now in
    let ranges = c.args.self.now.ranges.items in
    let unit : c.max.result ≡ boundary s = omega (arith, c.max.ensures) in
    let limit : c.in-Some.limit ≡ most_room ranges (boundary s) = c.in-Some.ensures ∙ ap (most_room ranges) unit in
    let less : most_room ranges (boundary s) < s.size = omega (arith, c.if-limit-section.true) in
    sym (short s 0 ranges less)
