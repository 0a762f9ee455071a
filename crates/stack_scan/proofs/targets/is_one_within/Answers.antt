use Rattle.std.proofs.Common.{w32}
use Rattle.std.proofs.lemmas.Simd.{length-chunk, chunk-fits}
use lib.Lanes.{chunk}
use Rattle.stack_scan.proofs.LaneLaws.{lanes_decide}
use Rattle.stack_scan.proofs.targets.is_one_within.Goals as goal

pub returns : goal.returns
returns c =
    let words = c.args.words.now in
    let start = c.args.start in
    let low = c.args.low in
    let high = c.args.high in
    rw c.saturating_sub-span.ensures
    (lanes_decide (chunk start 8 words) low high (length-chunk start 8 words c.requires)
    c.ranges.low.fits c.ranges.high.fits (chunk-fits w32 start 8 words c.type_inv.words))
