use Rattle.std.proofs.Common.{arith}
use Rattle.std.proofs.lemmas.Simd.{length-chunk}
use lib.Lanes.{chunk}
use Rattle.section_equal.proofs.LaneLaws.{mask_decides}
use Rattle.section_equal.proofs.bytes.equal_lanes.Goals as goal

pub returns : goal.returns
returns c =
    let a = c.args.a.now in
    let b = c.args.b.now in
    let i = c.args.start in
    mask_decides 32 (chunk i 32 a) (chunk i 32 b)
    (length-chunk i 32 a c.requires.first) (length-chunk i 32 b c.requires.second) (omega arith)
