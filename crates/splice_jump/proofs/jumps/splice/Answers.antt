use Rattle.std.proofs.Common.{arith}
use Rattle.splice_jump.specs.laws.CodeLaws.{ends_below}
use Rattle.splice_jump.proofs.jumps.splice.Goals as goal

pub five_at-old-requires : goal.five_at-old-requires
five_at-old-requires g c =
    let contents = g.S.Space.contents c.args.space.now in
    let low = ends_below contents c.args.home 5 (g.met.S.Space.valid c.args.space.now) (omega arith) c.requires in
    omega arith
