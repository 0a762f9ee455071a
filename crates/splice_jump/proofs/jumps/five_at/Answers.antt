use Rattle.splice_jump.proofs.CodeLaws.{five_are}
use Rattle.splice_jump.proofs.jumps.five_at.Goals as goal

pub returns : goal.returns
returns g c = let five = five_are (g.S.Space.contents c.args.space.now).pieces c.args.home in cc
