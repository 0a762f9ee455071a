use Rattle.splice_jump.specs.Jump.{jump_bytes}
use Rattle.splice_jump.specs.laws.CodeLaws.{code_written}
use Rattle.tests_of_images.proofs.jumps.there_and_back.Goals as goal

pub restore-requires : goal.restore-requires
restore-requires g c =
    let contents = g.S.Space.contents c.args.space.now in
    rw c.splice-old.ensures.contents
    (code_written contents.pieces c.args.home (jump_bytes c.args.home c.args.base) c.args.home 5 c.requires)
