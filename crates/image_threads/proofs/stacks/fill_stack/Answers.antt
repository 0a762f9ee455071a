use Rattle.image_threads.specs.laws.StackLaws.{stack_written}
use Rattle.image_threads.proofs.stacks.fill_stack.Goals as goal

pub unreachable-requires : goal.unreachable-requires
unreachable-requires g c =
    let good = stack_written (g.S.Space.contents c.args.space.now) c.args.stack _
    (g.met.S.Space.valid c.args.space.now) c.requires.writable c.requires.whole in
    let bad = c.in-Err.ensures.cause in
    cc (good, bad)
