use Rattle.std.proofs.Common.{refl}
use Rattle.image_memory.specs.Contents.{piece_range}
use Rattle.image_threads.specs.laws.StackLaws.{stack_written}
use Rattle.saved_data.proofs.restoring.write_over.Goals as goal

pub unreachable-requires : goal.unreachable-requires
unreachable-requires g c =
    let good = stack_written (g.S.Space.contents c.args.space.now) (piece_range c.args.piece.now) _
    (g.met.S.Space.valid c.args.space.now) c.requires refl in
    let bad = c.in-Err.ensures.cause in
    cc (good, bad, c.as_slice.ensures)
