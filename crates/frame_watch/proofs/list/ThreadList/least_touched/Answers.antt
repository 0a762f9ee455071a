-- Where nothing was written only the thread that has moved can have broken a frame.
use Rattle.std.proofs.Common.{List, subst}
use Rattle.frame_watch.specs.Frames.{Watched}
use Rattle.image_memory.specs.Ranges.{Ascends}
use Rattle.frame_watch.specs.Frames.{stack_of}
use Rattle.frame_watch.specs.inside.Kept.{AreApart}
use Rattle.frame_watch.proofs.TouchedLaws.{by_move}
use Rattle.frame_watch.proofs.list.ThreadList.least_touched.Goals as goal

pub returns-in-None : goal.returns-in-None
returns-in-None g c =
    let A : List Watched → Type 0 = λ vs. Ascends stack_of 0 vs in
    let B : List Watched → Type 0 = λ vs. AreApart vs in
    by_move (g.S.Space.contents c.args.space.now).pieces c.args.displaced c.args.store c.args.self.now c.requires
    (subst A c.self.view_is c.self.invariant.0) (subst B c.self.view_is c.self.invariant.1) c.in-None.is
