-- The first thread of a watch may be started, since its ESP points to a slot of its stack.
use Rattle.std.proofs.Common.{refl, subst, sym}
use Rattle.frame_watch.specs.Frames.{Watching}
use Rattle.frame_watch.specs.Conditions.{MayStart}
use Rattle.tests_of_machine.proofs.watching.verdict_of.Goals as goal

pub note_spawn-requires : goal.note_spawn-requires
note_spawn-requires c =
    subst (λ (w : Watching). MayStart w c.args.thread.now) (sym c.new-watch.ensures)
    (λ unbroken. record { slot = c.requires; unwatched = refl; apart = refl })
