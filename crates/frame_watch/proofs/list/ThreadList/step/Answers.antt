-- A step that is neither a call nor a return, and leaves ESP as it is, changes no thread.
use Rattle.std.proofs.Common.{List, subst}
use Rattle.frame_watch.specs.Frames.{Watched}
use Rattle.frame_watch.specs.inside.Kept.{AreApart}
use Rattle.frame_watch.proofs.MovedLaws.{still_same, touched_still}
use Rattle.frame_watch.proofs.list.ThreadList.step.Goals as goal

pub returns-then-arrives-clause-moved : goal.returns-then-arrives-clause-moved
returns-then-arrives-clause-moved g c =
    let P : List Watched → Type 0 = λ vs. AreApart vs in
    still_same _ c.args.before.now c.args.after.now c.args.outcome c.args.self.now
    (c.is_still.ensures c.if-is_still.true) c.requires.step (subst P c.self.view_is c.self.invariant.1)

pub returns-then-arrives-clause-touched : goal.returns-then-arrives-clause-touched
returns-then-arrives-clause-touched g c = λ store hold.
    touched_still _ store c.args.self.now c.requires.in_place hold
