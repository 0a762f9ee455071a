-- The slot rule is tested once the event is counted.
use Rattle.std.proofs.Common.{◌∙◌, sym, subst, ap}
use Rattle.frame_watch.specs.Frames.{Watching}
use Rattle.frame_watch.specs.Discipline.{sight_of, slots_tested}
use Rattle.frame_watch.specs.inside.Kept.{AreInPlace}
use Rattle.frame_watch.proofs.EventLaws.{hooks_are, tested_in_place}
use Rattle.frame_watch.proofs.notes.Notes.count_and_test_all.Goals as goal

pub returns-clause-noted : goal.returns-clause-noted
returns-clause-noted g c =
    let sight = sight_of (g.S.Space.contents c.args.space.now) in
    c.test_all.ensures
    ∙ (ap (slots_tested sight) c.count.ensures.counted ∙ hooks_are sight c.args.self.now c.count.ensures.stops)

pub returns-clause-in_place : goal.returns-clause-in_place
returns-clause-in_place g c =
    let P : Watching → Type 0 = λ w. AreInPlace w.threads in
    subst P (sym c.test_all.ensures)
    (tested_in_place (sight_of (g.S.Space.contents c.args.space.now)) c.count.new.self)
