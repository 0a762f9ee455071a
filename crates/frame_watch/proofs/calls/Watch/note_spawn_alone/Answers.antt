-- The slot rule is tested after the rule of start, at the new thread alone.
use Rattle.std.proofs.Common.{◌∙◌, sym, subst, ap}
use Rattle.frame_watch.specs.Frames.{Watching}
use Rattle.frame_watch.specs.Discipline.{sight_of, slots_tested, spawn_noted}
use Rattle.frame_watch.specs.inside.Kept.{AreInPlace}
use Rattle.frame_watch.proofs.EventLaws.{spawn_is, tested_in_place}
use Rattle.frame_watch.proofs.calls.Watch.note_spawn_alone.Goals as goal

pub invariant_of-self-2 : goal.invariant_of-self-2
invariant_of-self-2 g c =
    let P : Watching → Type 0 = λ w. AreInPlace w.threads in
    subst P (sym c.test_written.ensures)
    (tested_in_place (sight_of (g.S.Space.contents c.args.space.now)) c.begin.new.self)

pub returns-clause-noted : goal.returns-clause-noted
returns-clause-noted g c =
    let sight = sight_of (g.S.Space.contents c.args.space.now) in
    c.test_written.ensures
    ∙ (ap (slots_tested sight) c.in_ok-begin.ensures.ok
    ∙ (spawn_is sight c.args.thread.now c.self.inside.notes c.in_ok-begin.ensures.stops
    ∙ ap (λ (w : Watching). spawn_noted sight c.args.thread.now w) c.self.view_is))
