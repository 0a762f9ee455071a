-- The slot rule is tested after all others, where this step can have broken it.
use Rattle.std.proofs.Common.{◌∙◌, sym, subst, ap}
use Rattle.frame_watch.specs.Frames.{Watching}
use Rattle.frame_watch.specs.Discipline.{sight_of, slots_tested, step_noted}
use Rattle.frame_watch.specs.inside.Kept.{AreInPlace}
use Rattle.frame_watch.proofs.EventLaws.{step_is, tested_in_place}
use Rattle.frame_watch.proofs.calls.Watch.note_traced.Goals as goal

pub invariant_of-self : goal.invariant_of-self
invariant_of-self g c =
    let P : Watching → Type 0 = λ w. AreInPlace w.threads in
    subst P (sym c.test_touched.ensures)
    (tested_in_place (sight_of (g.S.Space.contents c.args.space.now)) c.advance-displaced.new.self)

pub returns : goal.returns
returns g c =
    let sight = sight_of (g.S.Space.contents c.args.space.now) in
    c.test_touched.ensures
    ∙ (ap (slots_tested sight) c.advance-displaced.ensures.noted
    ∙ (step_is sight c.args.before.now c.args.after.now c.args.traced.now.outcome c.self.inside.notes
    c.advance-displaced.ensures.stops
    ∙ ap (λ (w : Watching). step_noted sight c.args.before.now c.args.after.now c.args.traced.now.outcome w)
    c.self.view_is))
