-- One thread more at a time.
use Rattle.std.proofs.Common.{◌∙◌, arith, List, ap, refl}
use Rattle.std.proofs.lemmas.List.{take_all}
use Rattle.frame_watch.specs.Frames.{Watched}
use Rattle.frame_watch.specs.Discipline.{breaking, least}
use Rattle.frame_watch.proofs.LeastLaws.{broken_more}
use Rattle.frame_watch.proofs.list.ThreadList.least_broken.Goals as goal

pub loop-thread-init : goal.loop-thread-init
loop-thread-init g c = refl

pub loop-thread-preserved : goal.loop-thread-preserved
loop-thread-preserved g c =
    broken_more (g.S.Space.contents c.args.space.now).pieces c.deref-thread-items.result.now
    c.loop-thread.thread-index c.thread-item.result
    c.keeps_slots.result c.loop-thread.found c.lesser_unless-found.result c.number.result
    (omega arith) c.thread-item.is c.keeps_slots.ensures c.number.ensures c.loop-thread.invariant
    c.lesser_unless-found.ensures

pub returns : goal.returns
returns g c =
    let items = c.deref-thread-items.result.now in
    let pieces = (g.S.Space.contents c.args.space.now).pieces in
    c.loop-thread.invariant
    ∙ ap (λ (vs : List Watched). least (breaking pieces vs))
    (take_all c.loop-thread.thread-index items c.loop-thread-test.false
    ∙ (c.deref-thread-items.ensures.value ∙ c.self.view_is))
