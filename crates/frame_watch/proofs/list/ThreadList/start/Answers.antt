-- The new thread stands before the first one whose stack begins above its own.
use Rattle.std.proofs.Common.{◌≡◌, ◌∙◌, arith, List, ap, sym, subst, Some, None}
use Rattle.std.specs.List.{insert}
use Rattle.image_memory.specs.Ranges.{Ascends}
use Rattle.image_memory.specs.laws.PutLaws.{insert_is_put, Ascends-put}
use Rattle.ia32_step.specs.Threads.{esp_of}
use Rattle.frame_watch.specs.Frames.{Watched, stack_of, started, with_started}
use Rattle.frame_watch.specs.inside.Kept.{AreApart, IsTouched, first_store}
use Rattle.frame_watch.proofs.FrameLaws.{slot_is}
use Rattle.frame_watch.proofs.MovedLaws.{touched_started}
use Rattle.frame_watch.proofs.ListLaws.{apart_put}
use Rattle.frame_watch.proofs.list.ThreadList.start.Goals as goal

placed_new : (c : goal.In_ok-insert) → insert c.args.self.now c.begun-at.result (started c.args.thread.now)
    ≡ with_started c.args.self.now c.args.thread.now
placed_new c =
    let ws = c.args.self.now in
    let new = started c.args.thread.now in
    let n = c.begun-at.result in
    let low = c.from.ensures in
    let e = c.begun-at.ensures in
    insert_is_put stack_of new ws n e.bound
    (λ k d l. let h = e.below k d (omega arith) l in omega arith)
    (λ k d l m. let h = e.above k d l m in omega arith)

pub returns-clause-ok : goal.returns-clause-ok
returns-clause-ok c =
    let new = started c.args.thread.now in
    let n = c.begun-at.result in
    c.in_ok-insert.ensures.items
    ∙ (ap (λ (w : Watched). insert c.self.inside.threads.items n w) c.in_ok-kept.ensures
    ∙ (ap (λ (vs : List Watched). insert vs n new) c.self.view_is ∙ placed_new c))

pub invariant_of-self-2 : goal.invariant_of-self-2
invariant_of-self-2 c =
    let ws = c.args.self.now in
    let new = started c.args.thread.now in
    let A : List Watched → Type 0 = λ vs. Ascends stack_of 0 vs in
    let B : List Watched → Type 0 = λ vs. AreApart vs in
    let slot = slot_is c.args.thread.now.stack (esp_of c.args.thread.now)
    (esp_of c.args.thread.now) c.requires.start.slot in
    let low = slot.low in
    let high = slot.high in
    let same = sym (returns-clause-ok c) in (
      subst A same (Ascends-put stack_of 0 new ws (omega arith) (omega arith) c.requires.start.apart
          (subst A c.self.view_is c.self.invariant.0)),
      subst B same (apart_put new ws c.requires.start.unwatched (subst B c.self.view_is c.self.invariant.1)),
    )

pub returns-clause-touched : goal.returns-clause-touched
returns-clause-touched c = λ pieces hold.
    let P : List Watched → Type 0 = λ vs. IsTouched pieces None (Some (first_store c.args.thread.now)) vs in
    subst P (sym (returns-clause-ok c))
    (touched_started pieces c.args.thread.now c.args.self.now c.requires.start c.requires.in_place hold)
