-- The thread that has moved, and those whose slots were written.
use Rattle.std.proofs.Common.{◌≡◌, ◌∙◌, ℕ, ◌+◌, List, ap, refl, subst, Option, Some}
use Rattle.image_memory.specs.Ranges.{Ascends}
use Rattle.frame_watch.specs.Frames.{Watched, stack_of}
use Rattle.frame_watch.specs.inside.Kept.{AreApart, keeps_address, number_unless, stacked_at}
use Rattle.frame_watch.specs.inside.Events.{lesser_of}
use Rattle.frame_watch.proofs.TouchedLaws.{by_one_slot, by_two_slots}
use Rattle.frame_watch.proofs.list.ThreadList.least_written.Goals as goal

both : (a b c d r : Option ℕ) → r ≡ lesser_of a b → a ≡ c → b ≡ d → r ≡ lesser_of c d
both a b c d r made one two = made ∙ (ap (λ o. lesser_of o b) one ∙ ap (lesser_of c) two)

pub returns-then-rest-eq0 : goal.returns-then-rest-eq0
returns-then-rest-eq0 g c =
    let A : List Watched → Type 0 = λ vs. Ascends stack_of 0 vs in
    let B : List Watched → Type 0 = λ vs. AreApart vs in
    let pieces = (g.S.Space.contents c.args.space.now).pieces in
    let ws = c.args.self.now in
    both _ _ _ _ _ c.lesser_of-found.ensures refl
    (c.overwritten.ensures ∙ ap (λ i. number_unless (keeps_address pieces i) (stacked_at ws i)) c.from-slot.ensures)
    ∙ by_one_slot pieces c.args.displaced (Some c.args.store.now) ws c.requires
    (subst A c.self.view_is c.self.invariant.0)
    (subst B c.self.view_is c.self.invariant.1) c.args.store.now refl c.if-rest-eq0.true

pub returns : goal.returns
returns g c =
    let A : List Watched → Type 0 = λ vs. Ascends stack_of 0 vs in
    let B : List Watched → Type 0 = λ vs. AreApart vs in
    let pieces = (g.S.Space.contents c.args.space.now).pieces in
    let ws = c.args.self.now in
    both _ _ _ _ _ c.lesser_of.ensures
    (both _ _ _ _ _ c.lesser_of-found.ensures refl
    (c.overwritten.ensures ∙ ap (λ i. number_unless (keeps_address pieces i) (stacked_at ws i)) c.from-slot.ensures))
    (c.overwritten-2.ensures ∙ ap
    (λ i. number_unless (keeps_address pieces (i + 4)) (stacked_at ws (i + 4))) c.from-slot.ensures)
    ∙ by_two_slots pieces c.args.displaced (Some c.args.store.now) ws c.requires
    (subst A c.self.view_is c.self.invariant.0) (subst B c.self.view_is c.self.invariant.1) c.args.store.now refl
