-- Only the thread at its place has the number.
use Rattle.std.proofs.Common.{◌≡◌, ◌∙◌, ℕ, Bool, cond, Option, Some, None, List, get_or, set, ap, sym, subst}
use Rattle.std.specs.List.{find}
use Rattle.image_memory.specs.Ranges.{Ascends}
use Rattle.ia32_step.specs.declared.types.Outcome.{Outcome}
use Rattle.ia32_step.specs.declared.types.Outcome.TheVariants.{Moved}
use Rattle.ia32_step.specs.declared.types.Flow.{Flow}
use Rattle.frame_watch.specs.Conditions.{IsStepOf}
use Rattle.frame_watch.specs.Frames.{Watched, stack_of, frames_at, is_of}
use Rattle.frame_watch.specs.inside.Kept.{AreApart, IsPlace, IsTouched, is_in_place, number_unless}
use Rattle.frame_watch.specs.inside.Events.{moved}
use Rattle.frame_watch.proofs.MovedLaws.{based_after, touched_left, touched_less, touched_still}
use Rattle.frame_watch.proofs.ListLaws.{moved_none, moved_at, dropped_at, dropped_is, kept_ascending}
use Rattle.frame_watch.proofs.ListLaws.{kept_apart, same_number, has_number, found_set}
use Rattle.frame_watch.proofs.list.ThreadList.go.Given.{Over}
use Rattle.frame_watch.proofs.list.ThreadList.go.Goals as goal

-- the place of a number, said of an equal one
at_same : (n : ℕ) (ws : List Watched) (a b : Option ℕ) → a ≡ b → IsPlace n ws a → IsPlace n ws b
at_same n ws a b same place =
    let P : Option ℕ → Type 0 = λ at. IsPlace n ws at in
    subst P same place

pub returns-in_err-at-clause-moved : goal.returns-in_err-at-clause-moved
returns-in_err-at-clause-moved g c =
    moved_none _ c.args.after.now c.args.outcome _ c.args.before.now.number c.args.self.now c.requires.step.number
    (at_same c.args.before.now.number c.args.self.now c.args.at None c.in_err-at.was c.requires.place)

-- the thread at the place, as it is among all
at_place : (n : ℕ) (items ws : List Watched) (at : ℕ) (x : Watched) → items ≡ ws → x ≡ get_or items at x
    → IsPlace n ws (Some at) → (x ≡ get_or ws at x) × (x.thread ≡ n)
at_place n items ws at x same is place =
    let here : x ≡ get_or ws at x = is ∙ ap (λ (vs : List Watched). get_or vs at x) same in
    (here, same_number n x (ap (is_of n) here ∙ place.1 x))

step_of : (g : Over) (c : goal.After-go-arg-1 g)
    → IsStepOf (g.S.Space.contents c.args.space.now).pieces c.args.before.now c.args.after.now c.args.outcome
    c.index_mut-thread.result.now
step_of g c =
    let place = at_same c.args.before.now.number c.args.self.now c.args.at (Some c.in_ok-at.at) c.in_ok-at.was
    c.requires.place in
    let P : Watched → Type 0 = λ w. IsStepOf
    (g.S.Space.contents c.args.space.now).pieces c.args.before.now c.args.after.now c.args.outcome w in
    let x = c.index_mut-thread.result.now in
    let at = at_place c.args.before.now.number c.self.inside.threads.items c.args.self.now c.in_ok-at.at x
    c.self.view_is c.index_mut-thread.ensures.value place in
    subst P (sym at.0)
    (c.requires.step.stepped c.in_ok-at.at x place.0 (ap (λ (w : Watched). w.thread) (sym at.0) ∙ at.1))

pub go-requires-clause-in_place : goal.go-requires-clause-in_place
go-requires-clause-in_place g c =
    let place = at_same c.args.before.now.number c.args.self.now c.args.at (Some c.in_ok-at.at) c.in_ok-at.was
    c.requires.place in
    let x = c.index_mut-thread.result.now in
    let at = at_place c.args.before.now.number c.self.inside.threads.items c.args.self.now c.in_ok-at.at x
    c.self.view_is c.index_mut-thread.ensures.value place in
    ap is_in_place at.0 ∙ c.requires.in_place c.in_ok-at.at x place.0

pub is_in_place-requires : goal.is_in_place-requires
is_in_place-requires g c =
    let place = at_same c.args.before.now.number c.args.self.now c.args.at (Some c.in_ok-at.at) c.in_ok-at.was
    c.requires.place in
    let x = c.index_mut-thread.result.now in
    let at = at_place c.args.before.now.number c.self.inside.threads.items c.args.self.now c.in_ok-at.at x
    c.self.view_is c.index_mut-thread.ensures.value place in
    based_after (g.S.Space.contents c.args.space.now).pieces c.args.after.now c.in-Moved.flow x c.go.new.self
    (ap is_in_place at.0 ∙ c.requires.in_place c.in_ok-at.at x place.0) c.go.ensures

pub go-requires-clause-lower : goal.go-requires-clause-lower
go-requires-clause-lower g c = λ call.
    let step = step_of g c in
    (step.pushed (c.in-Moved.is ∙ ap (λ (flow : Flow). Moved flow) call)).esp ∙ sym step.esp

pub go-requires-clause-readable : goal.go-requires-clause-readable
go-requires-clause-readable g c = λ call.
    ((step_of g c).pushed (c.in-Moved.is ∙ ap (λ (flow : Flow). Moved flow) call)).readable

pub returns-in-Moved-clause-moved : goal.returns-in-Moved-clause-moved
returns-in-Moved-clause-moved g c =
    let place = at_same c.args.before.now.number c.args.self.now c.args.at (Some c.in_ok-at.at) c.in_ok-at.was
    c.requires.place in
    let ws = c.args.self.now in
    let pieces = (g.S.Space.contents c.args.space.now).pieces in
    moved_at pieces c.args.after.now c.in-Moved.flow c.args.before.now.number c.self.inside.threads.items ws
    c.in_ok-at.at
    c.index_mut-thread.result.now c.go.new.self c.self.view_is c.self.invariant.1 c.requires.step.number place.0
    place.1
    c.index_mut-thread.ensures.value c.go.ensures
    ∙ ap (λ (o : Outcome). moved pieces c.args.after.now o (frames_at ws c.args.before.now.number) ws)
    (sym c.in-Moved.is)

pub invariant_of-self : goal.invariant_of-self
invariant_of-self g c =
    let ws = c.args.self.now in
    let pieces = (g.S.Space.contents c.args.space.now).pieces in
    let frames = frames_at ws c.args.before.now.number in
    let A : List Watched → Type 0 = λ vs. Ascends stack_of 0 vs in
    let B : List Watched → Type 0 = λ vs. AreApart vs in
    let same = sym (returns-in-Moved-clause-moved g c) in (
      subst A same (kept_ascending pieces c.args.after.now c.args.outcome frames ws
          (subst A c.self.view_is c.self.invariant.0)),
      subst B same (kept_apart pieces c.args.after.now c.args.outcome frames ws
          (subst B c.self.view_is c.self.invariant.1)),
    )

pub returns-in_default-clause-moved : goal.returns-in_default-clause-moved
returns-in_default-clause-moved g c =
    let place = at_same c.args.before.now.number c.args.self.now c.args.at (Some c.in_ok-at.at) c.in_ok-at.was
    c.requires.place in
    let ws = c.args.self.now in
    let n = c.args.before.now.number in
    c.remove.ensures.items
    ∙ (dropped_at n c.self.inside.threads.items ws c.in_ok-at.at c.args.after.now c.self.view_is c.self.invariant.1
    c.requires.step.number place.0 place.1
    ∙ dropped_is (g.S.Space.contents c.args.space.now).pieces c.args.after.now c.args.outcome
    (frames_at ws n) ws c.in_default.not-Moved)

pub invariant_of-self-in_default : goal.invariant_of-self-in_default
invariant_of-self-in_default g c =
    let ws = c.args.self.now in
    let pieces = (g.S.Space.contents c.args.space.now).pieces in
    let frames = frames_at ws c.args.before.now.number in
    let A : List Watched → Type 0 = λ vs. Ascends stack_of 0 vs in
    let B : List Watched → Type 0 = λ vs. AreApart vs in
    let same = sym (returns-in_default-clause-moved g c) in (
      subst A same (kept_ascending pieces c.args.after.now c.args.outcome frames ws
          (subst A c.self.view_is c.self.invariant.0)),
      subst B same (kept_apart pieces c.args.after.now c.args.outcome frames ws
          (subst B c.self.view_is c.self.invariant.1)),
    )

pub returns-in_err-at-clause-touched : goal.returns-in_err-at-clause-touched
returns-in_err-at-clause-touched g c = λ store hold.
    rw c.from_residual.ensures
    (touched_still _ store c.args.self.now c.requires.in_place hold)

-- whether the thread that has moved is displaced
unless_is : (r : Option ℕ) (passed : Bool) (number : ℕ) (w : Watched) → r ≡ (cond passed None (Some number))
    → passed ≡ is_in_place w → number ≡ w.thread → r ≡ number_unless is_in_place (Some w)
unless_is r passed number w made one two =
    made ∙ (ap (λ b. cond b None (Some number)) one ∙ ap (λ m. cond (is_in_place w) None (Some m)) two)

pub returns-in-Moved-clause-touched : goal.returns-in-Moved-clause-touched
returns-in-Moved-clause-touched g c =
    let place = at_same c.args.before.now.number c.args.self.now c.args.at (Some c.in_ok-at.at) c.in_ok-at.was
    c.requires.place in
    let n = c.args.before.now.number in
    let i = c.in_ok-at.at in
    let x = c.index_mut-thread.result.now in
    let new = c.go.new.self in
    let A : List Watched → Type 0 = λ vs. AreApart vs in
    let F : List Watched → Type 0 = λ vs. find (is_of n) (set vs i new) ≡ Some new in
    let apart = subst A c.self.view_is c.self.invariant.1 in
    let at = at_place n c.self.inside.threads.items c.args.self.now i x c.self.view_is
    c.index_mut-thread.ensures.value place in
    let number : new.thread ≡ n = ap (λ (w : Watched). w.thread) c.go.ensures ∙ at.1 in
    let found = subst F (sym c.self.view_is)
    (found_set n c.args.self.now i new apart place.0 place.1 (has_number n new number)) in
    touched_left _ c.args.before.now c.args.after.now c.args.self.now _ c.args.outcome c.in-Moved.flow
    c.number_unless.result c.in-Moved.is
    (unless_is c.number_unless.result c.is_in_place.result c.number.result new c.number_unless.ensures
    c.is_in_place.ensures c.number.ensures ∙ sym (ap (number_unless is_in_place) found))
    c.requires.step c.requires.in_place apart (returns-in-Moved-clause-moved g c)

pub returns-in_default-clause-touched : goal.returns-in_default-clause-touched
returns-in_default-clause-touched g c = λ store hold.
    let ws = c.args.self.now in
    let pieces = (g.S.Space.contents c.args.space.now).pieces in
    let P : List Watched → Type 0 = λ vs. IsTouched pieces None store vs in
    subst P (dropped_is pieces c.args.after.now c.args.outcome (frames_at ws c.args.before.now.number) ws
    c.in_default.not-Moved ∙ sym (returns-in_default-clause-moved g c))
    (touched_less pieces store c.args.after.now.number ws c.requires.in_place hold)
