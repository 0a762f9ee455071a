use Rattle.std.proofs.Common.{◌≡◌, ℕ, Bool, true, false, List, get_or, sym, subst}
use Rattle.std.proofs.lemmas.Option.{slice_get-get_or}
use Rattle.std.proofs.lemmas.Result.{IfOk-weaker}
use Rattle.propagation.specs.declared.choice.Choice.{Choice}
use Rattle.propagation.specs.inside.Striking.{Around, is_stuck}
use Rattle.propagation.proofs.ConflictLaws.{no_conflict, around_is, around_within}
use Rattle.propagation.proofs.conflicts.first_conflict.Goals as goal

pub returns-clause-conflict : goal.returns-clause-conflict
returns-clause-conflict c =
    let choices = c.args.choices.now in
    let whole = c.in_ok-whole.whole in
    let alive : List Bool = c.in_ok-alive.alive.items in
    let place : ℕ = c.in-Some.place in
    let one : Choice = get_or choices place c.index-choices-place.result in
    let at = slice_get-get_or choices place c.index-choices-place.result c.in-Some.ensures.within in
    let P : List Bool → Type 0 = λ l. is_stuck l one ≡ true in
    let R : Choice → List Bool → Type 0 = λ other l. is_stuck l other ≡ false in
    let stuck = subst P c.as_slice.ensures.value (c.in-Some.ensures.stuck one at) in
    IfOk-weaker c.conflict_around.result (Around choices whole c.as_slice-2.result.now one.section) _
    (λ found around.
    (let Q : List Bool → Type 0 = λ l. Around choices whole l one.section found in
    around_is choices c.requires.order c.args.left.now c.requires.left whole c.in_ok-whole.ensures c.args.sections
    c.requires.within alive c.in_ok-alive.ensures.each place one at stuck
    (λ k other less there. subst (R other) c.as_slice.ensures.value (c.in-Some.ensures.before k other less there))
    (subst Q c.as_slice-2.ensures.value around)))
    c.conflict_around.ensures

pub returns-clause-within : goal.returns-clause-within
returns-clause-within c =
    let choices = c.args.choices.now in
    let whole = c.in_ok-whole.whole in
    let one : Choice = get_or choices c.in-Some.place c.index-choices-place.result in
    IfOk-weaker c.conflict_around.result (Around choices whole c.as_slice-2.result.now one.section) _
    (λ found around. around_within choices whole c.as_slice-2.result.now one.section around)
    c.conflict_around.ensures

pub returns-in_default-clause-conflict : goal.returns-in_default-clause-conflict
returns-in_default-clause-conflict c =
    let R : Choice → List Bool → Type 0 = λ other l. is_stuck l other ≡ false in
    sym (no_conflict c.args.choices.now c.requires.order c.args.left.now c.requires.left c.in_ok-whole.whole
    c.in_ok-whole.ensures c.args.sections c.requires.within c.in_ok-alive.alive.items c.in_ok-alive.ensures.each
    (λ place other at. subst (R other) c.as_slice.ensures.value (c.in_default.ensures.none place other at)))
