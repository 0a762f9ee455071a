use Rattle.std.proofs.Common.{ℕ, Bool, List, Option, map, get_or, sym, ◌∙◌, subst, arith}
use Rattle.std.proofs.lemmas.List.{length-map}
use Rattle.std.proofs.lemmas.Option.{slice_get-get_or}
use Rattle.std.proofs.lemmas.Result.{IfOk-weaker}
use Rattle.propagation.specs.inside.Engine.{list_at}
use Rattle.propagation.specs.inside.Striking.{AreApart, FirstStruck, is_stuck_out, Between, Around}
use Rattle.propagation.specs.inside.Striking.Around.{NoOther, Other}
use Rattle.propagation.proofs.NarrowLaws.{left_within}
use Rattle.propagation.proofs.ConflictLaws.{out_apart, other_section, first_marked}
use Rattle.propagation.proofs.conflicts.conflict_around.Goals as goal

pub first_struck-requires-clause-apart : goal.first_struck-requires-clause-apart
first_struck-requires-clause-apart c =
    let choices = c.args.choices.now in
    let whole = c.args.whole.now in
    let alive = c.args.alive.now in
    let others : List Bool = map (is_stuck_out alive c.args.one) choices in
    let marks = c.as_slice.ensures.value ∙ c.in_ok-others.ensures in
    let P : List Bool → Type 0 = λ l. AreApart choices l c.get.result.now in
    let Q : List ℕ → Type 0 = λ l. AreApart choices others l in
    subst P (sym marks) (subst Q (sym c.get.ensures) (out_apart choices whole alive c.args.one c.requires.whole))

pub conflict_between-requires-clause-apart : goal.conflict_between-requires-clause-apart
conflict_between-requires-clause-apart c =
    let choices = c.args.choices.now in
    let whole = c.args.whole.now in
    let alive = c.args.alive.now in
    let others : List Bool = map (is_stuck_out alive c.args.one) choices in
    let marks = c.as_slice.ensures.value ∙ c.in_ok-others.ensures in
    let A : List Bool → Type 0 = λ l. FirstStruck choices l c.get.result.now c.in_ok-place.field-0 in
    let B : List ℕ → Type 0 = λ l. FirstStruck choices others l c.in_ok-place.field-0 in
    let C : Option ℕ → Type 0 = λ o. FirstStruck choices others (list_at whole c.args.one) o in
    let first = subst C c.in-Some.is (subst B c.get.ensures (subst A marks c.in_ok-place.ensures)) in
    let place = c.in-Some.place in
    let long = length-map choices (is_stuck_out alive c.args.one) in
    let within = left_within others place (first_marked first) in
    let found = c.index-choices-place.result in
    let at = slice_get-get_or choices place found (omega (arith, long, within)) in
    other_section choices alive c.args.one place (get_or choices place found) at (first_marked first)

pub returns-in-Some : goal.returns-in-Some
returns-in-Some c =
    let choices = c.args.choices.now in
    let whole = c.args.whole.now in
    let alive = c.args.alive.now in
    let others : List Bool = map (is_stuck_out alive c.args.one) choices in
    let marks = c.as_slice.ensures.value ∙ c.in_ok-others.ensures in
    let A : List Bool → Type 0 = λ l. FirstStruck choices l c.get.result.now c.in_ok-place.field-0 in
    let B : List ℕ → Type 0 = λ l. FirstStruck choices others l c.in_ok-place.field-0 in
    let C : Option ℕ → Type 0 = λ o. FirstStruck choices others (list_at whole c.args.one) o in
    let first = subst C c.in-Some.is (subst B c.get.ensures (subst A marks c.in_ok-place.ensures)) in
    let place = c.in-Some.place in
    let long = length-map choices (is_stuck_out alive c.args.one) in
    let within = left_within others place (first_marked first) in
    let found = c.index-choices-place.result in
    let at = slice_get-get_or choices place found (omega (arith, long, within)) in
    let P : Option (ℕ × ℕ) → Type 0 = Between choices whole alive c.args.one (get_or choices place found).section in
    let Q : Option (ℕ × ℕ) → Type 0 = Around choices whole alive c.args.one in
    IfOk-weaker c.conflict_between.result P Q
    (λ pair between. Other place (get_or choices place found) pair first at between)
    c.conflict_between.ensures

pub returns : goal.returns
returns c =
    let choices = c.args.choices.now in
    let whole = c.args.whole.now in
    let alive = c.args.alive.now in
    let others : List Bool = map (is_stuck_out alive c.args.one) choices in
    let marks = c.as_slice.ensures.value ∙ c.in_ok-others.ensures in
    let A : List Bool → Type 0 = λ l. FirstStruck choices l c.get.result.now c.in_ok-place.field-0 in
    let B : List ℕ → Type 0 = λ l. FirstStruck choices others l c.in_ok-place.field-0 in
    let C : Option ℕ → Type 0 = λ o. FirstStruck choices others (list_at whole c.args.one) o in
    let first = subst C c.in-None.is (subst B c.get.ensures (subst A marks c.in_ok-place.ensures)) in
    NoOther first
