use Rattle.std.proofs.Common.{ℕ, Bool, List, [], ◌∷◌, Option, map, sym, ◌∙◌, subst}
use Rattle.propagation.specs.inside.Engine.{list_at}
use Rattle.propagation.specs.inside.Striking.{AreApart, AreMarkedMatching, FirstStruck, is_stuck_in}
use Rattle.propagation.specs.inside.Striking.Between.{NoFirst, NoSecond, Both}
use Rattle.propagation.proofs.ConflictLaws.{in_matching, in_apart, single_apart, first_marked}
use Rattle.propagation.proofs.conflicts.conflict_between.Goals as goal

pub first_struck-requires-clause-apart : goal.first_struck-requires-clause-apart
first_struck-requires-clause-apart c =
    let choices = c.args.choices.now in
    let whole = c.args.whole.now in
    let alive = c.args.alive.now in
    let ones : List Bool = map (is_stuck_in alive c.args.one) choices in
    let marks = c.as_slice.ensures.value ∙ c.in_ok-ones.ensures in
    let P : List Bool → Type 0 = λ l. AreApart choices l c.get.result.now in
    let Q : List ℕ → Type 0 = λ l. AreApart choices ones l in
    subst P (sym marks) (subst Q
    (sym c.get.ensures) (in_apart choices whole alive c.args.one c.args.two c.requires.whole c.requires.apart))

pub first_struck-requires-in-Some-clause-marked : goal.first_struck-requires-in-Some-clause-marked
first_struck-requires-in-Some-clause-marked c =
    let choices = c.args.choices.now in
    let alive = c.args.alive.now in
    let others : List Bool = map (is_stuck_in alive c.args.two) choices in
    let marks_2 = c.as_slice-in-Some.ensures.value ∙ c.in_ok-others-in-Some.ensures in
    let P : List Bool → Type 0 = AreMarkedMatching choices in
    subst P (sym marks_2) (in_matching choices alive c.args.two)

pub first_struck-requires-in-Some-clause-apart : goal.first_struck-requires-in-Some-clause-apart
first_struck-requires-in-Some-clause-apart c =
    let choices = c.args.choices.now in
    let whole = c.args.whole.now in
    let alive = c.args.alive.now in
    let ones : List Bool = map (is_stuck_in alive c.args.one) choices in
    let marks = c.as_slice.ensures.value ∙ c.in_ok-ones.ensures in
    let A : List Bool → Type 0 = λ l. FirstStruck choices l c.get.result.now c.in_ok-first.field-0 in
    let B : List ℕ → Type 0 = λ l. FirstStruck choices ones l c.in_ok-first.field-0 in
    let C : Option ℕ → Type 0 = λ o. FirstStruck choices ones (list_at whole c.args.two) o in
    let first = subst C c.in-Some.is (subst B c.get.ensures (subst A marks c.in_ok-first.ensures)) in
    let others : List Bool = map (is_stuck_in alive c.args.two) choices in
    let marks_2 = c.as_slice-in-Some.ensures.value ∙ c.in_ok-others-in-Some.ensures in
    let P : List Bool → Type 0 = λ l. AreApart choices l (c.in-Some.first ∷ []) in
    subst P (sym marks_2)
    (single_apart choices alive c.args.one c.args.two c.in-Some.first c.requires.apart (first_marked first))

pub returns-in-Some-2 : goal.returns-in-Some-2
returns-in-Some-2 c =
    let choices = c.args.choices.now in
    let whole = c.args.whole.now in
    let alive = c.args.alive.now in
    let ones : List Bool = map (is_stuck_in alive c.args.one) choices in
    let marks = c.as_slice.ensures.value ∙ c.in_ok-ones.ensures in
    let A : List Bool → Type 0 = λ l. FirstStruck choices l c.get.result.now c.in_ok-first.field-0 in
    let B : List ℕ → Type 0 = λ l. FirstStruck choices ones l c.in_ok-first.field-0 in
    let C : Option ℕ → Type 0 = λ o. FirstStruck choices ones (list_at whole c.args.two) o in
    let first = subst C c.in-Some.is (subst B c.get.ensures (subst A marks c.in_ok-first.ensures)) in
    let others : List Bool = map (is_stuck_in alive c.args.two) choices in
    let marks_2 = c.as_slice-in-Some.ensures.value ∙ c.in_ok-others-in-Some.ensures in
    let D : List Bool → Type 0 = λ l. FirstStruck choices l (c.in-Some.first ∷ []) c.in_ok-second-in-Some.field-0 in
    let E : Option ℕ → Type 0 = λ o. FirstStruck choices others (c.in-Some.first ∷ []) o in
    let second = subst E c.in-Some-2.is (subst D marks_2 c.in_ok-second-in-Some.ensures) in
    Both c.in-Some.first c.in-Some-2.second first second

pub returns-in-Some : goal.returns-in-Some
returns-in-Some c =
    let choices = c.args.choices.now in
    let whole = c.args.whole.now in
    let alive = c.args.alive.now in
    let ones : List Bool = map (is_stuck_in alive c.args.one) choices in
    let marks = c.as_slice.ensures.value ∙ c.in_ok-ones.ensures in
    let A : List Bool → Type 0 = λ l. FirstStruck choices l c.get.result.now c.in_ok-first.field-0 in
    let B : List ℕ → Type 0 = λ l. FirstStruck choices ones l c.in_ok-first.field-0 in
    let C : Option ℕ → Type 0 = λ o. FirstStruck choices ones (list_at whole c.args.two) o in
    let first = subst C c.in-Some.is (subst B c.get.ensures (subst A marks c.in_ok-first.ensures)) in
    let others : List Bool = map (is_stuck_in alive c.args.two) choices in
    let marks_2 = c.as_slice-in-Some.ensures.value ∙ c.in_ok-others-in-Some.ensures in
    let D : List Bool → Type 0 = λ l. FirstStruck choices l (c.in-Some.first ∷ []) c.in_ok-second-in-Some.field-0 in
    let E : Option ℕ → Type 0 = λ o. FirstStruck choices others (c.in-Some.first ∷ []) o in
    let second = subst E c.in-None-2.is (subst D marks_2 c.in_ok-second-in-Some.ensures) in
    NoSecond c.in-Some.first first second

pub returns : goal.returns
returns c =
    let choices = c.args.choices.now in
    let whole = c.args.whole.now in
    let alive = c.args.alive.now in
    let ones : List Bool = map (is_stuck_in alive c.args.one) choices in
    let marks = c.as_slice.ensures.value ∙ c.in_ok-ones.ensures in
    let A : List Bool → Type 0 = λ l. FirstStruck choices l c.get.result.now c.in_ok-first.field-0 in
    let B : List ℕ → Type 0 = λ l. FirstStruck choices ones l c.in_ok-first.field-0 in
    let C : Option ℕ → Type 0 = λ o. FirstStruck choices ones (list_at whole c.args.two) o in
    let first = subst C c.in-None.is (subst B c.get.ensures (subst A marks c.in_ok-first.ensures)) in
    NoFirst first
