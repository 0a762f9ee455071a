-- What is left of choices and what remains of them by the rounds.
use Rattle.std.proofs.Common.{◌≡◌, ℕ, zero, suc, ◌<◌, ◌==◌, Bool, true, false, not, ◌||◌, List, [], ◌∷◌, length}
use Rattle.std.proofs.Common.{map, Contains, Some, slice_get, refl, sym, ◌∙◌, ap, subst, inl, inr, arith}
use Rattle.std.specs.List.{list_any}
use Rattle.std.proofs.lemmas.Bool.{cases_Bool, cases_order, and_parts, and_from, or_cases, or_left, or_right}
use Rattle.std.proofs.lemmas.Bool.{eqb-true, eq-eqb, not-true, not_from_false, both_ways, false_from_ne_true}
use Rattle.std.proofs.lemmas.List.{length-map, ext_get_or}
use Rattle.std.proofs.lemmas.Option.{slice_get-map, get_or_from_slice_get}
use Rattle.std.specs.Option.{option_map}
use Rattle.propagation.specs.declared.choice.Choice.{Choice}
use Rattle.propagation.specs.Rounds.{Rules, is_forced, forced_among, clashes_with_one}
use Rattle.propagation.specs.Rounds.{left_in, remaining, forced, is_among}
use Rattle.propagation.specs.laws.RoundLaws.{remaining_is_kept}
use Rattle.propagation.specs.Choices.{ComesBefore, same_section, same_choice, can_be_chosen, clash, choice_rules}
use Rattle.propagation.specs.inside.Engine.{is_left}
use Rattle.propagation.specs.inside.State.{At, IsLeft, IsAlone, IsClosed}
use Rattle.propagation.proofs.ListLaws.{same_bools, Contains-filter, Contains_of_filter, list_any_from}
use Rattle.propagation.proofs.ListLaws.{list_any_has, list_all_has, list_all_from, contains_place, place_of}
use Rattle.propagation.proofs.CarryLaws.{clash_of}

-- what is left in a round is among the items, and matches
pub left_in_all : {X : Type 0} (rules : Rules X) (round : ℕ) (all : List X) (x : X)
    → Contains (left_in rules round all) x → Contains all x × (rules.matches x ≡ true)
unfolding left_in
left_in_all rules zero all x h = Contains_of_filter rules.matches all x h
left_in_all rules (suc round) all x h =
    left_in_all rules round all x (Contains_of_filter (λ y. not
    (clashes_with_one rules (forced_among rules all (left_in rules round all)) y)) (left_in rules round all) x h).0

pub remaining_all : {X : Type 0} (rules : Rules X) (all : List X) (x : X) → Contains (remaining rules all) x
    → Contains all x × (rules.matches x ≡ true)
unfolding remaining
remaining_all rules all x h = left_in_all rules (length all) all x h

abbrev pub IsInOrder : List Choice → Type 0
IsInOrder choices =
    (i j : ℕ) (a b : Choice) → i < j → slice_get choices i ≡ Some a → slice_get choices j ≡ Some b → ComesBefore a b

-- what is left has all that remains
abbrev pub IsSound : List Choice → List Bool → Type 0
IsSound choices left =
    (place : ℕ) (c : Choice) → At choices place c → Contains (remaining choice_rules choices) c → IsLeft left place

comes_later : (a b : Choice) → ComesBefore a b → a.section ≡ b.section → a.home ≡ b.home → ⊥
comes_later a b before section home =
    elim before [ inl less ↦ omega (arith, less, section) | inr both ↦ omega (arith, both.1, home) ]

pub same_place : (choices : List Choice) → IsInOrder choices → (i j : ℕ) (a b : Choice) → At choices i a
    → At choices j b → a.section ≡ b.section → a.home ≡ b.home → i ≡ j
same_place choices order i j a b one other section home =
    elim (cases_order i j) [
      | inl e ↦ e
      | inr apart ↦
          elim apart [
            | inl less ↦ absurd (comes_later a b (order i j a b less one other) section home)
            | inr more ↦ absurd (comes_later b a (order j i b a more other one) (sym section) (sym home))
          ]
    ]

pub same_at : (choices : List Choice) → IsInOrder choices → (i j : ℕ) (a b : Choice) → At choices i a → At choices j b
    → same_choice a b ≡ true → a ≡ b
same_at choices order i j a b one other t =
    let parts = and_parts (a.section == b.section) (a.home == b.home) t in
    let e = same_place choices order i j a b one other
    (eqb-true a.section b.section parts.0) (eqb-true a.home b.home parts.1) in
    let both : Some a ≡ Some b = sym one ∙ ap (slice_get choices) e ∙ other in
    cc

pub same_itself : (a : Choice) → same_choice a a ≡ true
same_itself a =
    and_from (a.section == a.section) (a.home == a.home) (eq-eqb a.section a.section refl) (eq-eqb a.home a.home refl)

pub at_within : {X : Type 0} (xs : List X) (place : ℕ) → place < length xs → (x : X) × (slice_get xs place ≡ Some x)
at_within [] place less = absurd (omega (arith, less))
at_within (x ∷ xs) zero less = (x, refl)
at_within (x ∷ xs) (suc place) less = at_within xs place (omega (arith, less))

module _ (choices : List Choice) (order : IsInOrder choices) (left : List Bool) where
  -- ---- all that is left remains, where nothing that is left clashes with what is alone
  module _ (matching : (place : ℕ) (c : Choice) → At choices place c → IsLeft left place → c.matches ≡ true)
      (closed : (place : ℕ) (c : Choice)
      → At choices place c → c.matches ≡ true → IsAlone choices left c → IsClosed choices left c) where
    left_stays : (round : ℕ) (place : ℕ) (c : Choice) → At choices place c → IsLeft left place
        → Contains (left_in choice_rules round choices) c
    unfolding left_in
    left_stays zero place c at t =
        Contains-filter can_be_chosen choices c (matching place c at t) (contains_place choices place c at)
    left_stays (suc round) place c at t =
        let before : List Choice = left_in choice_rules round choices in
        let ones : List Choice = forced_among choice_rules choices before in
        Contains-filter (λ y. not (clashes_with_one choice_rules ones y)) before c
        (not_from_false (list_any (clash c) ones)
        (false_from_ne_true (list_any (clash c) ones)
        (λ h.
        (let some = list_any_has (clash c) ones h in
        let x : Choice = some.0 in
        let kept = Contains_of_filter (is_forced choice_rules before) choices x some.1 in
        let k = place_of choices x kept.0 in
        let alone : IsAlone choices left x = λ j y there still section.
        alone_of round x k.0 k.1 kept.1 j y there (left_stays round j y there still) section in
        both_ways (clash c x) (closed k.0 x k.1 (clash_of c x some.2).second alone place c at t) some.2))))
        (left_stays round place c at t)
      where
        alone_of : (round : ℕ) (x : Choice) (k : ℕ) → At choices k x
            → is_forced choice_rules (left_in choice_rules round choices) x ≡ true → (j : ℕ) (y : Choice)
            → At choices j y → Contains (left_in choice_rules round choices) y → y.section ≡ x.section → y ≡ x
        alone_of round x k here is j y there h section =
            elim (or_cases (not (same_section y x)) (same_choice y x) (list_all_has
            (λ z. not (same_section z x) || same_choice z x) (left_in choice_rules round choices) y is h)) [
              | inl elsewhere ↦
                  absurd (both_ways (same_section y x)
                  (not-true (same_section y x) elsewhere) (eq-eqb y.section x.section section))
              | inr same ↦ same_at choices order j k y x there here same
            ]

    left_remains : (place : ℕ) (c : Choice) → At choices place c → IsLeft left place
        → Contains (remaining choice_rules choices) c
    unfolding remaining
    left_remains place c at t = left_stays (length choices) place c at t

    module _ (size : length left ≡ length choices) (sound : IsSound choices left) where
      mark_at : (place : ℕ) (c : Choice) → At choices place c
          → is_left left place ≡ is_among choice_rules (remaining choice_rules choices) c
      mark_at place c at =
          let rest : List Choice = remaining choice_rules choices in
          same_bools (is_left left place) (list_any (same_choice c) rest)
          (λ t. list_any_from (same_choice c) rest c (left_remains place c at t) (same_itself c))
          (λ t.
          (let some = list_any_has (same_choice c) rest t in
          let other : Choice = some.0 in
          let k = place_of choices other (remaining_all choice_rules choices other some.1).0 in
          let e : c ≡ other = same_at choices order place k.0 c other at k.1 some.2 in
          let P : Choice → Type 0 = Contains rest in
          sound place c at (subst P (sym e) some.1)))

      -- the marks, in the end
      pub marks_remaining : left ≡ map (is_among choice_rules (remaining choice_rules choices)) choices
      marks_remaining =
          let among : Choice → Bool = is_among choice_rules (remaining choice_rules choices) in
          ext_get_or false left (map among choices) (size ∙ sym (length-map choices among))
          (λ place less.
          (let here = at_within choices place (omega (arith, less, size)) in
          mark_at place here.0 here.1
          ∙ sym (get_or_from_slice_get (map among choices) place
          (among here.0) false (slice_get-map among choices place ∙ ap (option_map among) here.1))))

  -- ---- what clashes with what is alone doesn't remain
  pub clashing_goes : IsSound choices left → (place : ℕ) (c : Choice) → At choices place c → IsAlone choices left c
      → (other : Choice) → clash other c ≡ true → Contains (remaining choice_rules choices) other → ⊥
  unfolding forced
  clashing_goes sound place c at alone other t h =
      let rest : List Choice = remaining choice_rules choices in
      let ones : List Choice = forced choice_rules choices in
      let test : Choice → Bool = λ y. not (same_section y c) || same_choice y c in
      let is : is_forced choice_rules rest c ≡ true = list_all_from test rest (λ y k. is_it y k) in
      let P : List Choice → Type 0 = λ l. Contains l other in
      let kept = Contains_of_filter (λ x. not (clashes_with_one choice_rules ones x)) rest other
      (subst P (remaining_is_kept choice_rules choices) h) in
      both_ways (list_any (clash other) ones) (not-true (list_any (clash other) ones) kept.1)
      (list_any_from (clash other) ones c
      (Contains-filter (is_forced choice_rules rest) choices c is (contains_place choices place c at)) t)
    where
      is_it : (y : Choice) → Contains (remaining choice_rules choices) y
          → (not (same_section y c) || same_choice y c) ≡ true
      is_it y k =
          elim (cases_Bool (same_section y c)) [
            | inl same ↦
                (let j = place_of choices y (remaining_all choice_rules choices y k).0 in
                let e : y ≡ c = alone j.0 y j.1 (sound j.0 y j.1 k) (eqb-true y.section c.section same) in
                or_right (not (same_section y c)) (same_choice y c) (ap (λ z. same_choice z c) e ∙ same_itself c))
            | inr apart ↦ or_left (not (same_section y c)) (same_choice y c) (not_from_false (same_section y c) apart)
          ]
