-- What the rounds exclude and force are sets that the rules lead to nothing outside of, and no such sets are smaller.
use Rattle.std.proofs.Common.{◌≡◌, ℕ, zero, suc, Bool, true, false, not, ◌||◌, List, length, Contains, sym, ◌∙◌}
use Rattle.std.proofs.Common.{ap, inl, inr, refl, subst}
use Rattle.std.proofs.lemmas.Bool.{cases_Bool, false≢true}
use Rattle.propagation.specs.Rounds.{Rules, is_forced, forced_among, clashes_with_one}
use Rattle.propagation.specs.Rounds.{left_in, remaining, forced}
use Rattle.propagation.specs.Least.{AreClosed, RoundsAreClosed, HaveAtLeast}
use Rattle.propagation.specs.laws.RoundLaws.{remaining_is_kept}
use Rattle.propagation.proofs.ListLaws.{Contains-filter, Contains_of_filter, list_any_from, list_any_has, list_all_has}
use Rattle.propagation.proofs.ListLaws.{list_all_from}

module _ {X : Type 0} (rules : Rules X) (all : List X) where
  -- of one section and not the same, or not so
  other_or : (x y : X) → (rules.same_section y x ≡ true → rules.same y x ≡ false → ⊥)
      → (not (rules.same_section y x) || rules.same y x) ≡ true
  other_or x y never = by (rules.same_section y x) (rules.same y x) never
    where
      by : (s e : Bool) → (s ≡ true → e ≡ false → ⊥) → (not s || e) ≡ true
      by false e never = refl
      by true true never = refl
      by true false never = absurd (never refl refl)

  not_other : (x y : X) → rules.same_section y x ≡ true → rules.same y x ≡ false
      → (not (rules.same_section y x) || rules.same y x) ≡ true → ⊥
  not_other x y = by (rules.same_section y x) (rules.same y x)
    where
      by : (s e : Bool) → s ≡ true → e ≡ false → (not s || e) ≡ true → ⊥
      by false e section differs is = false≢true section
      by true true section differs is = false≢true (sym differs)
      by true false section differs is = false≢true is

  module _ (excluded forced_there : X → Bool) (closed : AreClosed rules all excluded forced_there) where
    excluded_not : (x : X) → excluded x ≡ true → excluded x ≡ false → ⊥
    excluded_not x is isn't = false≢true (sym isn't ∙ is)

    -- what is forced where all is left that they don't exclude, they force
    forces : (left : List X) → ((y : X) → Contains all y → excluded y ≡ false → Contains left y) → (x : X)
        → Contains (forced_among rules all left) x → forced_there x ≡ true
    forces left stays x has =
        let found = Contains_of_filter (is_forced rules left) all x has in
        closed.alone x found.0 (λ y has_y section differs.
        elim (cases_Bool (excluded y)) [
          | inl is ↦ is
          | inr isn't ↦
              absurd (not_other x y section differs
              (list_all_has (λ y. not (rules.same_section y x) || rules.same y x) left y found.1
              (stays y has_y isn't)))
        ])

    matching : (x : X) → Contains all x → excluded x ≡ false → rules.matches x ≡ true
    matching x has isn't =
        elim (cases_Bool (rules.matches x)) [
          | inl is ↦ is
          | inr never ↦ absurd (excluded_not x (closed.unmatched x has never) isn't)
        ]

    free : (left : List X) → ((y : X) → Contains all y → excluded y ≡ false → Contains left y) → (x : X)
        → Contains all x → excluded x ≡ false → not (clashes_with_one rules (forced_among rules all left) x) ≡ true
    free left stays x has isn't =
        elim (cases_Bool (clashes_with_one rules (forced_among rules all left) x)) [
          | inl one ↦
              (let r = list_any_has (rules.clashes x) (forced_among rules all left) one in
              absurd (excluded_not x
              (closed.clashing x r.0 has (Contains_of_filter (is_forced rules left) all r.0 r.1).0
              (forces left stays r.0 r.1) r.2) isn't))
          | inr none ↦ ap not none
        ]

    stays_in : (round : ℕ) (x : X) → Contains all x → excluded x ≡ false → Contains (left_in rules round all) x
    unfolding left_in
    stays_in zero x has isn't = Contains-filter rules.matches all x (matching x has isn't) has
    stays_in (suc round) x has isn't =
        Contains-filter (λ x. not (clashes_with_one rules (forced_among rules all (left_in rules round all)) x))
        (left_in rules round all) x (free (left_in rules round all) (stays_in round) x has isn't)
        (stays_in round x has isn't)

    pub are_least : HaveAtLeast rules all excluded forced_there
    unfolding remaining forced
    are_least = record {
      remains = stays_in (length all);
      forced = forces (left_in rules (length all) all) (stays_in (length all));
    }

  matches_in : (round : ℕ) (x : X) → Contains (left_in rules round all) x → rules.matches x ≡ true
  unfolding left_in
  matches_in zero x has = (Contains_of_filter rules.matches all x has).1
  matches_in (suc round) x has = matches_in round x (Contains_of_filter _ (left_in rules round all) x has).0

  peaceful : (x y : X) → Contains (forced rules all) y → rules.clashes x y ≡ true → Contains (remaining rules all) x → ⊥
  peaceful x y one clash has =
      let P : List X → Type 0 = λ l. Contains l x in
      let kept = subst P (remaining_is_kept rules all) has in
      let none = (Contains_of_filter (λ x. not (clashes_with_one rules (forced rules all) x)) (remaining rules all) x
      kept).1 in
      let some = list_any_from (rules.clashes x) (forced rules all) y one clash in
      false≢true (sym (ap not some) ∙ none)

  within : (round : ℕ) (y : X) → Contains (left_in rules round all) y → Contains all y
  unfolding left_in
  within zero y has = (Contains_of_filter rules.matches all y has).0
  within (suc round) y has = within round y (Contains_of_filter _ (left_in rules round all) y has).0

  pub are_closed : RoundsAreClosed rules all
  unfolding remaining forced
  are_closed = record {
    unmatched = matches_in (length all);
    clashing = peaceful;
    alone = λ x has others.
        Contains-filter (is_forced rules (left_in rules (length all) all)) all x
        (list_all_from (λ y. not (rules.same_section y x) || rules.same y x) (left_in rules (length all) all)
        (λ y has_y. other_or x y (λ section differs. others y (within (length all) y has_y) section differs has_y)))
        has;
  }
