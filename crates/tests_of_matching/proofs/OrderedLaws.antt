-- Choices that pass the test are in the order in which they are propagated.
use Rattle.std.specs.Prelude.{◌≡◌, ◌<◌, ◌+◌, ◌-◌, ℕ, zero, suc, Bool, true, not, ◌&&◌, ◌==◌, nat_lt}
use Rattle.std.specs.Prelude.{List, [], ◌∷◌, length, All, Some, slice_get, slice_index, get_or, take, drop}
use Rattle.std.specs.List.{list_all, Contains}
use Rattle.std.specs.List.Sorted.{IsStrictlyIncreasing}
use Rattle.std.proofs.Common.{arith, sym, ◌∙◌, ap, subst, inl, inr}
use Rattle.std.proofs.lemmas.Bool.{and_parts, or_cases, ltb-true, eqb-true, eq-eqb}
use Rattle.std.proofs.lemmas.Option.{same_Some}
use Rattle.std.proofs.lemmas.List.{take_all}
use Rattle.std.proofs.lemmas.List.Elements.{All-cons, All-contains}
use Rattle.std.proofs.lemmas.List.Sums.{AllPass-from_list_all}
use Rattle.propagation.specs.declared.choice.Claim.{Claim}
use Rattle.propagation.specs.declared.choice.Choice.{Choice}
use Rattle.propagation.specs.Choices.{Agree, IsChoice, ComesBefore, AreChoices}
use Rattle.tests_of_matching.specs.Ordered.{rise, agree, agree_with, are_single, comes_before, stand_in_order}

all_at : {X : Type 0} (p : X → Bool) (xs : List X) (i : ℕ) (x : X) → list_all p xs ≡ true →
    slice_get xs i ≡ Some x → p x ≡ true
all_at p [] i x each at = absurd cc
all_at p (y ∷ ys) zero x each at = ap p (sym (same_Some y x at)) ∙ (and_parts (p y) (list_all p ys) each).0
all_at p (y ∷ ys) (suc i) x each at = all_at p ys i x (and_parts (p y) (list_all p ys) each).1 at

All-list_all : {X : Type 0} (P : X → Type 0) (p : X → Bool) → ((x : X) → p x ≡ true → P x) →
    (xs : List X) → list_all p xs ≡ true → All P xs
All-list_all P p means [] each = λ i d lt. absurd (omega arith)
All-list_all P p means (x ∷ xs) each =
    let parts = and_parts (p x) (list_all p xs) each in
    All-cons P x xs (means x parts.0) (All-list_all P p means xs parts.1)

rises_with : (x y : ℕ) (ys : List ℕ) → x < y → IsStrictlyIncreasing (y ∷ ys) → IsStrictlyIncreasing (x ∷ y ∷ ys)
rises_with x y ys below rest zero lt = below
rises_with x y ys below rest (suc k) lt =
    let e : suc (k + 1) ≡ suc k + 1 = omega arith in
    subst (λ n. slice_index (x ∷ y ∷ ys) (suc k) < slice_index (x ∷ y ∷ ys) n) e (rest k (omega arith))

-- each number is below the next
rises : (xs : List ℕ) → rise xs ≡ true → IsStrictlyIncreasing xs
unfolding rise
rises [] each = λ k lt. absurd (omega arith)
rises (x ∷ []) each = λ k lt. absurd (omega arith)
rises (x ∷ y ∷ ys) each = λ k lt.
    let parts = and_parts (list_all (nat_lt x) (y ∷ ys)) (rise (y ∷ ys)) each in
    let first = and_parts (nat_lt x y) (list_all (nat_lt x) ys) parts.0 in
    rises_with x y ys (ltb-true x y first.0) (rises (y ∷ ys) parts.1) k lt

passes : {X : Type 0} (p : X → Bool) (xs : List X) (x : X) → list_all p xs ≡ true → Contains xs x → p x ≡ true
passes p xs x each has = All-contains (λ y. p y ≡ true) xs x (AllPass-from_list_all p xs each) has

-- claims of one unknown give it one value
claims_agree : (claims : List Claim) → agree claims ≡ true → Agree claims
claims_agree claims each = λ a b has_a has_b same.
    let with_each = passes (λ c. list_all (agree_with c) claims) claims a each has_a in
    let with_b = passes (agree_with a) claims b with_each has_b in
    elim (or_cases (not (a.unknown == b.unknown)) (a.value == b.value) with_b) [
      | inl other ↦ (let none = ap not (eq-eqb a.unknown b.unknown same) in absurd cc)
      | inr e ↦ eqb-true a.value b.value e
    ]

is_single : (choice : Choice) → (agree choice.claims && rise choice.met) ≡ true → IsChoice choice
is_single choice both =
    let parts = and_parts (agree choice.claims) (rise choice.met) both in
    record { agree = claims_agree choice.claims parts.0; ascend = rises choice.met parts.1 }

before : (a b : Choice) → comes_before a b ≡ true → ComesBefore a b
before a b is =
    elim (or_cases (nat_lt a.section b.section) (a.section == b.section && nat_lt a.home b.home) is) [
      | inl below ↦ inl (ltb-true a.section b.section below)
      | inr here ↦
          (let parts = and_parts (a.section == b.section) (nat_lt a.home b.home) here in
          inr (eqb-true a.section b.section parts.0, ltb-true a.home b.home parts.1))
    ]

in_order : (choices : List Choice) (i j : ℕ) (a b : Choice) → stand_in_order choices ≡ true → i < j →
    slice_get choices i ≡ Some a → slice_get choices j ≡ Some b → ComesBefore a b
unfolding stand_in_order
in_order [] i j a b each less at_i at_j = absurd cc
in_order (x ∷ xs) zero zero a b each less at_i at_j = absurd (omega arith)
in_order (x ∷ xs) (suc i) zero a b each less at_i at_j = absurd (omega arith)
in_order (x ∷ xs) zero (suc j) a b each less at_i at_j =
    let first = (and_parts (list_all (comes_before x) xs) (stand_in_order xs) each).0 in
    subst
    (λ (z : Choice). ComesBefore z b) (same_Some x a at_i) (before x b (all_at (comes_before x) xs j b first at_j))
in_order (x ∷ xs) (suc i) (suc j) a b each less at_i at_j =
    in_order xs i j a b (and_parts (list_all (comes_before x) xs) (stand_in_order xs) each).1 (omega arith) at_i at_j

-- what is tested of a list that isn't empty, with the lists that a slice is split into
pub rise_of : (xs : List ℕ) → 0 < length xs → rise xs
    ≡ (list_all (nat_lt (get_or xs 0 0)) (take (length xs - 1) (drop 1 xs)) && rise (take (length xs - 1) (drop 1 xs)))
unfolding rise
rise_of [] lt = absurd (omega arith)
rise_of (x ∷ xs) lt =
    ap (λ ys. list_all (nat_lt x) ys && rise ys) (sym (take_all (suc (length xs) - 1) xs (omega arith)))

pub order_of : (xs : List Choice) (d : Choice) → 0 < length xs → stand_in_order xs
    ≡ (list_all (comes_before (get_or xs 0 d)) (take (length xs - 1) (drop 1 xs))
    && stand_in_order (take (length xs - 1) (drop 1 xs)))
unfolding stand_in_order
order_of [] d lt = absurd (omega arith)
order_of (x ∷ xs) d lt =
    ap (λ ys. list_all (comes_before x) ys && stand_in_order ys) (sym (take_all (suc (length xs) - 1) xs (omega arith)))

pub tested_choices : (choices : List Choice) → are_single choices ≡ true → stand_in_order choices ≡ true →
    AreChoices choices
tested_choices choices single order = record {
  each = All-list_all IsChoice (λ choice. agree choice.claims && rise choice.met) is_single choices single;
  order = λ i j a b less at_i at_j. in_order choices i j a b order less at_i at_j;
}
