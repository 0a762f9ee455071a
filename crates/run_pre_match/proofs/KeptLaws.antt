-- What is kept of the values that are found, as one more is found.
use Rattle.std.proofs.Common.{◌≡◌, inl, inr, ℕ, Bool, true, false, cond, List, [], ◌∷◌, ◌++◌, Option, Some, None}
use Rattle.std.proofs.Common.{option_map, refl, sym, ◌∙◌, ap}
use Rattle.std.specs.Option.{option_or}
use Rattle.std.specs.List.{find}
use Rattle.std.proofs.lemmas.Bool.{cases_Bool}
use Rattle.std.proofs.lemmas.List.Folds.{find-append}
use Rattle.run_pre_match.specs.declared.goals.Goal.{Goal}
use Rattle.run_pre_match.specs.declared.values.First.{First}
use Rattle.run_pre_match.specs.Goals.{same_goal}
use Rattle.run_pre_match.specs.Found.{Found, is_for, value_of, first_value}
use Rattle.run_pre_match.specs.inside.Kept.{IsKept}

map_or : (o p : Option Found) → option_map value_of (option_or o p)
    ≡ option_or (option_map value_of o) (option_map value_of p)
map_or None p = refl
map_or (Some x) p = refl

-- the first value of two lists
pub first_of_two : (xs ys : List Found) (goal : Goal) →
    first_value (xs ++ ys) goal ≡ option_or (first_value xs goal) (first_value ys goal)
first_of_two xs ys goal = ap (option_map value_of) (find-append (is_for goal) xs ys)
    ∙ map_or (find (is_for goal) xs) (find (is_for goal) ys)

some_first : (o p : Option ℕ) (x : ℕ) → o ≡ Some x → option_or o p ≡ Some x
some_first None p x e = absurd cc
some_first (Some y) p x e = e

-- the first value of a list is that of a longer one
pub first_stays : (xs ys : List Found) (goal : Goal) (x : ℕ) → first_value xs goal ≡ Some x →
    first_value (xs ++ ys) goal ≡ Some x
first_stays xs ys goal x is = first_of_two xs ys goal ∙ some_first (first_value xs goal) (first_value ys goal) x is

or_none : {X : Type 0} (o : Option X) → option_or o None ≡ o
or_none None = refl
or_none (Some x) = refl

one_found : (f : Found) (b : Bool) → option_map value_of (cond b (Some f) None) ≡ cond b (Some f.value) None
one_found f true = refl
one_found f false = refl

-- the first value, where one more is found
pub first_value-append : (before : List Found) (f : Found) (goal : Goal) →
    first_value (before ++ f ∷ []) goal
    ≡ option_or (first_value before goal) (cond (same_goal f.goal goal) (Some f.value) None)
first_value-append before f goal =
    first_of_two before (f ∷ []) goal ∙ ap (option_or (first_value before goal)) (one_found f (same_goal f.goal goal))

-- of another goal
pub kept_other : {K : Type 0} (kept : K → Option First) (goal : K → Goal) (with_value : K → ℕ → First)
    (before : List Found) (f : Found) →
    ((key : K) → same_goal f.goal (goal key) ≡ false) → IsKept kept goal with_value before →
    IsKept kept goal with_value (before ++ f ∷ [])
kept_other {K} kept goal with_value before f other is = λ (key : K).
    is key ∙ ap (option_map (with_value key))
    (sym (first_value-append before f (goal key) ∙ rw (other key) (or_none (first_value before (goal key)))))

some_or : {X : Type 0} (o : Option X) (x : X) (p : Option X) → o ≡ Some x → option_or o p ≡ o
some_or None x p e = absurd cc
some_or (Some y) x p e = refl

pub mapped : (with_value : ℕ → First) (o : Option ℕ) (x : First) → Some x ≡ option_map with_value o →
    (v : ℕ) × (o ≡ Some v) × (x ≡ with_value v)
mapped with_value None x e = absurd cc
mapped with_value (Some v) x e = (v, refl, cc)

-- of a goal that has a value
pub kept_known : {K : Type 0} (kept : K → Option First) (goal : K → Goal) (with_value : K → ℕ → First)
    (before : List Found) (f : Found) (known : K) (x : First) →
    ((key : K) → same_goal f.goal (goal key) ≡ true → key ≡ known) → kept known ≡ Some x →
    IsKept kept goal with_value before → IsKept kept goal with_value (before ++ f ∷ [])
kept_known {K} kept goal with_value before f known x only at is = λ (key : K).
    is key ∙ ap (option_map (with_value key))
    (sym (first_value-append before f (goal key) ∙ elim (cases_Bool (same_goal f.goal (goal key))) [
      | inl same ↦
          let (v, has, e) = mapped (with_value key) (first_value before (goal key)) x
          (sym at ∙ ap kept (sym (only key same)) ∙ is key) in
          some_or (first_value before (goal key)) v _ has
      | inr apart ↦ rw apart (or_none (first_value before (goal key)))
    ]))

pub none_before : (with_value : ℕ → First) (o : Option ℕ) → None ≡ option_map with_value o → o ≡ None
none_before with_value None e = refl
none_before with_value (Some v) e = absurd cc

-- of one that has none
pub kept_new : {K : Type 0} (kept after : K → Option First) (goal : K → Goal) (with_value : K → ℕ → First)
    (before : List Found) (f : Found) (new : K) →
    ((key : K) → same_goal f.goal (goal key) ≡ true → key ≡ new) → kept new ≡ None →
    ((key : K) → after key ≡ cond (same_goal f.goal (goal key)) (Some (with_value new f.value)) (kept key)) →
    IsKept kept goal with_value before → IsKept after goal with_value (before ++ f ∷ [])
kept_new {K} kept after goal with_value before f new only none updates is = λ (key : K).
    elim (cases_Bool (same_goal f.goal (goal key))) [
      | inl same ↦
          let here : key ≡ new = only key same in
          let empty : first_value before (goal key) ≡ None =
          none_before (with_value key) (first_value before (goal key)) (sym none ∙ ap kept (sym here) ∙ is key) in
          updates key ∙ rw (first_value-append before f (goal key), same, empty)
          (ap (λ (k : K). Some (with_value k f.value)) (sym here))
      | inr apart ↦ updates key ∙ rw (
        first_value-append before f (goal key),
        apart,
        or_none
            (first_value before (goal key)),
      ) (is key)
    ]
