-- Laws of a list that loses choices that aren't left.
use Rattle.std.proofs.Common.{◌≡◌, ℕ, ◌+◌, ◌-◌, ◌<◌, Bool, false, not, List, [], ◌∷◌, ◌++◌, length, get_or}
use Rattle.std.proofs.Common.{take, slice_index, Contains, sym, ◌∙◌, ap, subst, inl, inr, arith, eqb}
use Rattle.std.proofs.lemmas.Bool.{cases_lt, cases_eq, false≢true, and_parts, and_from, not_from_false, ne_eqb}
use Rattle.std.proofs.lemmas.List.{get_or_default, get_or_past, get_or-take, get_or_append_left}
use Rattle.std.proofs.lemmas.List.{get_or_push, length-append, length-take-le}
use Rattle.std.proofs.lemmas.List.Elements.{Contains-append_left, Contains-append_cases, Contains-push, Contains-get_or}
use Rattle.propagation.specs.inside.Engine.{is_left, is_other}
use Rattle.propagation.specs.inside.State.{IsLeft, IsEnd, IsNarrowed}
use Rattle.propagation.proofs.ListLaws.{Contains-none, Contains-cases}

pub left_within : (left : List Bool) (place : ℕ) → IsLeft left place → place < length left
left_within left place t =
    elim (cases_lt place (length left)) [
      | inl less ↦ less
      | inr past ↦ absurd (false≢true (sym (get_or_past left place false past) ∙ t))
    ]

-- what is left and isn't another than one is this one
pub same_as_except : (left : List Bool) (except place : ℕ) → IsLeft left place → is_other left except place ≡ false
    → place ≡ except
same_as_except left except place t f =
    elim (cases_eq place except) [
      | inl e ↦ e
      | inr ne ↦
          absurd (false≢true (sym f ∙ and_from (is_left left place)
          (not (eqb place except)) t (not_from_false (eqb place except) (ne_eqb place except ne))))
    ]

at_place : (xs : List ℕ) (k place : ℕ) → k < length xs → get_or xs k place ≡ place → get_or xs k 0 ≡ place
at_place xs k place less e = get_or_default xs k 0 place less ∙ e

module _ (left : List Bool) (xs : List ℕ) where
  -- a place that would be past all marks isn't left
  past_isn't_left : (k place : ℕ) → IsLeft left place → get_or xs k 0 ≡ place
      → is_other left (length left) (slice_index xs k) ≡ false → ⊥
  past_isn't_left k place t e f =
      let same = same_as_except left (length left) place t (ap (is_other left (length left)) (sym e) ∙ f) in
      let within = left_within left place t in
      omega (arith, same, within)

  pub narrowed_none : IsEnd left xs (length xs) (length left) 0 → IsNarrowed left xs []
  narrowed_none end = record {
    kept = λ place h t.
        absurd (past_isn't_left h.0 place t (at_place xs h.0 place h.1 h.2) (end.past h.0 (omega arith) h.1));
    from = λ place h. absurd (Contains-none place h);
    last = λ less. absurd (omega arith);
    other = λ less. absurd (omega arith);
  }

-- where the last one that is left stands, and the one before it
pub record Ends (left : List Bool) (xs : List ℕ) (last before : ℕ) : Type 0 where
  pub some : 0 < last
  pub first : IsEnd left xs (length xs) (length left) last
  pub second : IsEnd left xs (last - 1) (slice_index xs (last - 1)) before

module _ (left : List Bool) (xs : List ℕ) (last before : ℕ) (ends : Ends left xs last before) where
  abbrev only : ℕ
  only = slice_index xs (last - 1)

  abbrev shorter : List ℕ
  shorter = take before xs ++ only ∷ []

  length_front : length (take before xs) ≡ before
  length_front = length-take-le before xs (omega (arith, ends.second.within, ends.first.within))

  length_shorter : length shorter ≡ before + 1
  length_shorter = omega (arith, length-append (take before xs) (only ∷ []), length_front)

  is_only : (place : ℕ) → only ≡ place → Contains shorter place
  is_only place e =
      let P : ℕ → Type 0 = Contains shorter in
      subst P e (Contains-push (take before xs) only)

  kept : (place : ℕ) → Contains xs place → IsLeft left place → Contains shorter place
  kept place h t =
      let k : ℕ = h.0 in
      let e : get_or xs k 0 ≡ place = at_place xs k place h.1 h.2 in
      elim (cases_lt k before) [
        | inl front ↦
            Contains-append_left (take before xs) (only ∷ []) place
            (k, omega (arith, length_front, front), get_or-take before xs k place front ∙ h.2)
        | inr behind ↦
            elim (cases_lt k (last - 1)) [
              | inl between ↦
                  is_only place (sym (same_as_except left only place t
                  (ap (is_other left only) (sym e) ∙ ends.second.past k behind between)))
              | inr late ↦
                  elim (cases_eq k (last - 1)) [
                    | inl same ↦ is_only place (ap (λ n. get_or xs n 0) (sym same) ∙ e)
                    | inr ne ↦
                        absurd (past_isn't_left left xs k place t e (ends.first.past k (omega (arith, late, ne)) h.1))
                  ]
            ]
      ]

  from : (place : ℕ) → Contains shorter place → Contains xs place
  from place h =
      elim (Contains-append_cases (take before xs) (only ∷ []) place h) [
        | inl front ↦
            (let less : front.0 < before = omega (arith, front.1, length_front) in (
              front.0,
              omega (arith, less, ends.second.within, ends.first.within),
              sym (get_or-take before xs front.0 place less) ∙ front.2,
            ))
        | inr last_one ↦
            elim (Contains-cases only place [] last_one) [
              | inl e ↦
                  (let P : ℕ → Type 0 = Contains xs in
                  subst P e (Contains-get_or xs (last - 1) 0 (omega (arith, ends.some, ends.first.within))))
              | inr none ↦ absurd (Contains-none place none)
            ]
      ]

  at_end : slice_index shorter (length shorter - 1) ≡ only
  at_end =
      ap (λ n. get_or shorter n 0) (let e : length shorter - 1 ≡ before = omega (arith, length_shorter) in e)
      ∙ get_or_push (take before xs) only 0 before length_front

  before_end : 0 < before → slice_index shorter (length shorter - 2) ≡ slice_index xs (before - 1)
  before_end some =
      ap (λ n. get_or shorter n 0) (let e : length shorter - 2 ≡ before - 1 = omega (arith, length_shorter) in e)
      ∙ get_or_append_left (take before xs) (only ∷ []) 0 (before - 1) (omega (arith, length_front, some))
      ∙ get_or-take before xs (before - 1) 0 (omega (arith, some))

  pub narrowed_some : IsNarrowed left xs shorter
  narrowed_some = record {
    kept = kept;
    from = from;
    last = λ less.
        (let P : ℕ → Type 0 = IsLeft left in
        subst P (sym at_end) (and_parts (is_left left only) _ (ends.first.found ends.some)).0);
    other = λ less.
        (let some : 0 < before = omega (arith, less, length_shorter) in
        ap (λ n. is_other left n (slice_index shorter (length shorter - 2))) at_end
        ∙ ap (is_other left only) (before_end some) ∙ ends.second.found some);
  }
