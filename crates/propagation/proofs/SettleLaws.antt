-- Laws of a section that is looked at.
use Rattle.std.proofs.Common.{◌≡◌, ◌⊎◌, ℕ, ◌+◌, ◌-◌, ◌<◌, ◌==◌, Bool, true, false, not, cond, List, []}
use Rattle.std.proofs.Common.{◌∷◌, ◌++◌, length, get_or, set, sum_by, slice_index, Contains, Option}
use Rattle.std.proofs.Common.{Some, None, slice_get, refl, sym, ◌∙◌, ap, subst, inl, inr, arith, fold}
use Rattle.std.proofs.lemmas.Bool.{cases_Bool, cases_eq, cases_lt, cond-true, cond-false}
use Rattle.std.proofs.lemmas.Bool.{and_parts, eqb-true, eqb-false, eq-eqb, not-true, both_ways}
use Rattle.std.proofs.lemmas.List.{length-set, length-append, get_or-set_same, get_or-set_other, get_or_past, set_past}
use Rattle.std.proofs.lemmas.List.Elements.{Contains-get_or, Contains-append_cases}
use Rattle.std.proofs.lemmas.Option.{slice_get_within}
use Rattle.propagation.specs.declared.choice.Choice.{Choice}
use Rattle.propagation.specs.Choices.{AreChoices}
use Rattle.propagation.specs.inside.Engine.{Marking, Engine, list_at, is_left, carried_at}
use Rattle.propagation.specs.inside.Engine.{members_at, member_from, place_if}
use Rattle.propagation.specs.inside.State.{At, IsLeft, KeepsMarks, KeepsClaims, KeepsMembers}
use Rattle.propagation.specs.inside.State.{KeepsDemands, Keeps, IsAlone, IsClosed, IsNarrowed}
use Rattle.propagation.specs.inside.State.{IsSettled, IsWhole, Popped, State, carried_of, waits, weight}
use Rattle.propagation.proofs.ListLaws.{Contains-none, Contains-here, Contains-cases, set_cases, said_has, said_of}
use Rattle.propagation.proofs.NarrowLaws.{left_within}
use Rattle.propagation.proofs.MarkLaws.{same_choices}
use Rattle.propagation.proofs.RemainLaws.{IsSound, same_place, at_within}
use Rattle.propagation.proofs.RunLaws.{AreMatching, matching_fewer, closed_fewer, CarriedEach, carried_each}

-- ---- all choices of a section
member_in : (section place : ℕ) (c : Choice) → c.section ≡ section → Contains (place_if section c.section place) place
member_in section place c e =
    let P : List ℕ → Type 0 = λ l. Contains l place in
    subst P (sym (cond-true (section == c.section) (place ∷ []) [] (eq-eqb section c.section (sym e))))
    (Contains-here place [])

record Member (section i place : ℕ) (o : Option Choice) : Type 0 where
  choice : Choice
  is : o ≡ Some choice
  of : choice.section ≡ section
  same : i ≡ place

member_of : (section i place : ℕ) (o : Option Choice) → Contains (member_from section i o) place
    → Member section i place o
member_of section i place None h = absurd (Contains-none place h)
member_of section i place (Some c) h =
    let P : List ℕ → Type 0 = λ l. Contains l place in
    elim (cases_Bool (section == c.section)) [
      | inl t ↦
          record {
            choice = c;
            is = refl;
            of = sym (eqb-true section c.section t);
            same = elim (Contains-cases i place [] (subst P (cond-true (section == c.section) (i ∷ []) [] t) h))
                [ inl e ↦ e | inr none ↦ absurd (Contains-none place none) ];
          }
      | inr f ↦ absurd (Contains-none place (subst P (cond-false (section == c.section) (i ∷ []) [] f) h))
    ]

pub whole_has : (choices : List Choice) (whole : List (List ℕ)) → IsWhole choices whole
    → (section place : ℕ) (c : Choice) → At choices place c → c.section ≡ section
    → Contains (list_at whole section) place
whole_has choices whole is section place c at e =
    let P : List ℕ → Type 0 = λ l. Contains l place in
    subst P (sym (is section))
    (said_has (members_at choices section) (length choices) place place (slice_get_within choices place c at)
    (subst P (sym (ap (member_from section place) at)) (member_in section place c e)))

pub whole_of : (choices : List Choice) (whole : List (List ℕ)) → IsWhole choices whole → (section place : ℕ)
    → Contains (list_at whole section) place → (c : Choice) → At choices place c → c.section ≡ section
whole_of choices whole is section place h c at =
    let P : List ℕ → Type 0 = λ l. Contains l place in
    let some = said_of (members_at choices section) (length choices) place (subst P (is section) h) in
    let m : Member section some.0 place (slice_get choices some.0) =
    member_of section some.0 place (slice_get choices some.0) some.2 in
    let e : m.choice ≡ c = same_choices choices place m.choice c (ap (slice_get choices) (sym m.same) ∙ m.is) at in
    ap (λ (x : Choice). x.section) (sym e) ∙ m.of

-- ---- a section taken from those that wait
cleared : (xs : List Bool) (i : ℕ) → get_or (set xs i false) i false ≡ false
cleared xs i =
    elim (cases_lt i (length xs)) [
      | inl less ↦ get_or-set_same xs i false false less
      | inr past ↦ ap (λ (l : List Bool). get_or l i false) (set_past xs i false past) ∙ get_or_past xs i false past
    ]

module _ (choices : List Choice) (section : ℕ) (old new : Marking) (popped : Popped section old new) where
  still_waits : (s : ℕ) → (s ≡ section → ⊥) → waits new s ≡ waits old s
  still_waits s ne =
      ap (λ (l : List Bool). get_or l s false) popped.queued ∙ get_or-set_other old.queued section s false false ne

  no_more : waits new section ≡ false
  no_more = ap (λ (l : List Bool). get_or l section false) popped.queued ∙ cleared old.queued section

  queue_has : ((s : ℕ) → waits old s ≡ true → Contains old.queue s) → (s : ℕ) → waits new s ≡ true
      → Contains new.queue s
  queue_has queue s t =
      elim (cases_eq s section) [
        | inl e ↦ absurd (both_ways (waits new s) (ap (waits new) e ∙ no_more) t)
        | inr ne ↦
            (let P : List ℕ → Type 0 = λ l. Contains l s in
            let before : Contains (new.queue ++ section ∷ []) s =
            subst P popped.queue (queue s (sym (still_waits s ne) ∙ t)) in
            elim (Contains-append_cases new.queue (section ∷ []) s before) [
              | inl there ↦ there
              | inr last ↦
                  elim (Contains-cases section s [] last) [
                    | inl same ↦ absurd (ne (sym same))
                    | inr none ↦ absurd (Contains-none s none)
                  ]
            ])
      ]

  popped_marks : KeepsMarks choices old → KeepsMarks choices new
  popped_marks keeps = record {
    size = ap (λ (l : List Bool). length l) popped.left ∙ keeps.size;
    sections = λ place c at.
        (let less = keeps.sections place c at in
        let same = ap (λ (l : List Bool). length l) popped.queued ∙ length-set old.queued section false in
        omega (arith, less, same));
    queue = queue_has keeps.queue;
  }

  popped_weight : weight new + 1 ≡ weight old
  popped_weight =
      let one = ap (λ (l : List Bool). sum_by (λ mark. cond mark 1 0) l) popped.left in
      let two = ap (λ (l : List ℕ). length l) popped.queue in
      omega (arith, one, two, length-append new.queue (section ∷ []))

popped_keeps : (choices : List Choice) (section : ℕ) (e : Engine) (m : Marking)
    → Popped section e.marking m → Keeps choices e → Keeps choices (record e { marking = m })
popped_keeps choices section e m popped keeps =
    let P : List Bool → Type 0 = λ left. KeepsClaims choices left e.claims e.fixed in
    let Q : List Bool → Type 0 = λ left. KeepsMembers choices left e.members e.asked in
    let R : List Bool → Type 0 = λ left. KeepsDemands choices left e.numbers e.makers in
    record {
      marks = popped_marks choices section e.marking m popped keeps.marks;
      claims = subst P (sym popped.left) keeps.claims;
      members = subst Q (sym popped.left) keeps.members;
      demands = subst R (sym popped.left) keeps.demands;
    }

-- ---- the section's list narrowed, and what must be chosen carried out
module _ (choices : List Choice) (are : AreChoices choices)
    (whole : List (List ℕ)) (is : IsWhole choices whole) (e : Engine) (keeps : Keeps choices e) (section : ℕ) where
  abbrev with_list : List ℕ → Engine
  with_list list = record e { members = set e.members section list }

  abbrev after : List ℕ → Engine
  after list = fold (carried_at choices) (with_list list) (carried_of (list_at whole section) list)

  module _ (list : List ℕ) (narrowed : IsNarrowed e.marking.left (list_at e.members section) list) where
    has_all : (place : ℕ) (c : Choice) → At choices place c → IsLeft e.marking.left place → c.section ≡ section
        → Contains list place
    has_all place c at t same =
        let P : ℕ → Type 0 = λ s. Contains (list_at e.members s) place in
        narrowed.kept place (subst P same (keeps.members.complete place c at t)) t

    has_its : (place : ℕ) → Contains list place → (c : Choice) → At choices place c → c.section ≡ section
    has_its place h c at = keeps.members.sound section place (narrowed.from place h) c at

    complete : (place : ℕ) (c : Choice) → At choices place c → IsLeft e.marking.left place
        → Contains (list_at (set e.members section list) c.section) place
    complete place c at t =
        let P : List ℕ → Type 0 = λ l. Contains l place in
        elim (set_cases e.members section c.section list []) [
          | inl same ↦ subst P (sym same.1) (has_all place c at t same.0)
          | inr other ↦ subst P (sym other) (keeps.members.complete place c at t)
        ]

    sound : (s place : ℕ) → Contains (list_at (set e.members section list) s) place → (c : Choice) → At choices place c
        → c.section ≡ s
    sound s place h c at =
        let P : List ℕ → Type 0 = λ l. Contains l place in
        elim (set_cases e.members section s list []) [
          | inl same ↦ has_its place (subst P same.1 h) c at ∙ sym same.0
          | inr other ↦ keeps.members.sound s place (subst P other h) c at
        ]

    list_keeps : Keeps choices (with_list list)
    list_keeps = record {
      marks = keeps.marks;
      claims = keeps.claims;
      members = record { complete = complete; sound = sound; asked = keeps.members.asked };
      demands = keeps.demands;
    }

    choice_at : (place : ℕ) → IsLeft e.marking.left place → (c : Choice) × At choices place c
    choice_at place t =
        let less = left_within e.marking.left place t in
        let size = keeps.marks.size in
        at_within choices place (omega (arith, less, size))

  one_of : (x place : ℕ) → Contains (x ∷ []) place → x ≡ place
  one_of x place h =
      elim (Contains-cases x place [] h) [ inl same ↦ same | inr none ↦ absurd (Contains-none place none) ]

  carried_alone : (list : List ℕ) → IsNarrowed e.marking.left (list_at e.members section) list → (place : ℕ)
      → Contains (carried_of (list_at whole section) list) place → (c : Choice) → At choices place c
      → IsAlone choices e.marking.left c
  carried_alone [] narrowed place h c at p other there t same =
      absurd (Contains-none p
      (has_all [] narrowed p other there t (same ∙ whole_of choices whole is section place h c at)))
  carried_alone (x ∷ []) narrowed place h c at p other there t same =
      let its : c.section ≡ section = has_its (x ∷ []) narrowed place h c at in
      let e1 = one_of x p (has_all (x ∷ []) narrowed p other there t (same ∙ its)) in
      let e2 = one_of x place h in
      same_choices choices p other c there (ap (slice_get choices) (sym e1 ∙ e2) ∙ at)
  carried_alone (x ∷ y ∷ rest) narrowed place h c at p other there t same = absurd (Contains-none place h)

  settled : (list : List ℕ) → IsNarrowed e.marking.left (list_at e.members section) list → (new : Engine)
      → CarriedEach choices are (carried_of (list_at whole section) list) (with_list list) new → new ≡ after list
      → (place : ℕ) (c : Choice) → At choices place c → c.matches ≡ true → IsAlone choices new.marking.left c
      → c.section ≡ section → (waits new.marking section ≡ true) ⊎ IsClosed choices new.marking.left c
  settled [] narrowed new each same place c at chosen alone its =
      inr (each.closed place (whole_has choices whole is section place c at its) c at chosen)
  settled (x ∷ []) narrowed new each same place c at chosen alone its =
      let left : IsLeft e.marking.left x = narrowed.last (omega arith) in
      let only = choice_at (x ∷ []) narrowed x left in
      let of = has_its (x ∷ []) narrowed x (Contains-here x []) only.0 only.1 in
      elim (cases_Bool (is_left new.marking.left x)) [
        | inl still ↦
            (let e' : only.0 ≡ c = alone x only.0 only.1 still (of ∙ sym its) in
            inr (each.closed x (Contains-here x []) c (only.1 ∙ ap Some e') chosen))
        | inr gone ↦
            (let P : ℕ → Type 0 = λ s. waits new.marking s ≡ true in
            inl (subst P of (each.onward.put x only.0 only.1 left gone)))
      ]
  settled (x ∷ y ∷ rest) narrowed new each same place c at chosen alone its =
      let list : List ℕ = x ∷ y ∷ rest in
      let long : 1 < length list = omega arith in
      let p : ℕ = slice_index list (length list - 1) in
      let q : ℕ = slice_index list (length list - 2) in
      let parts = and_parts (is_left e.marking.left q) (not (q == p)) (narrowed.other long) in
      let one : IsLeft e.marking.left p = narrowed.last (omega arith) in
      let a = choice_at list narrowed p one in
      let b = choice_at list narrowed q parts.0 in
      let a_of = has_its list narrowed p (Contains-get_or list (length list - 1) 0 (omega arith)) a.0 a.1 in
      let b_of = has_its list narrowed q (Contains-get_or list (length list - 2) 0 (omega arith)) b.0 b.1 in
      let P : Engine → Type 0 = λ x. IsAlone choices x.marking.left c in
      let before : IsAlone choices e.marking.left c = subst P same alone in
      let both : a.0 ≡ b.0 = before p a.0 a.1 one (a_of ∙ sym its) ∙ sym (before q b.0 b.1 parts.0 (b_of ∙ sym its)) in
      let apart = same_place choices are.order p q a.0 b.0 a.1 b.1
      (ap (λ (z : Choice). z.section) both) (ap (λ (z : Choice). z.home) both) in
      absurd (eqb-false q p (not-true (q == p) parts.1) (sym apart))

  settled_each : (list : List ℕ) → IsNarrowed e.marking.left (list_at e.members section) list → AreMatching choices e
      → IsSound choices e.marking.left
      → CarriedEach choices are (carried_of (list_at whole section) list) (with_list list) (after list)
  settled_each list narrowed matching below =
      carried_each choices are (with_list list) (carried_of (list_at whole section) list)
      (list_keeps list narrowed) matching below (carried_alone list narrowed)

-- ---- one step
pub record Stepped (choices : List Choice) (old new : Engine) : Type 0 where
  pub state : State choices new
  pub lighter : weight new.marking < weight old.marking

module _ (choices : List Choice) (are : AreChoices choices) (whole : List (List ℕ)) (is : IsWhole choices whole)
    (section : ℕ) (old : Engine) (m : Marking) (state : State choices old) (popped : Popped section old.marking m)
    (list : List ℕ) (narrowed : IsNarrowed m.left (list_at old.members section) list) where
  abbrev taken : Engine
  taken = record old { marking = m }

  taken_keeps : Keeps choices taken
  taken_keeps = popped_keeps choices section old m popped state.keeps

  abbrev new : Engine
  new = after choices are whole is taken taken_keeps section list

  taken_matching : AreMatching choices taken
  taken_matching place c at t =
      let P : List Bool → Type 0 = λ l. IsLeft l place in
      state.matching place c at (subst P popped.left t)

  each : CarriedEach choices are
      (carried_of (list_at whole section) list) (with_list choices are whole is taken taken_keeps section list) new
  each = settled_each choices are whole is taken taken_keeps section list narrowed taken_matching
      (λ place c at h.
      (let P : List Bool → Type 0 = λ l. IsLeft l place in subst P (sym popped.left) (state.sound place c at h)))

  was_alone : (c : Choice) → waits new.marking c.section ≡ false → IsAlone choices new.marking.left c
      → IsAlone choices m.left c
  was_alone c quiet alone place other at t same =
      elim (cases_Bool (is_left new.marking.left place)) [
        | inl still ↦ alone place other at still same
        | inr gone ↦
            (let P : ℕ → Type 0 = λ s. waits new.marking s ≡ true in
            absurd
            (both_ways (waits new.marking c.section) quiet (subst P same (each.onward.put place other at t gone))))
      ]

  elsewhere : (place : ℕ) (c : Choice) → At choices place c → c.matches ≡ true → waits new.marking c.section ≡ false
      → IsAlone choices new.marking.left c → (c.section ≡ section → ⊥) → IsClosed choices new.marking.left c
  elsewhere place c at chosen quiet alone ne =
      let P : List Bool → Type 0 = λ l. IsAlone choices l c in
      elim (state.closed place c at chosen (subst P popped.left (was_alone c quiet alone))) [
        | inl waited ↦
            absurd (both_ways (waits new.marking c.section) quiet
            (each.onward.stays c.section (still_waits choices section old.marking m popped c.section ne ∙ waited)))
        | inr closed ↦
            (let Q : List Bool → Type 0 = λ l. IsClosed choices l c in
            closed_fewer choices m.left new.marking.left c each.onward.fewer (subst Q (sym popped.left) closed))
      ]

  closed_or_waits : (place : ℕ) (c : Choice) → At choices place c → c.matches ≡ true
      → IsAlone choices new.marking.left c → (waits new.marking c.section ≡ true) ⊎ IsClosed choices new.marking.left c
  closed_or_waits place c at chosen alone =
      elim (cases_Bool (waits new.marking c.section)) [
        | inl t ↦ inl t
        | inr quiet ↦
            elim (cases_eq c.section section) [
              | inl same ↦
                  elim (settled choices are
                  whole is taken taken_keeps section list narrowed new each refl place c at chosen alone same) [
                    | inl waited ↦ inl (ap (waits new.marking) same ∙ waited)
                    | inr closed ↦ inr closed
                  ]
              | inr ne ↦ inr (elsewhere place c at chosen quiet alone ne)
            ]
      ]

  stepped : Stepped choices old new
  stepped = record {
    state = record {
      keeps = each.onward.keeps;
      matching = matching_fewer choices taken new each.onward.fewer taken_matching;
      sound = each.onward.sound
          (λ place c at h. (let P : List Bool → Type 0 = λ l. IsLeft l place in
          subst P (sym popped.left) (state.sound place c at h)));
      closed = closed_or_waits;
    };
    lighter = (let less = each.onward.weight in
        let one = popped_weight choices section old.marking m popped in omega (arith, less, one));
  }

pub settled_steps : (choices : List Choice) → AreChoices choices → (whole : List (List ℕ)) → IsWhole choices whole
    → (section : ℕ) (old : Engine) (m : Marking) (last : Engine) → State choices old → Popped section old.marking m
    → IsSettled choices whole section (record old { marking = m }) last → Stepped choices old last
settled_steps choices are whole is section old m last state popped done =
    let P : Engine → Type 0 = Stepped choices old in
    subst P (sym done.is) (stepped choices are whole is section old m state popped done.list done.narrowed)
