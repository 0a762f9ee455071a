-- Laws of marks: what an exclusion leaves.
use Rattle.std.proofs.Common.{◌≡◌, ℕ, zero, suc, ◌+◌, ◌<◌, ◌≤◌, Bool, true, false, not, ◌&&◌, ◌||◌}
use Rattle.std.proofs.Common.{◌==◌, cond, List, [], ◌∷◌, ◌++◌, length, get_or, set, sum_by, Contains}
use Rattle.std.proofs.Common.{Option, Some, None, refl, sym, ◌∙◌, ap, subst, inl, inr, arith, slice_get}
use Rattle.std.specs.List.{list_any}
use Rattle.std.proofs.lemmas.Bool.{cases_Bool, cases_eq, cases_lt, cond_both, false≢true, eq-eqb, ne_eqb, both_ways}
use Rattle.std.proofs.lemmas.List.{length-set, length-append, get_or-set_same, get_or-set_other}
use Rattle.std.proofs.lemmas.List.Elements.{Contains-append_left, Contains-push}
use Rattle.std.proofs.lemmas.List.Sums.{sum_by-set}
use Rattle.propagation.specs.declared.choice.Choice.{Choice}
use Rattle.propagation.specs.inside.Engine.{Marking, is_left, waiting, excluded_of}
use Rattle.propagation.specs.inside.Engine.{excluded_from, excluded, excluded_each}
use Rattle.propagation.specs.inside.State.{At, IsLeft, KeepsMarks, waits, weight}
use Rattle.propagation.proofs.ListLaws.{set_cases}
use Rattle.propagation.proofs.NarrowLaws.{left_within}

pub and_same : (b t : Bool) → (b ≡ true → t ≡ false) → b ≡ (b && not t)
and_same true t f = sym (ap not (f refl))
and_same false t f = refl

pub and_or : (b t u : Bool) → ((b && not t) && not u) ≡ (b && not (t || u))
and_or true true u = refl
and_or true false u = refl
and_or false t u = refl

pub and_like : (b t u : Bool) → (b ≡ true → t ≡ u) → (b && not t) ≡ (b && not u)
and_like true t u e = ap not (e refl)
and_like false t u e = refl

pub same_choices : (choices : List Choice) (place : ℕ) (a b : Choice) → At choices place a → At choices place b → a ≡ b
same_choices choices place a b one other = let e : Some a ≡ Some b = sym one ∙ other in cc

-- ---- a section made to wait
record Waited (section : ℕ) (old new : Marking) : Type 0 where
  left : new.left ≡ old.left
  sections : length new.queued ≡ length old.queued
  here : waits new section ≡ true
  stays : (s : ℕ) → waits old s ≡ true → waits new s ≡ true
  queue : ((s : ℕ) → waits old s ≡ true → Contains old.queue s) → (s : ℕ) → waits new s ≡ true → Contains new.queue s
  longer : length new.queue ≤ length old.queue + 1

abbrev waited_anew : Marking → ℕ → Marking
waited_anew m section = record { left = m.left; queue = m.queue ++ section ∷ []; queued = set m.queued section true }

set_stays : (marks : List Bool) (i j : ℕ) → get_or marks j false ≡ true → get_or (set marks i true) j false ≡ true
set_stays marks i j t =
    elim (set_cases marks i j true false) [ inl same ↦ same.1 | inr other ↦ other ∙ t ]

waited_queue : (m : Marking) (section : ℕ) → ((s : ℕ) → waits m s ≡ true → Contains m.queue s) → (s : ℕ)
    → waits (waited_anew m section) s ≡ true → Contains (m.queue ++ section ∷ []) s
waited_queue m section queue s t =
    elim (set_cases m.queued section s true false) [
      | inl same ↦
          (let P : ℕ → Type 0 = Contains (m.queue ++ section ∷ []) in
          subst P (sym same.0) (Contains-push m.queue section))
      | inr other ↦ Contains-append_left m.queue (section ∷ []) s (queue s (sym other ∙ t))
    ]

waited : (m : Marking) (section : ℕ) → section < length m.queued → Waited section m (waiting m section)
waited m section less =
    cond_both (waits m section) m (waited_anew m section) (Waited section m)
    (λ t. record { left = refl; sections = refl; here = t; stays = λ s h. h; queue = λ q. q; longer = omega arith })
    (λ _. record {
      left = refl;
      sections = length-set m.queued section true;
      here = get_or-set_same m.queued section true false less;
      stays = λ s h. set_stays m.queued section s h;
      queue = λ q. waited_queue m section q;
      longer = omega (arith, length-append m.queue (section ∷ []));
    })

-- ---- choices excluded by a test of their places
pub record MarksGo (choices : List Choice) (test : ℕ → Bool) (old new : Marking) : Type 0 where
  pub keeps : KeepsMarks choices new
  pub left : (place : ℕ) → is_left new.left place ≡ (is_left old.left place && not (test place))
  pub stays : (section : ℕ) → waits old section ≡ true → waits new section ≡ true
  pub put : (place : ℕ) (c : Choice) → At choices place c → IsLeft old.left place → is_left new.left place ≡ false
      → waits new c.section ≡ true
  pub weight : weight new ≤ weight old

marks_stay : (choices : List Choice) (test : ℕ → Bool) (m : Marking) → KeepsMarks choices m
    → ((place : ℕ) → IsLeft m.left place → test place ≡ false) → MarksGo choices test m m
marks_stay choices test m keeps none = record {
  keeps = keeps;
  left = λ place. and_same (is_left m.left place) (test place) (none place);
  stays = λ section t. t;
  put = λ place c at t f. absurd (both_ways _ f t);
  weight = omega arith;
}

marks_then : (choices : List Choice) (t u : ℕ → Bool) (a b c : Marking) → MarksGo choices t a b → MarksGo choices u b c
    → MarksGo choices (λ place. t place || u place) a c
marks_then choices t u a b c first second = record {
  keeps = second.keeps;
  left = λ place.
      second.left place
      ∙ ap (λ x. x && not (u place)) (first.left place) ∙ and_or (is_left a.left place) (t place) (u place);
  stays = λ section h. second.stays section (first.stays section h);
  put = λ place x at was now.
      elim (cases_Bool (is_left b.left place)) [
        | inl still ↦ second.put place x at still now
        | inr gone ↦ second.stays x.section (first.put place x at was gone)
      ];
  weight = omega (arith, first.weight, second.weight);
}

set_left : (left : List Bool) (place other : ℕ) → IsLeft left place
    → is_left (set left place false) other ≡ (is_left left other && not (place == other))
set_left left place other t =
    elim (cases_eq other place) [
      | inl e ↦
          (let here : is_left (set left place false) place
          ≡ false = get_or-set_same left place false false (left_within left place t) in
          let there : (is_left left place && not (place == place)) ≡ false =
          ap (λ b. is_left left place && not b) (eq-eqb place place refl) ∙ and_no (is_left left place) in
          let P : ℕ → Type 0 = λ o. is_left (set left place false) o ≡ (is_left left o && not (place == o)) in
          subst P (sym e) (here ∙ sym there))
      | inr ne ↦
          get_or-set_other left place other false false ne
          ∙ and_same (is_left left other) (place == other) (λ _. ne_eqb place other (λ e. ne (sym e)))
    ]
  where
    and_no : (b : Bool) → (b && not true) ≡ false
    and_no true = refl
    and_no false = refl

one_less : (left : List Bool) (place : ℕ) → IsLeft left place
    → sum_by (λ mark. cond mark 1 0) (set left place false) + 1 ≡ sum_by (λ mark. cond mark 1 0) left
one_less left place t =
    let f : Bool → ℕ = λ mark. cond mark 1 0 in
    let e = sum_by-set f left place false false (left_within left place t) in
    let one : f (get_or left place false) ≡ 1 = ap f t in
    omega (arith, e, one)

abbrev unmarked : Marking → ℕ → Marking
unmarked m place = record { left = set m.left place false; queue = m.queue; queued = m.queued }

excluded_anew : (choices : List Choice) (m : Marking) (place : ℕ) (c : Choice) → KeepsMarks choices m
    → At choices place c → IsLeft m.left place
    → MarksGo choices (λ other. place == other) m (waiting (unmarked m place) c.section)
excluded_anew choices m place c keeps at t =
    let new : Marking = waiting (unmarked m place) c.section in
    let w : Waited c.section (unmarked m place) new = waited (unmarked m place) c.section (keeps.sections place c at) in
    let left : (other : ℕ) → is_left new.left other ≡ (is_left m.left other && not (place == other)) =
    λ other. ap (λ (l : List Bool). is_left l other) w.left ∙ set_left m.left place other t in
    record {
      keeps = record {
        size = ap (λ (l : List Bool). length l) w.left ∙ length-set m.left place false ∙ keeps.size;
        sections = λ p x h. omega (arith, keeps.sections p x h, w.sections);
        queue = w.queue keeps.queue;
      };
      left = left;
      stays = w.stays;
      put = λ other x h was now.
          elim (cases_eq place other) [
            | inl e ↦
                (let same : At choices other c = ap (slice_get choices) (sym e) ∙ at in
                let P : Choice → Type 0 = λ y. waits new y.section ≡ true in
                subst P (same_choices choices other c x same h) w.here)
            | inr ne ↦
                absurd (false≢true (sym now ∙ left other
                ∙ ap (λ b. is_left m.left other && not b) (ne_eqb place other ne) ∙ ap (λ b. b && true) was))
          ];
      weight = omega
          (arith, one_less m.left place t, w.longer, ap (λ (l : List Bool). sum_by (λ mark. cond mark 1 0) l) w.left);
    }

excluded_goes_of : (choices : List Choice) (m : Marking) (place : ℕ) (c : Choice) → KeepsMarks choices m
    → At choices place c → MarksGo choices (λ other. place == other) m (excluded_of m place c.section)
excluded_goes_of choices m place c keeps at =
    cond_both
    (is_left m.left place) (waiting (unmarked m place) c.section) m (MarksGo choices (λ other. place == other) m)
    (λ t. excluded_anew choices m place c keeps at t)
    (λ f.
    marks_stay choices (λ other. place == other) m keeps
    (λ other h. ne_eqb place other (λ e. both_ways (is_left m.left other) (ap (is_left m.left) (sym e) ∙ f) h)))

-- a place that no choice has isn't left
past_isn't_left : (choices : List Choice) (m : Marking) (place : ℕ) → KeepsMarks choices m
    → slice_get choices place ≡ None → IsLeft m.left place → ⊥
past_isn't_left choices m place keeps none t =
    elim (cases_lt place (length choices)) [
      | inl less ↦ within choices place less none
      | inr past ↦
          (let less = left_within m.left place t in
          let size = keeps.size in
          omega (arith, less, past, size))
    ]
  where
    within : {X : Type 0} (xs : List X) (k : ℕ) → k < length xs → slice_get xs k ≡ None → ⊥
    within [] k less e = omega arith
    within (x ∷ xs) zero less e = cc
    within (x ∷ xs) (suc k) less e = within xs k (omega arith) e

excluded_goes_from : (choices : List Choice) (m : Marking) (place : ℕ) (o : Option Choice) → KeepsMarks choices m
    → slice_get choices place ≡ o → MarksGo choices (λ other. place == other) m (excluded_from m place o)
excluded_goes_from choices m place None keeps at =
    marks_stay choices (λ other. place == other) m keeps
    (λ other h.
    ne_eqb place other (λ e. past_isn't_left choices m other keeps (ap (slice_get choices) (sym e) ∙ at) h))
excluded_goes_from choices m place (Some c) keeps at = excluded_goes_of choices m place c keeps at

pub excluded_each_goes : (choices : List Choice) (m : Marking) (victims : List ℕ) → KeepsMarks choices m
    → MarksGo choices (λ place. list_any (λ victim. victim == place) victims) m (excluded_each choices m victims)
excluded_each_goes choices m [] keeps = marks_stay choices (λ _. false) m keeps (λ place h. refl)
excluded_each_goes choices m (victim ∷ rest) keeps =
    let next : Marking = excluded choices m victim in
    let first : MarksGo choices (λ place. victim == place) m next =
    excluded_goes_from choices m victim (slice_get choices victim) keeps refl in
    marks_then choices (λ place. victim == place) (λ place. list_any (λ v. v == place) rest) m next
    (excluded_each choices next rest) first (excluded_each_goes choices next rest first.keeps)
