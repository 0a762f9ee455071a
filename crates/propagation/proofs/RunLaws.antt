-- Laws of several choices carried out.
use Rattle.std.proofs.Common.{◌≡◌, ℕ, ◌≤◌, Bool, true, false, not, List, [], ◌∷◌, Contains, Option}
use Rattle.std.proofs.Common.{Some, None, slice_get, refl, sym, ◌∙◌, ap, subst, inl, inr, arith, fold}
use Rattle.std.proofs.lemmas.Bool.{cases_Bool, cond_both, and_from, not_from_false, both_ways, false_from_ne_true}
use Rattle.propagation.specs.declared.choice.Choice.{Choice}
use Rattle.propagation.specs.Choices.{IsChoice, clash, AreChoices}
use Rattle.propagation.specs.inside.Engine.{Engine, is_left, carried_out, carried_if, carried_at}
use Rattle.propagation.specs.inside.State.{At, IsLeft, Keeps, IsAlone, IsClosed, waits, weight}
use Rattle.propagation.proofs.ListLaws.{Contains-none, Contains-here, Contains-there, Contains-cases, contains_place}
use Rattle.propagation.proofs.MarkLaws.{same_choices}
use Rattle.propagation.proofs.EngineLaws.{Goes, Fewer, goes_fewer, goes_passed}
use Rattle.propagation.proofs.CarryLaws.{carried_out_goes}
use Rattle.propagation.proofs.RemainLaws.{IsSound, clashing_goes}

-- a state goes on to another
pub record Onward (choices : List Choice) (old new : Engine) : Type 0 where
  pub keeps : Keeps choices new
  pub fewer : Fewer choices old.marking.left new.marking.left
  pub stays : (section : ℕ) → waits old.marking section ≡ true → waits new.marking section ≡ true
  pub put : (place : ℕ) (c : Choice) → At choices place c → IsLeft old.marking.left place
      → is_left new.marking.left place ≡ false → waits new.marking c.section ≡ true
  pub weight : weight new.marking ≤ weight old.marking
  pub sound : IsSound choices old.marking.left → IsSound choices new.marking.left

pub onward_same : (choices : List Choice) (e : Engine) → Keeps choices e → Onward choices e e
onward_same choices e keeps = record {
  keeps = keeps;
  fewer = λ place c at t. t;
  stays = λ section t. t;
  put = λ place c at t f. absurd (both_ways _ f t);
  weight = omega arith;
  sound = λ s. s;
}

pub onward_then : (choices : List Choice) (a b c : Engine) → Onward choices a b → Onward choices b c
    → Onward choices a c
onward_then choices a b c first second = record {
  keeps = second.keeps;
  fewer = λ place x at t. first.fewer place x at (second.fewer place x at t);
  stays = λ section h. second.stays section (first.stays section h);
  put = λ place x at was now.
      elim (cases_Bool (is_left b.marking.left place)) [
        | inl still ↦ second.put place x at still now
        | inr gone ↦ second.stays x.section (first.put place x at was gone)
      ];
  weight = omega (arith, first.weight, second.weight);
  sound = λ s. second.sound (first.sound s);
}

abbrev pub AreMatching : List Choice → Engine → Type 0
AreMatching choices e =
    (place : ℕ) (c : Choice) → At choices place c → IsLeft e.marking.left place → c.matches ≡ true

pub matching_fewer : (choices : List Choice) (a b : Engine) → Fewer choices a.marking.left b.marking.left
    → AreMatching choices a → AreMatching choices b
matching_fewer choices a b fewer matching place c at t = matching place c at (fewer place c at t)

pub alone_fewer : (choices : List Choice) (old new : List Bool) (c : Choice) → Fewer choices old new
    → IsAlone choices old c → IsAlone choices new c
alone_fewer choices old new c fewer alone place other at t section =
    alone place other at (fewer place other at t) section

pub closed_fewer : (choices : List Choice) (old new : List Bool) (c : Choice) → Fewer choices old new
    → IsClosed choices old c → IsClosed choices new c
closed_fewer choices old new c fewer closed place other at t = closed place other at (fewer place other at t)

module _ (choices : List Choice) (are : AreChoices choices) where
  pub is_choice : (place : ℕ) (c : Choice) → At choices place c → IsChoice c
  is_choice place c at =
      let h = contains_place choices place c at in
      let P : Choice → Type 0 = IsChoice in
      subst P h.2 (are.each h.0 c h.1)

  -- one carried out
  record Carried (place : ℕ) (old new : Engine) : Type 0 where
    onward : Onward choices old new
    closed : (c : Choice) → At choices place c → c.matches ≡ true → IsClosed choices new.marking.left c

  carried_out_onward : (e : Engine) (place : ℕ) (c : Choice) → Keeps choices e → AreMatching choices e
      → IsSound choices e.marking.left → At choices place c → c.matches ≡ true → IsAlone choices e.marking.left c
      → Carried place e (carried_out choices e c)
  carried_out_onward e place c keeps matching sound at chosen alone =
      let new : Engine = carried_out choices e c in
      let goes : Goes choices (λ other. clash other c) e new =
      carried_out_goes choices e c (is_choice place c at).agree chosen matching alone keeps in
      record {
        onward = record {
          keeps = goes.keeps;
          fewer = goes_fewer choices (λ other. clash other c) e new goes;
          stays = goes.stays;
          put = goes.put;
          weight = goes.weight;
          sound = λ s k other there rest.
              (let none = false_from_ne_true (clash other c)
              (λ t. clashing_goes choices are.order e.marking.left sound place c at alone other t rest) in
              goes.left k other there ∙ and_from (is_left e.marking.left k)
              (not (clash other c)) (s k other there rest) (not_from_false (clash other c) none));
        };
        closed = λ x there matches.
            (let P : Choice → Type 0 = IsClosed choices new.marking.left in
            subst P (same_choices choices place c x at there)
            (λ k other here t. goes_passed choices (λ y. clash y c) e new goes k other here t));
      }

  carried_if_onward : (e : Engine) (place : ℕ) (o : Option Choice) → Keeps choices e → AreMatching choices e
      → IsSound choices e.marking.left → slice_get choices place ≡ o
      → ((c : Choice) → At choices place c → IsAlone choices e.marking.left c)
      → Carried place e (carried_if choices e o)
  carried_if_onward e place None keeps matching sound at alone =
      record {
        onward = onward_same choices e keeps;
        closed = λ c there t. (let no : None ≡ Some c = sym at ∙ there in cc);
      }
  carried_if_onward e place (Some c) keeps matching sound at alone =
      cond_both c.matches (carried_out choices e c) e (Carried place e)
      (λ chosen. carried_out_onward e place c keeps matching sound at chosen (alone c at))
      (λ never. record {
        onward = onward_same choices e keeps;
        closed = λ x there t.
            (let P : Choice → Type 0 = λ y. y.matches ≡ true in
            absurd (both_ways c.matches never (subst P (sym (same_choices choices place c x at there)) t)));
      })

  carried_at_onward : (e : Engine) (place : ℕ) → Keeps choices e → AreMatching choices e
      → IsSound choices e.marking.left → ((c : Choice) → At choices place c → IsAlone choices e.marking.left c)
      → Carried place e (carried_at choices e place)
  unfolding carried_at
  carried_at_onward e place keeps matching sound alone =
      carried_if_onward e place (slice_get choices place) keeps matching sound refl alone

  -- each of some places carried out
  pub record CarriedEach (places : List ℕ) (old new : Engine) : Type 0 where
    pub onward : Onward choices old new
    pub closed : (place : ℕ) → Contains places place → (c : Choice) → At choices place c → c.matches ≡ true
        → IsClosed choices new.marking.left c

  pub carried_each : (e : Engine) (places : List ℕ) → Keeps choices e → AreMatching choices e
      → IsSound choices e.marking.left
      → ((place : ℕ) → Contains places place → (c : Choice) → At choices place c → IsAlone choices e.marking.left c)
      → CarriedEach places e (fold (carried_at choices) e places)
  carried_each e [] keeps matching sound alone =
      record { onward = onward_same choices e keeps; closed = λ place h. absurd (Contains-none place h) }
  carried_each e (first ∷ rest) keeps matching sound alone =
      let next : Engine = carried_at choices e first in
      let last : Engine = fold (carried_at choices) next rest in
      let one : Carried first e next =
      carried_at_onward e first keeps matching sound (alone first (Contains-here first rest)) in
      let fewer = one.onward.fewer in
      let others : CarriedEach rest next last = carried_each next rest one.onward.keeps
      (matching_fewer choices e next fewer matching) (one.onward.sound sound) (λ place h c at. alone_fewer
      choices e.marking.left next.marking.left c fewer (alone place (Contains-there first place rest h) c at)) in
      record {
        onward = onward_then choices e next last one.onward others.onward;
        closed = λ place h c at t.
            elim (Contains-cases first place rest h) [
              | inl same ↦
                  closed_fewer choices next.marking.left last.marking.left c others.onward.fewer
                  (one.closed c (ap (slice_get choices) same ∙ at) t)
              | inr later ↦ others.closed place later c at t
            ];
      }
