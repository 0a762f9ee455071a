-- Laws of choices excluded by a test of what they are.
use Rattle.std.proofs.Common.{◌≡◌, ℕ, ◌≤◌, Bool, true, false, not, ◌&&◌, ◌||◌}
use Rattle.std.proofs.Common.{List, Option, sym, ◌∙◌, ap, inl, inr, arith}
use Rattle.std.proofs.lemmas.Bool.{cases_Bool, and_parts, not-true, both_ways}
use Rattle.propagation.specs.declared.choice.Choice.{Choice}
use Rattle.propagation.specs.declared.tables.Entry.{Entry}
use Rattle.propagation.specs.inside.Engine.{Marking, Engine, is_left}
use Rattle.propagation.specs.inside.State.{At, IsLeft, KeepsClaims, KeepsMembers, KeepsDemands, Keeps, waits, weight}
use Rattle.propagation.proofs.MarkLaws.{MarksGo, and_same, and_or, and_like}

pub record Goes (choices : List Choice) (test : Choice → Bool) (old new : Engine) : Type 0 where
  pub keeps : Keeps choices new
  pub left : (place : ℕ) (c : Choice) → At choices place c
      → is_left new.marking.left place ≡ (is_left old.marking.left place && not (test c))
  pub stays : (section : ℕ) → waits old.marking section ≡ true → waits new.marking section ≡ true
  pub put : (place : ℕ) (c : Choice) → At choices place c → IsLeft old.marking.left place
      → is_left new.marking.left place ≡ false → waits new.marking c.section ≡ true
  pub weight : weight new.marking ≤ weight old.marking

-- what is left is fewer
abbrev pub Fewer : List Choice → List Bool → List Bool → Type 0
Fewer choices old new = (place : ℕ) (c : Choice) → At choices place c → IsLeft new place → IsLeft old place

pub goes_fewer : (choices : List Choice) (test : Choice → Bool) (a b : Engine) → Goes choices test a b
    → Fewer choices a.marking.left b.marking.left
goes_fewer choices test a b goes place c at t =
    (and_parts (is_left a.marking.left place) (not (test c)) (sym (goes.left place c at) ∙ t)).0

pub goes_passed : (choices : List Choice) (test : Choice → Bool) (a b : Engine) → Goes choices test a b
    → (place : ℕ) (c : Choice) → At choices place c → IsLeft b.marking.left place → test c ≡ false
goes_passed choices test a b goes place c at t =
    not-true (test c) (and_parts (is_left a.marking.left place) (not (test c)) (sym (goes.left place c at) ∙ t)).1

pub goes_stay : (choices : List Choice) (test : Choice → Bool) (e : Engine) → Keeps choices e
    → ((place : ℕ) (c : Choice) → At choices place c → IsLeft e.marking.left place → test c ≡ false)
    → Goes choices test e e
goes_stay choices test e keeps none = record {
  keeps = keeps;
  left = λ place c at. and_same (is_left e.marking.left place) (test c) (none place c at);
  stays = λ section t. t;
  put = λ place c at t f. absurd (both_ways _ f t);
  weight = omega arith;
}

pub goes_then : (choices : List Choice) (t u : Choice → Bool) (a b c : Engine) → Goes choices t a b → Goes choices u b c
    → Goes choices (λ x. t x || u x) a c
goes_then choices t u a b c first second = record {
  keeps = second.keeps;
  left = λ place x at.
      second.left place x at
      ∙ ap (λ y. y && not (u x)) (first.left place x at) ∙ and_or (is_left a.marking.left place) (t x) (u x);
  stays = λ section h. second.stays section (first.stays section h);
  put = λ place x at was now.
      elim (cases_Bool (is_left b.marking.left place)) [
        | inl still ↦ second.put place x at still now
        | inr gone ↦ second.stays x.section (first.put place x at was gone)
      ];
  weight = omega (arith, first.weight, second.weight);
}

pub goes_like : (choices : List Choice) (t u : Choice → Bool) (a b : Engine) → Goes choices t a b
    → ((place : ℕ) (c : Choice) → At choices place c → IsLeft a.marking.left place → t c ≡ u c) → Goes choices u a b
goes_like choices t u a b goes like = record {
  keeps = goes.keeps;
  left = λ place c at.
      goes.left place c at ∙ and_like (is_left a.marking.left place) (t c) (u c) (like place c at);
  stays = goes.stays;
  put = goes.put;
  weight = goes.weight;
}

-- by a test of places
pub marks_fewer : (choices : List Choice) (t : ℕ → Bool) (a b : Marking) → MarksGo choices t a b
    → Fewer choices a.left b.left
marks_fewer choices t a b go place c at h =
    (and_parts (is_left a.left place) (not (t place)) (sym (go.left place) ∙ h)).0

pub marks_passed : (choices : List Choice) (t : ℕ → Bool) (a b : Marking) → MarksGo choices t a b → (place : ℕ)
    → IsLeft b.left place → t place ≡ false
marks_passed choices t a b go place h =
    not-true (t place) (and_parts (is_left a.left place) (not (t place)) (sym (go.left place) ∙ h)).1

pub goes_from : (choices : List Choice) (t : ℕ → Bool) (test : Choice → Bool) (a b : Engine)
    → MarksGo choices t a.marking b.marking
    → ((place : ℕ) (c : Choice) → At choices place c → IsLeft a.marking.left place → t place ≡ test c)
    → KeepsClaims choices b.marking.left b.claims b.fixed → KeepsMembers choices b.marking.left b.members b.asked
    → KeepsDemands choices b.marking.left b.numbers b.makers → Goes choices test a b
goes_from choices t test a b go same claims members demands = record {
  keeps = record { marks = go.keeps; claims = claims; members = members; demands = demands };
  left = λ place c at.
      go.left place ∙ and_like (is_left a.marking.left place) (t place) (test c) (same place c at);
  stays = go.stays;
  put = go.put;
  weight = go.weight;
}

-- ---- what is kept of fewer that are left
pub claims_fewer : (choices : List Choice) (old new : List Bool) (table : List (List Entry)) (known : List (Option ℕ))
    → Fewer choices old new → KeepsClaims choices old table known → KeepsClaims choices new table known
claims_fewer choices old new table known fewer keeps = record {
  complete = λ place c claim at t. keeps.complete place c claim at (fewer place c at t);
  sound = keeps.sound;
  fixed = λ unknown value is place c claim at t. keeps.fixed unknown value is place c claim at (fewer place c at t);
}

pub members_fewer : (choices : List Choice) (old new : List Bool) (table : List (List ℕ)) (known : List (Option ℕ))
    → Fewer choices old new → KeepsMembers choices old table known → KeepsMembers choices new table known
members_fewer choices old new table known fewer keeps = record {
  complete = λ place c at t. keeps.complete place c at (fewer place c at t);
  sound = keeps.sound;
  asked = λ number section is place c at t. keeps.asked number section is place c at (fewer place c at t);
}

pub demands_fewer : (choices : List Choice) (old new : List Bool) (listed : List (List ℕ)) (table : List (List Entry))
    → Fewer choices old new → KeepsDemands choices old listed table → KeepsDemands choices new listed table
demands_fewer choices old new listed table fewer keeps = record {
  numbers = λ place c demand at t. keeps.numbers place c demand at (fewer place c at t);
  makers = λ place c demand at t. keeps.makers place c demand at (fewer place c at t);
  sound = keeps.sound;
}
