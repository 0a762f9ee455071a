-- Laws of choices that clash with some others.
use Rattle.std.proofs.Common.{◌≡◌, ℕ, ◌<◌, Bool, true, false, not, ◌&&◌, List, [], ◌∷◌, Option}
use Rattle.std.proofs.Common.{Some, None, IfNone, IfSome, slice_get, refl, sym, ◌∙◌, inl, inr, fold}
use Rattle.std.proofs.lemmas.Bool.{cases_Bool, cond_both, and_parts, and_from, not-true}
use Rattle.std.proofs.lemmas.Bool.{not_from_false, both_ways, false_from_ne_true}
use Rattle.propagation.specs.declared.choice.Choice.{Choice}
use Rattle.propagation.specs.Choices.{AreChoices, clash}
use Rattle.propagation.specs.inside.Engine.{Engine, is_left, carried_out, carried_if, carried_at}
use Rattle.propagation.specs.inside.State.{At, IsLeft, Keeps}
use Rattle.propagation.specs.inside.Striking.{clash_at, is_struck, AreApart, AreMarkedMatching, FirstStruck}
use Rattle.propagation.specs.inside.Striking.FirstStruck.{NotAny, First}
use Rattle.propagation.proofs.ListLaws.{Contains-here, Contains-there}
use Rattle.propagation.proofs.EngineLaws.{Goes, goes_stay, goes_then, goes_fewer}
use Rattle.propagation.proofs.CarryLaws.{clash_of, carried_out_goes}
use Rattle.propagation.proofs.RunLaws.{is_choice}

module _ (choices : List Choice) (are : AreChoices choices) where
  struck_by_one : (e : Engine) (place : ℕ) (o : Option Choice) → slice_get choices place ≡ o → Keeps choices e
      → AreMarkedMatching choices e.marking.left
      → ((c : Choice) → At choices place c
      → (other : ℕ) (x : Choice) → At choices other x → IsLeft e.marking.left other → x.section ≡ c.section → ⊥)
      → Goes choices (λ c. clash_at c o) e (carried_if choices e o)
  struck_by_one e place None at keeps matching apart = goes_stay choices (λ _. false) e keeps (λ p c there t. refl)
  struck_by_one e place (Some c) at keeps matching apart =
      cond_both c.matches (carried_out choices e c) e (Goes choices (λ x. clash x c) e)
      (λ chosen.
      carried_out_goes choices e c (is_choice choices are place c at).agree chosen matching
      (λ p other there t same. absurd (apart c at p other there t same)) keeps)
      (λ never.
      goes_stay choices (λ x. clash x c) e keeps
      (λ p x there t. false_from_ne_true (clash x c) (λ h. both_ways c.matches never (clash_of x c h).second)))

  struck_at : (e : Engine) (place : ℕ) → Keeps choices e → AreMarkedMatching choices e.marking.left
      → ((c : Choice) → At choices place c
      → (other : ℕ) (x : Choice) → At choices other x → IsLeft e.marking.left other → x.section ≡ c.section → ⊥)
      → Goes choices (λ c. clash_at c (slice_get choices place)) e (carried_at choices e place)
  unfolding carried_at
  struck_at e place keeps matching apart = struck_by_one e place (slice_get choices place) refl keeps matching apart

  pub struck_each : (e : Engine) (by : List ℕ) → Keeps choices e → AreMarkedMatching choices e.marking.left
      → AreApart choices e.marking.left by → Goes choices (is_struck choices by) e (fold (carried_at choices) e by)
  struck_each e [] keeps matching apart = goes_stay choices (λ _. false) e keeps (λ p c there t. refl)
  struck_each e (place ∷ rest) keeps matching apart =
      let test : Choice → Bool = λ c. clash_at c (slice_get choices place) in
      let next : Engine = carried_at choices e place in
      let first : Goes choices test e next =
      struck_at e place keeps matching (λ c at. apart place c (Contains-here place rest) at) in
      let fewer = goes_fewer choices test e next first in
      goes_then choices test (is_struck choices rest) e next (fold (carried_at choices) next rest) first
      (struck_each next rest first.keeps (λ p c at t. matching p c at (fewer p c at t))
      (λ p c h at other x there t. apart p c (Contains-there place p rest h) at other x there (fewer other x there t)))

-- what is lost first is struck first
pub first_is : (choices : List Choice) (marks rest : List Bool) (by : List ℕ) (first : Option ℕ)
    → ((place : ℕ) (c : Choice)
    → At choices place c → is_left rest place ≡ (is_left marks place && not (is_struck choices by c)))
    → IfNone first ((place : ℕ) → is_left marks place ≡ true → is_left rest place ≡ true)
    → IfSome first (λ place. is_left marks place ≡ true) → IfSome first (λ place. is_left rest place ≡ false)
    → IfSome first (λ place. (k : ℕ) → k < place → is_left marks k ≡ true → is_left rest k ≡ true)
    → FirstStruck choices marks by first
first_is choices marks rest by None goes none lost gone before =
    NotAny
    (λ place c at t.
    not-true (is_struck choices by c)
    (and_parts (is_left marks place) (not (is_struck choices by c)) (sym (goes place c at) ∙ none place t)).1)
first_is choices marks rest by (Some place) goes none lost gone before =
    First place lost
    (λ c at.
    elim (cases_Bool (is_struck choices by c)) [
      | inl t ↦ t
      | inr f ↦
          absurd (both_ways (is_left rest place) gone (goes place c at ∙ and_from
          (is_left marks place) (not (is_struck choices by c)) lost (not_from_false (is_struck choices by c) f)))
    ])
    (λ k c less at t.
    not-true (is_struck choices by c)
    (and_parts (is_left marks k) (not (is_struck choices by c)) (sym (goes k c at) ∙ before k less t)).1)
