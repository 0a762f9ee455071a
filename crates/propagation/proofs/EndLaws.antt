-- What is left where no section waits.
use Rattle.std.proofs.Common.{◌≡◌, ℕ, true, List, [], map, Contains, inl, inr, subst}
use Rattle.propagation.specs.declared.choice.Choice.{Choice}
use Rattle.propagation.specs.Rounds.{remaining, is_among}
use Rattle.propagation.specs.Choices.{AreChoices, choice_rules}
use Rattle.propagation.specs.inside.Engine.{Engine}
use Rattle.propagation.specs.inside.State.{At, IsAlone, IsClosed, State}
use Rattle.propagation.proofs.ListLaws.{Contains-none}
use Rattle.propagation.proofs.RemainLaws.{marks_remaining}

module _ (choices : List Choice) (e : Engine) (state : State choices e) (over : e.marking.queue ≡ []) where
  all_closed : (place : ℕ) (c : Choice) → At choices place c → c.matches ≡ true → IsAlone choices e.marking.left c
      → IsClosed choices e.marking.left c
  all_closed place c at chosen alone =
      elim (state.closed place c at chosen alone) [
        | inl waited ↦
            (let P : List ℕ → Type 0 = λ l. Contains l c.section in
            absurd (Contains-none c.section (subst P over (state.keeps.marks.queue c.section waited))))
        | inr closed ↦ closed
      ]

  pub ended : AreChoices choices → e.marking.left ≡ map (is_among choice_rules (remaining choice_rules choices)) choices
  ended are =
      marks_remaining choices are.order e.marking.left state.matching all_closed state.keeps.marks.size state.sound
