-- A step of a thread that is none of the program's: the machine makes the same.
use Rattle.std.proofs.Common.{◌≡◌, List, map, refl, sym, ◌∙◌, ap, subst}
use Rattle.ks_base.specs.declared.places.Range.{Range}
use Rattle.image_memory.specs.declared.types.Piece.{Piece}
use Rattle.image_memory.specs.Contents.{Contents, Room, fence_range}
use Rattle.ia32_step.specs.declared.types.Thread.{Thread}
use Rattle.ia32_step.specs.declared.types.Outcome.{Outcome}
use Rattle.ia32_step.specs.Step.{Left, left_by, stepped}
use Rattle.image_threads.specs.Program.{Program}
use Rattle.splice_jump.specs.Jumps.{jumped_memory}
use Rattle.update_stack.specs.declared.updates.Arena.{Arena}
use Rattle.update_stack.specs.declared.updates.Update.{Update as Shown}
use Rattle.update_stack.specs.declared.updates.Kept.{Kept}
use Rattle.update_stack.specs.AbstractMachine.{AbstractMachine}
use Rattle.update_stack.specs.Jumps.{jumped_left}
use Rattle.update_stack.specs.Scratch.{after_aside}
use Rattle.update_stack.specs.StandsFor.{patched}
use Rattle.update_stack.specs.Steps.{step_in}
use Rattle.update_stack.specs.Systems.{text_of, machine_of, Holds}
use Rattle.update_stack.specs.laws.StackedLaws.{built_sound}
use Rattle.update_stack.specs.laws.StepLaws.{by_step}
use Rattle.update_stack.proofs.HoldsLaws.{Laws, IsKeptOver, Follows, rows_in, machine_by, sound_of, over_of}
use Rattle.update_stack.proofs.HoldsLaws.{follows_itself, follows_write, holds_again}
use Rattle.update_stack.proofs.StepLaws.{AllSteps}

module _ (laws : Laws) (steps : AllSteps) (arena : Arena) (updates : List Shown) (kept : List Kept) (old : Program)
    (thread : Thread) (holds : Holds old arena updates kept) where
  abbrev k : AbstractMachine
  k = machine_of old arena updates kept

  abbrev left : Left
  left = step_in k thread

  -- what it leaves of the system, and what it comes to
  pub record StepsAside (new : Program) (after : Thread) (outcome : Outcome) : Type 0 where
    pub holds_now : Holds new arena updates kept
    pub machine_is : machine_of new arena updates kept ≡ after_aside k left
    pub thread_is : after ≡ left.thread
    pub outcome_is : outcome ≡ left.outcome

  follows : Follows updates kept k old.contents left.contents
  follows =
      let sound = sound_of old arena updates kept holds in
      let over = over_of old arena updates kept holds in
      by_step (Follows updates kept k old.contents) k
      (follows_itself laws updates kept k old.contents sound over refl)
      (follows_write laws updates kept k old.contents sound over refl) thread

  same_step : stepped old.contents thread ≡ jumped_left (rows_in updates) left
  unfolding patched
  same_step =
      let sound = sound_of old arena updates kept holds in
      ap (λ (c : Contents). stepped c thread) sound.stands ∙ steps k thread (built_sound k holds.built).jumps

  abbrev beside : Program
  beside = record old { contents = jumped_memory (rows_in updates) left.contents }

  same_machine : after_aside k left ≡ machine_of beside arena updates kept
  same_machine =
      ap (λ (ps : List Piece). machine_by beside arena updates kept ps (map fence_range old.contents.fences))
      (sym (ap (λ (c : Contents). c.pieces) follows.text))
      ∙ ap (λ (rs : List Range). machine_by beside arena updates kept (text_of kept beside.contents.pieces) rs)
      (sym (ap (map fence_range) follows.fences))

  pub steps_aside : (contents : Contents) (room : Room) (after : Thread) (outcome : Outcome)
      → left_by contents after outcome ≡ stepped old.contents thread → room ≡ old.room
      → StepsAside (record old { contents = contents; room = room }) after outcome
  steps_aside contents room after outcome is rooms =
      let all : left_by contents after outcome ≡ jumped_left (rows_in updates) left = is ∙ same_step in
      let memory : contents ≡ jumped_memory (rows_in updates) left.contents = ap (λ (l : Left). l.contents) all in
      let new : record old { contents = contents; room = room } ≡ beside =
      λ i. record old { contents = memory i; room = rooms i } in
      let there : Holds beside arena updates kept =
      holds_again beside arena updates kept holds.paired follows.sound
      (subst (IsKeptOver kept) same_machine (follows.over k.threads)) in
      record {
        holds_now = subst (λ (p : Program). Holds p arena updates kept) (sym new) there;
        machine_is = ap (λ (p : Program). machine_of p arena updates kept) new ∙ sym same_machine;
        thread_is = ap (λ (l : Left). l.thread) all;
        outcome_is = ap (λ (l : Left). l.outcome) all;
      }
