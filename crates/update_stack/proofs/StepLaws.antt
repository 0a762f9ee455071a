-- A thread's step: the program does what the machine does.
use Rattle.std.proofs.Common.{◌≡◌, ℕ, true, false}
use Rattle.std.proofs.Common.{List, map, set, Option, Some, None, Result, Ok, Err}
use Rattle.std.proofs.Common.{MatchResult, OnErr, is_ok, is_some, refl, sym, ◌∙◌, ap, subst}
use Rattle.ks_base.specs.declared.places.Range.{Range}
use Rattle.ks_base.specs.declared.refusals.Refusal.{Refusal}
use Rattle.image_memory.specs.declared.types.Piece.{Piece}
use Rattle.image_memory.specs.Contents.{Contents, fence_range}
use Rattle.ia32_step.specs.declared.types.Thread.{Thread}
use Rattle.ia32_step.specs.declared.types.Outcome.{Outcome}
use Rattle.ia32_step.specs.Step.{Left}
use Rattle.ia32_step.specs.Step.{stepped}
use Rattle.image_threads.specs.Program.{Program, running_at}
use Rattle.image_threads.specs.Stepping.{continued, moved_by as program_moved_by, moved as program_moved}
use Rattle.update_stack.specs.declared.updates.Arena.{Arena}
use Rattle.update_stack.specs.declared.updates.Update.{Update as Shown}
use Rattle.update_stack.specs.declared.updates.Kept.{Kept}
use Rattle.update_stack.specs.AbstractMachine.{AbstractMachine}
use Rattle.update_stack.specs.Steps.{step_in, after_step, moved_by, moved}
use Rattle.update_stack.specs.Jumps.{CanJump, StepsStand, jumped_left}
use Rattle.update_stack.specs.StandsFor.{patched}
use Rattle.update_stack.specs.Events.{Step, Stepped, happened}
use Rattle.update_stack.specs.Events.{step_answered, answered, machine_after, after_event}
use Rattle.update_stack.specs.Systems.{text_of, machine_of, Holds}
use Rattle.update_stack.specs.laws.StackedLaws.{built_sound}
use Rattle.update_stack.specs.laws.StepLaws.{by_step}
use Rattle.update_stack.proofs.HoldsLaws.{Laws, Sound, IsKeptOver, Follows, rows_in, machine_by, sound_of, over_of}
use Rattle.update_stack.proofs.HoldsLaws.{follows_itself, follows_write, holds_again}

-- the laws of steps
abbrev pub AllSteps : Type 0
AllSteps = (k : AbstractMachine) (thread : Thread) → CanJump k → StepsStand k thread

module _ (arena : Arena) (updates : List Shown) (kept : List Kept) where
  -- a program as the machine
  abbrev machine : Program → AbstractMachine
  machine program = machine_of program arena updates kept

  -- what the program leaves and answers, and what the machine does
  abbrev pub Goes : Program → Outcome → Result (AbstractMachine × Outcome) Refusal → Type 0
  Goes new outcome now =
      (now ≡ Ok (machine new, outcome)) × Sound updates kept new.contents × IsKeptOver kept (machine new)

  -- the memory after a step of the machine, with the jumps
  goes_beside : (old : Program) (n : ℕ) (left : Left)
      → Follows updates kept (machine old) old.contents left.contents
      → Goes (continued old n (jumped_left (rows_in updates) left)) left.outcome
      (Ok (after_step (machine old) n left, left.outcome))
  goes_beside old n left follows =
      let new = continued old n (jumped_left (rows_in updates) left) in
      let same : after_step (machine old) n left ≡ machine new =
      ap (λ (ps : List Piece). machine_by new arena updates kept ps (map fence_range old.contents.fences))
      (sym (ap (λ (c : Contents). c.pieces) follows.text))
      ∙ ap (λ (rs : List Range). machine_by new arena updates kept (text_of kept new.contents.pieces) rs)
      (sym (ap (map fence_range) follows.fences)) in (
        ap (λ (k : AbstractMachine). let r : Result (AbstractMachine × Outcome) Refusal = Ok (k, left.outcome) in r)
            same,
        follows.sound,
        subst (IsKeptOver kept) same (follows.over (set old.threads n left.thread)),
      )

  step_goes : Laws → AllSteps → (old : Program) (n : ℕ) (thread : Thread) → Holds old arena updates kept
      → Goes (continued old n (stepped old.contents thread)) (stepped old.contents thread).outcome
      (Ok (
        after_step (machine old) n (step_in (machine old) thread),
        (step_in (machine old) thread).outcome,
      ))
  unfolding patched
  step_goes laws steps old n thread holds =
      let k = machine old in
      let sound = sound_of old arena updates kept holds in
      let over = over_of old arena updates kept holds in
      let left = step_in k thread in
      let same : stepped old.contents thread ≡ jumped_left (rows_in updates) left =
      ap (λ (c : Contents). stepped c thread) sound.stands ∙ steps k thread (built_sound k holds.built).jumps in
      let follows : Follows updates kept k old.contents left.contents =
      by_step (Follows updates kept k old.contents) k
      (follows_itself laws updates kept k old.contents sound over refl)
      (follows_write laws updates kept k old.contents sound over refl) thread in
      let P : Left → Type 0 =
      λ after. Goes (continued old n after) after.outcome (Ok (after_step k n left, left.outcome)) in
      subst P (sym same) (goes_beside old n left follows)

  moved_goes : Laws → AllSteps → (old new : Program) (n : ℕ) (outcome : Outcome) → Holds old arena updates kept
      → program_moved old n ≡ Ok (new, outcome) → Goes new outcome (moved (machine old) n)
  unfolding moved program_moved
  moved_goes laws steps old new n outcome holds is = by_thread (running_at old.threads n) is
    where
      by_thread : (o : Option Thread) → program_moved_by old n o ≡ Ok (new, outcome)
          → Goes new outcome (moved_by (machine old) n o)
      by_thread None is = cc
      by_thread (Some thread) is =
          let left = stepped old.contents thread in
          let pair : Program × Outcome = (continued old n left, left.outcome) in
          let same : pair ≡ (new, outcome) = cc in
          subst (λ (p : Program × Outcome). Goes p.0 p.1 (moved_by (machine old) n (Some thread)))
          same (step_goes laws steps old n thread holds)

  not_moved : (old : Program) (n : ℕ) (refusal : Refusal) → program_moved old n ≡ Err refusal
      → moved (machine old) n ≡ Err refusal
  unfolding moved program_moved
  not_moved old n refusal is = by_thread (running_at old.threads n) is
    where
      by_thread : (o : Option Thread) → program_moved_by old n o ≡ Err refusal
          → moved_by (machine old) n o ≡ Err refusal
      by_thread None is = cc
      by_thread (Some thread) is = cc

  -- what a call of the program gave
  abbrev HasMoved : (old new : Program) (n : ℕ) → Result Outcome Refusal → Type 0
  HasMoved old new n result =
      MatchResult result (λ outcome. program_moved old n ≡ Ok (new, outcome))
      (λ refusal. program_moved old n ≡ Err refusal)

  pub step_holds : Laws → AllSteps → (old new : Program) (n : ℕ) (result : Result Outcome Refusal)
      → Holds old arena updates kept → HasMoved old new n result → OnErr result (new ≡ old)
      → Holds new arena updates kept
  step_holds laws steps old new n (Ok outcome) holds is same =
      let goes = moved_goes laws steps old new n outcome holds is in
      holds_again new arena updates kept holds.paired goes.1 goes.2
  step_holds laws steps old new n (Err refusal) holds is same =
      subst (λ (p : Program). Holds p arena updates kept) (sym same) holds

  pub step_seen : Laws → AllSteps → (old new : Program) (n : ℕ) (result : Result Outcome Refusal)
      → Holds old arena updates kept → HasMoved old new n result
      → MatchResult result
      (λ outcome. answered (machine old) (Step n)
      ≡ Ok (happened (machine new) (Stepped outcome)))
      (λ refusal. answered (machine old) (Step n) ≡ Err refusal)
  unfolding answered
  step_seen laws steps old new n (Ok outcome) holds is =
      ap step_answered (moved_goes laws steps old new n outcome holds is).0
  step_seen laws steps old new n (Err refusal) holds is = ap step_answered (not_moved old n refusal is)

  pub stepped_after : Laws → AllSteps → (old new : Program) (n : ℕ) (result : Result Outcome Refusal)
      → Holds old arena updates kept → HasMoved old new n result → OnErr result (new ≡ old)
      → machine new ≡ after_event (machine old) (Step n)
  unfolding after_event
  stepped_after laws steps old new n (Ok outcome) holds is same =
      sym (ap (machine_after (machine old))
      (step_seen laws steps old new n (Ok outcome) holds is))
  stepped_after laws steps old new n (Err refusal) holds is same =
      ap (λ (p : Program). machine p) same
      ∙ sym (ap (machine_after (machine old))
      (step_seen laws steps old new n (Err refusal) holds is))

-- whether there is a running thread of the number
pub step_runs : (old new : Program) (n : ℕ) (result : Result Outcome Refusal)
    → MatchResult result (λ outcome. program_moved old n ≡ Ok (new, outcome))
    (λ refusal. program_moved old n ≡ Err refusal)
    → is_ok result ≡ is_some (running_at old.threads n)
unfolding program_moved
step_runs old new n (Ok outcome) is = there (running_at old.threads n) is
  where
    there : (o : Option Thread) → program_moved_by old n o ≡ Ok (new, outcome) → true ≡ is_some o
    there None is = cc
    there (Some thread) is = refl
step_runs old new n (Err refusal) is = none (running_at old.threads n) is
  where
    none : (o : Option Thread) → program_moved_by old n o ≡ Err refusal → false ≡ is_some o
    none None is = refl
    none (Some thread) is = cc
