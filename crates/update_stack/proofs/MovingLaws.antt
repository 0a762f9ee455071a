-- What a thread's start and its step leave: what is so after each write of data that has no fault.
use Rattle.std.proofs.Common.{◌≡◌, ℕ, Bool, true, false, if◌then◌else◌, nat_le, List, [], ◌∷◌, ◌++◌, length, get_or, set}
use Rattle.std.proofs.Common.{Option, Some, None, Result, Ok, Err, Contains, IfSome, refl, subst, arith, inr}
use Rattle.std.specs.List.{All}
use Rattle.std.proofs.lemmas.List.Folds.{map_fixed}
use Rattle.ks_base.specs.declared.places.Range.{Range}
use Rattle.ks_base.specs.declared.refusals.Refusal.{Refusal}
use Rattle.ks_base.specs.declared.refusals.Refusal.TheVariants.{TooManyThreads}
use Rattle.image_memory.specs.declared.types.Piece.{Piece}
use Rattle.image_memory.specs.Contents.{Contents}
use Rattle.image_memory.specs.Access.{first_fault, write_fault, overlaid_piece, written}
use Rattle.image_memory.specs.laws.AccessLaws.{piece_apart}
use Rattle.ia32_step.specs.declared.types.Outcome.{Outcome}
use Rattle.ia32_step.specs.declared.types.Thread.{Thread}
use Rattle.image_threads.specs.Program.{IsStackRange, running_at}
use Rattle.image_threads.specs.Spawning.{started, started_at, started_on, free_stack, first_bytes, first_thread}
use Rattle.image_threads.specs.laws.StackLaws.{stack_listed}
use Rattle.symbol_table.specs.Symbols.{function_named}
use Rattle.update_stack.specs.AbstractMachine.{AbstractMachine, contents_of}
use Rattle.update_stack.specs.Steps.{step_in, moved_by, moved, after_start, spawned}
use Rattle.update_stack.specs.Events.{Spawned, Stepped, Happened, happened, spawn_answered, step_answered}
use Rattle.update_stack.specs.Stacked.{IsSound}
use Rattle.update_stack.specs.laws.StepLaws.{by_step}
use Rattle.update_stack.proofs.BuiltLaws.{wrote}
use Rattle.update_stack.proofs.WriteLaws.{stack_clear}

-- Something is so of the machine after each write that has no fault, whatever its threads; what is so of an answer where
-- it is so of the machine that is left, and where the answer is a refusal, is so of what a start and a step answer.
module _ (k : AbstractMachine) (sound : IsSound k) (bounds : All IsStackRange k.stacks) (P : AbstractMachine → Type 0)
    (writes : (start : ℕ) (bytes : List ℕ) (threads : List Thread)
    → first_fault (write_fault k.pieces) start (length bytes) ≡ None → P (wrote start bytes threads k))
    (Q : Result Happened Refusal → Type 0) (refused : (refusal : Refusal) → Q (Err refusal))
    (spawns : (number : ℕ) (m : AbstractMachine) → P m → Q (Ok (happened m (Spawned number))))
    (steps : (outcome : Outcome) (m : AbstractMachine) → P m → Q (Ok (happened m (Stepped outcome)))) where
  no_fault : first_fault (write_fault k.pieces) 0 0 ≡ None
  unfolding first_fault
  no_fault = refl

  goes_on : (threads : List Thread) → P (record k { threads = threads })
  goes_on threads =
      let same : written 0 [] k.pieces ≡ k.pieces =
      map_fixed (overlaid_piece 0 []) k.pieces
      (λ i d l. piece_apart 0 [] (get_or k.pieces i d) (inr (omega arith))) in
      subst (λ (ps : List Piece). let m : AbstractMachine = record k { pieces = ps; threads = threads } in P m)
      same (writes 0 [] threads no_fault)

  -- the machine with memory that a step leaves
  abbrev With : Contents → Type 0
  With contents = (threads : List Thread) →
      let m : AbstractMachine = record k { pieces = contents.pieces; threads = threads } in P m

  step_leaves : (thread : Thread) → With (step_in k thread).contents
  step_leaves = by_step With k goes_on (λ start bytes clear threads. writes start bytes threads clear)

  pub moved_leaves : (n : ℕ) → Q (step_answered (moved k n))
  unfolding moved
  moved_leaves n = by_thread (running_at k.threads n)
    where
      by_thread : (o : Option Thread) → Q (step_answered (moved_by k n o))
      by_thread None = refused _
      by_thread (Some thread) =
          steps (step_in k thread).outcome _ (step_leaves thread (set k.threads n (step_in k thread).thread))

  pub spawned_leaves : (name : List ℕ) (argument n : ℕ) → Q (spawn_answered n (spawned k name argument))
  unfolding spawned started
  spawned_leaves name argument n = by_place (function_named k.symbols name)
    where
      on_stack : (pc : ℕ) (o : Option Range) → IfSome o (Contains k.stacks)
          → Q (spawn_answered n (after_start k (started_on k.pieces k.threads pc argument o)))
      on_stack pc None listed = refused _
      on_stack pc (Some stack) listed =
          spawns n _ (writes stack.low (first_bytes stack argument)
          (k.threads ++ first_thread (length k.threads) stack pc ∷ [])
          (stack_clear (contents_of k) k.stacks stack argument sound.jumps.valid bounds sound.stacks listed))

      by_count : (pc : ℕ) (full : Bool)
          → Q (spawn_answered n (after_start k (if full then Err TooManyThreads
          else started_on k.pieces k.threads pc argument (free_stack k.stacks k.threads))))
      by_count pc true = refused _
      by_count pc false =
          on_stack pc (free_stack k.stacks k.threads)
          (stack_listed k.stacks k.threads (free_stack k.stacks k.threads) refl)

      by_place : (pc : Result ℕ Refusal)
          → Q (spawn_answered n (after_start k (started_at k.pieces k.stacks k.threads argument pc)))
      by_place (Err refusal) = refused _
      by_place (Ok pc) = by_count pc (nat_le 4096 (length k.threads))
