-- What a step of a system comes to, and what is reported of it, part by part, and where the thread stands.
use Rattle.std.specs.Prelude.{◌≡◌, ◌≢◌, ℕ, ◌==◌, Bool, false, List, Option, Some, None, IfSome, IsSomeAnd, is_some}
use Rattle.std.specs.Prelude.{Result, Ok, Err, MatchResult, IfOk}
use Rattle.std.specs.Result.{is_ok}
use Rattle.ks_base.specs.declared.refusals.Refusal.{Refusal}
use Rattle.ia32_step.specs.declared.types.Thread.{Thread}
use Rattle.ia32_step.specs.declared.types.Traced.{Traced}
use Rattle.ia32_step.specs.Step.{store_fault, after_store, stored, fetched_count}
use Rattle.image_threads.specs.Program.{running_at}
use Rattle.splice_jump.specs.declared.phase.Phase.{Phase}
use Rattle.splice_jump.specs.Phases.{open_home}
use Rattle.update_stack.specs.AbstractMachine.{AbstractMachine, contents_of, base_of}
use Rattle.update_stack.specs.StandsFor.{patched}
use Rattle.update_stack.specs.Events.{Step, Stepped, happened, answered, after_event}

-- The machine makes the step. What is reported is what the thread's step writes and how many bytes it fetches in the
-- memory with the jumps. What it wrote can be written in the machine's own memory, and is all that changes there; as
-- many bytes are fetched there, too.
pub record ComesOfStep (old new : AbstractMachine) (thread : ℕ) (result : Result Traced Refusal) : Type 0 where
  pub event : MatchResult result (λ traced. answered old (Step thread) ≡ Ok (happened new (Stepped traced.outcome)))
      (λ refusal. answered old (Step thread) ≡ Err refusal)
  pub written : IfOk result (λ traced. new.pieces ≡ (after_store (contents_of old) traced.store).pieces)
  pub clear : IfOk result (λ traced. store_fault (contents_of old) traced.store ≡ None)
  pub store : IfOk result (λ traced. IsSomeAnd (running_at old.threads thread)
      (λ running. traced.store ≡ stored (patched old) running))
  pub fetched : IfOk result (λ traced. IsSomeAnd (running_at old.threads thread)
      (λ running. traced.fetched ≡ fetched_count (patched old) running))
  pub text : IfOk result (λ traced. IsSomeAnd (running_at old.threads thread)
      (λ running. traced.fetched ≡ fetched_count (contents_of old) running))
  pub after : new ≡ after_event old (Step thread)
  pub runs : is_ok result ≡ is_some (running_at old.threads thread)

-- whether a thread, if there is one, stands at an address
abbrev pub is_at : ℕ → Option Thread → Bool
is_at address None = false
is_at address (Some thread) = thread.pc == address

-- the running thread of a number stands at the home that is open, whose newest version begins at a base
pub record StandsOpen (phase : Phase) (k : AbstractMachine) (thread base : ℕ) : Type 0 where
  pub running : Thread
  pub found : running_at k.threads thread ≡ Some running
  pub opened : open_home phase ≡ Some running.pc
  pub newest : base ≡ base_of k running.pc

-- no home is open at which the running thread of a number stands
abbrev pub StandsAway : Phase → List Thread → ℕ → Type 0
StandsAway phase threads thread =
    IfSome (open_home phase) (λ home. IfSome (running_at threads thread) (λ running. running.pc ≢ home))
