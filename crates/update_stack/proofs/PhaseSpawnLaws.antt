-- A thread's start in any phase: the program does what the machine does, as the same program does with all its jumps.
use Rattle.std.proofs.Common.{◌≡◌, ◌≢◌, ℕ, Bool, true, false, if◌then◌else◌, nat_le, List, ◌∷◌, [], ◌++◌, length}
use Rattle.std.proofs.Common.{Contains, Option, Some, None, Result, Ok, Err, MatchResult, OnErr, IfSome}
use Rattle.std.proofs.Common.{refl, sym, ◌∙◌, ap, subst}
use Rattle.std.specs.List.{All}
use Rattle.ks_base.specs.declared.places.Range.{Range}
use Rattle.ks_base.specs.declared.refusals.Refusal.{Refusal}
use Rattle.ks_base.specs.declared.refusals.Refusal.TheVariants.{Memory, TooManyThreads}
use Rattle.image_memory.specs.Contents.{Contents}
use Rattle.image_memory.specs.Access.{after_write}
use Rattle.image_threads.specs.Program.{Program, IsStackRange}
use Rattle.image_threads.specs.Spawning.{started, started_at, started_on, with_started, free_stack}
use Rattle.image_threads.specs.Spawning.{first_bytes, first_thread, spawned}
use Rattle.image_threads.specs.laws.StackLaws.{stack_listed}
use Rattle.symbol_table.specs.Symbols.{function_named}
use Rattle.splice_jump.specs.declared.phase.Phase.{Phase}
use Rattle.update_stack.specs.declared.updates.Arena.{Arena}
use Rattle.update_stack.specs.declared.updates.Update.{Update as Shown}
use Rattle.update_stack.specs.declared.updates.Kept.{Kept}
use Rattle.update_stack.specs.AbstractMachine.{AbstractMachine, contents_of}
use Rattle.update_stack.specs.Events.{Spawn, Spawned, happened, answered}
use Rattle.update_stack.specs.Systems.{machine_of, HoldsIn}
use Rattle.update_stack.specs.laws.StackedLaws.{built_sound}
use Rattle.update_stack.proofs.TextLaws.{clear_under}
use Rattle.update_stack.proofs.HoldsLaws.{Laws, sound_of, valid_of}
use Rattle.update_stack.proofs.PhaseLaws.{sealed, sealed_same, sealing, reopened}
use Rattle.update_stack.proofs.SpawnLaws.{HasSpawned, spawn_holds, spawn_seen, stack_clear}

-- a program with another memory
abbrev pub elsewhere : Program → Contents → Program
elsewhere program contents = record program { contents = contents }

-- What a start leaves: data written to a stack, and so in any other memory.
pub record IsStarted (old new : Program) (name : List ℕ) (argument : ℕ) : Type 0 where
  pub stack : Range
  pub listed : Contains old.stacks stack
  pub wrote : new.contents ≡ after_write old.contents stack.low (first_bytes stack argument)
  pub alike : (other : Contents) → spawned (elsewhere old other) name argument
      ≡ Ok (elsewhere new (after_write other stack.low (first_bytes stack argument)))

pub spawned_is : (old new : Program) (name : List ℕ) (argument : ℕ) → spawned old name argument ≡ Ok new
    → IsStarted old new name argument
unfolding spawned started
spawned_is old new name argument is = by_pc (function_named old.table.symbols name) refl is
  where
    at : Contents → Result ℕ Refusal → Result Program Refusal
    at memory pc =
        with_started (elsewhere old memory) (started_at memory.pieces old.stacks old.threads argument pc)

    on : Contents → ℕ → Option Range → Result Program Refusal
    on memory pc o = with_started (elsewhere old memory) (started_on memory.pieces old.threads pc argument o)

    by_stack : (pc : ℕ) (o : Option Range) → free_stack old.stacks old.threads ≡ o
        → function_named old.table.symbols name ≡ Ok pc → nat_le 4096 (length old.threads) ≡ false
        → on old.contents pc o ≡ Ok new → IsStarted old new name argument
    by_stack pc None found named few is = absurd (cc)
    by_stack pc (Some stack) found named few is =
        let left : Contents → Program = λ memory. record old {
          contents = after_write memory stack.low (first_bytes stack argument);
          threads = old.threads ++ first_thread (length old.threads) stack pc ∷ [];
        } in
        let same : left old.contents ≡ new = cc in
        record {
          stack = stack;
          listed = subst (λ (o : Option Range). IfSome o (Contains old.stacks)) found
              (stack_listed old.stacks old.threads (free_stack old.stacks old.threads) refl);
          wrote = sym (ap (λ (p : Program). p.contents) same);
          alike = λ other.
              ap (at other) named
              ∙ ap (λ (full : Bool). with_started (elsewhere old other) (if full then Err TooManyThreads
              else started_on other.pieces old.threads pc argument (free_stack old.stacks old.threads))) few
              ∙ ap (on other pc) found
              ∙ ap (λ (p : Program). Ok (elsewhere p (after_write other stack.low (first_bytes stack argument)))) same;
        }

    by_count : (pc : ℕ) (full : Bool) → nat_le 4096 (length old.threads) ≡ full
        → function_named old.table.symbols name ≡ Ok pc
        → with_started old (if full then Err TooManyThreads
        else started_on old.contents.pieces old.threads pc argument (free_stack old.stacks old.threads)) ≡ Ok new
        → IsStarted old new name argument
    by_count pc true few named is = absurd (cc)
    by_count pc false few named is = by_stack pc (free_stack old.stacks old.threads) refl named few is

    by_pc : (pc : Result ℕ Refusal) → function_named old.table.symbols name ≡ pc
        → at old.contents pc ≡ Ok new → IsStarted old new name argument
    by_pc (Err refusal) named is = absurd (cc)
    by_pc (Ok pc) named is = by_count pc (nat_le 4096 (length old.threads)) refl named is

-- and what refuses it refuses it there
pub not_spawned : (old : Program) (name : List ℕ) (argument : ℕ) (refusal : Refusal)
    → spawned old name argument ≡ Err refusal
    → (other : Contents) → spawned (elsewhere old other) name argument ≡ Err refusal
unfolding spawned started
not_spawned old name argument refusal is other = by_pc (function_named old.table.symbols name) is
  where
    by_stack : (pc : ℕ) (o : Option Range)
        → with_started old (started_on old.contents.pieces old.threads pc argument o) ≡ Err refusal
        → with_started (elsewhere old other) (started_on other.pieces old.threads pc argument o) ≡ Err refusal
    by_stack pc None is = is
    by_stack pc (Some stack) is = absurd (cc)

    by_count : (pc : ℕ) (full : Bool)
        → with_started old (if full then Err TooManyThreads
        else started_on old.contents.pieces old.threads pc argument (free_stack old.stacks old.threads)) ≡ Err refusal
        → with_started (elsewhere old other) (if full then Err TooManyThreads
        else started_on other.pieces old.threads pc argument (free_stack old.stacks old.threads)) ≡ Err refusal
    by_count pc true is = is
    by_count pc false is = by_stack pc (free_stack old.stacks old.threads) is

    by_pc : (pc : Result ℕ Refusal)
        → with_started old (started_at old.contents.pieces old.stacks old.threads argument pc) ≡ Err refusal
        → with_started (elsewhere old other) (started_at other.pieces old.stacks old.threads argument pc) ≡ Err refusal
    by_pc (Err other_refusal) is = is
    by_pc (Ok pc) is = by_count pc (nat_le 4096 (length old.threads)) is

module _ (laws : Laws) (phase : Phase) (arena : Arena) (updates : List Shown) (kept : List Kept) where
  abbrev machine : Program → AbstractMachine
  machine program = machine_of program arena updates kept

  -- the system after a start
  record Starts (old new : Program) (number : ℕ) (name : List ℕ) (argument : ℕ) : Type 0 where
    holds : HoldsIn phase new arena updates kept
    event : answered (machine old) (Spawn name argument) ≡ Ok (happened (machine new) (Spawned number))

  starts : (old new : Program) (number : ℕ) (name : List ℕ) (argument : ℕ) → HoldsIn phase old arena updates kept
      → All IsStackRange old.stacks → spawned old name argument ≡ Ok new → number ≡ length old.threads
      → Starts old new number name argument
  starts old new number name argument holds bounds is count =
      let before = sealed phase arena updates kept old in
      let holds_before = sealing phase arena updates kept old holds in
      let one = spawned_is old new name argument is in
      let bytes = first_bytes one.stack argument in
      let after = elsewhere new (after_write before.contents one.stack.low bytes) in
      let k = machine before in
      let sound_k = built_sound k holds_before.built in
      let clear =
      clear_under one.stack.low (length bytes) kept before.contents.pieces
      (stack_clear (contents_of k) old.stacks one.stack argument sound_k.jumps.valid bounds sound_k.stacks
      one.listed) in
      let valid = valid_of laws updates kept before.contents (sound_of before arena updates kept holds_before) in
      let holds_after =
      spawn_holds arena updates kept laws before after name argument (Ok number) holds_before bounds
      (one.alike before.contents) tt in
      let seen =
      spawn_seen arena updates kept laws before after name argument (Ok number) holds_before bounds
      (one.alike before.contents) count in
      let again =
      reopened phase arena updates kept laws.old old new one.stack.low bytes holds one.wrote valid clear holds_after in
      record {
        holds = again.0;
        event =
            ap (λ (m : AbstractMachine). answered m (Spawn name argument))
            (sym (sealed_same phase arena updates kept old holds))
            ∙ seen
            ∙ ap (λ (m : AbstractMachine). Ok (happened m (Spawned number))) (sym again.1);
      }

  pub phase_spawn_holds : (old new : Program) (name : List ℕ) (argument : ℕ) (result : Result ℕ Refusal)
      → HoldsIn phase old arena updates kept → All IsStackRange old.stacks
      → HasSpawned arena updates kept old new name argument result
      → MatchResult result (λ number. number ≡ length old.threads) (λ _. Unit {0})
      → OnErr result (new ≡ old) → HoldsIn phase new arena updates kept
  phase_spawn_holds old new name argument (Ok number) holds bounds is count same =
      (starts old new number name argument holds bounds is count).holds
  phase_spawn_holds old new name argument (Err refusal) holds bounds is count same =
      subst (λ (p : Program). HoldsIn phase p arena updates kept) (sym same) holds

  pub phase_spawn_seen : (old new : Program) (name : List ℕ) (argument : ℕ) (result : Result ℕ Refusal)
      → HoldsIn phase old arena updates kept → All IsStackRange old.stacks
      → HasSpawned arena updates kept old new name argument result
      → MatchResult result (λ number. number ≡ length old.threads) (λ _. Unit {0})
      → MatchResult result
      (λ number. answered (machine old) (Spawn name argument) ≡ Ok (happened (machine new) (Spawned number)))
      (λ refusal. refusal ≢ Memory → answered (machine old) (Spawn name argument) ≡ Err refusal)
  phase_spawn_seen old new name argument (Ok number) holds bounds is count =
      (starts old new number name argument holds bounds is count).event
  phase_spawn_seen old new name argument (Err refusal) holds bounds is count = λ other.
      let before = sealed phase arena updates kept old in
      ap (λ (m : AbstractMachine). answered m (Spawn name argument)) (sym (sealed_same phase arena updates kept old
      holds))
      ∙ spawn_seen arena updates kept laws before old name argument (Err refusal)
      (sealing phase arena updates kept old holds) bounds
      (λ some. not_spawned old name argument refusal (is some) before.contents) tt other
