-- A thread's start: the program does what the machine does.
use Rattle.std.proofs.Common.{◌≡◌, ◌≢◌, ℕ, Bool, true, false, if◌then◌else◌, nat_le, List, [], ◌∷◌, ◌++◌, length}
use Rattle.std.proofs.Common.{Contains, Option, Some, None, Result, Ok, Err, MatchResult, OnErr, IfSome, IsTrue}
use Rattle.std.proofs.Common.{refl, sym, ◌∙◌, ap, subst, arith}
use Rattle.std.specs.List.{All}
use Rattle.std.proofs.lemmas.List.Elements.{All-contains}
use Rattle.ks_base.specs.declared.places.Range.{Range}
use Rattle.ks_base.specs.declared.refusals.Refusal.{Refusal}
use Rattle.ks_base.specs.declared.refusals.Refusal.TheVariants.{Memory, TooManyThreads}
use Rattle.image_memory.specs.declared.types.Piece.{Piece}
use Rattle.image_memory.specs.Contents.{Contents, IsValid}
use Rattle.image_memory.specs.Access.{written}
use Rattle.image_threads.specs.Program.{Program, IsStackRange}
use Rattle.image_threads.specs.Spawning.{started, started_at, started_on, with_started, free_stack}
use Rattle.image_threads.specs.Spawning.{first_bytes, is_stack, AreStacks, first_thread, spawned as program_spawned}
use Rattle.image_threads.specs.laws.StackLaws.{stack_written, length-first_bytes, stack_listed}
use Rattle.symbol_table.specs.Symbols.{function_named}
use Rattle.update_stack.specs.declared.updates.Arena.{Arena}
use Rattle.update_stack.specs.declared.updates.Update.{Update as Shown}
use Rattle.update_stack.specs.declared.updates.Kept.{Kept}
use Rattle.update_stack.specs.AbstractMachine.{AbstractMachine, contents_of}
use Rattle.update_stack.specs.Steps.{after_start, spawned}
use Rattle.update_stack.specs.Events.{Spawn, Spawned, Happened, happened, spawn_answered, answered}
use Rattle.update_stack.specs.Systems.{text_of, machine_of, Holds}
use Rattle.update_stack.specs.laws.StackedLaws.{built_sound}
use Rattle.update_stack.proofs.TextLaws.{IsClear, clear_under}
use Rattle.update_stack.proofs.BesideLaws.{clear_avoids}
use Rattle.update_stack.proofs.HoldsLaws.{Laws, Sound, IsKeptOver, over_wrote, sound_of, over_of, writes_beside}
use Rattle.update_stack.proofs.HoldsLaws.{holds_again}

-- the bytes of a stack can be written
pub stack_clear : (contents : Contents) (stacks : List Range) (stack : Range) (argument : ℕ) → IsValid contents
    → All IsStackRange stacks → AreStacks contents.pieces stacks → Contains stacks stack
    → IsClear stack.low (length (first_bytes stack argument)) contents.pieces
stack_clear contents stacks stack argument valid bounds are listed =
    let tall = (All-contains IsStackRange stacks stack bounds listed).tall in
    stack_written contents stack (length (first_bytes stack argument)) valid
    (All-contains (λ (range : Range). IsTrue (is_stack contents.pieces range)) stacks stack are listed)
    (length-first_bytes stack argument (omega arith))

module _ (arena : Arena) (updates : List Shown) (kept : List Kept) where
  -- a program as the machine
  abbrev machine : Program → AbstractMachine
  machine program = machine_of program arena updates kept

  -- what the program leaves, and what the machine does
  abbrev pub Starts : Result Program Refusal → Result AbstractMachine Refusal → Type 0
  Starts (Err refusal) now = now ≡ Err refusal
  Starts (Ok new) now =
      (now ≡ Ok (machine new)) × Sound updates kept new.contents × IsKeptOver kept (machine new)

  starts_on : Laws → (old : Program) (pc argument : ℕ) → Holds old arena updates kept → All IsStackRange old.stacks
      → (o : Option Range) → IfSome o (Contains old.stacks)
      → Starts (with_started old (started_on old.contents.pieces old.threads pc argument o))
      (after_start (machine old)
      (started_on (text_of kept old.contents.pieces) old.threads pc argument o))
  starts_on laws old pc argument holds bounds None listed = refl
  starts_on laws old pc argument holds bounds (Some stack) listed =
      let k = machine old in
      let sound = sound_of old arena updates kept holds in
      let over = over_of old arena updates kept holds in
      let holds_k = built_sound k holds.built in
      let bytes = first_bytes stack argument in
      let threads = old.threads ++ first_thread (length old.threads) stack pc ∷ [] in
      let clear_k =
      stack_clear (contents_of k) old.stacks stack argument holds_k.jumps.valid bounds holds_k.stacks listed in
      let clear = clear_under stack.low (length bytes) kept old.contents.pieces clear_k in
      let beside = writes_beside laws updates kept old.contents stack.low bytes sound clear in
      let avoids = clear_avoids (contents_of k) stack.low (length bytes) holds_k.jumps.valid clear_k in
      let by : List Piece → AbstractMachine = λ ps. record k { pieces = ps; threads = threads } in
      let text : written stack.low bytes k.pieces ≡ text_of kept (written stack.low bytes old.contents.pieces) =
      sym (ap (λ (c : Contents). c.pieces) beside.text) in (
        ap (λ (ps : List Piece). let r : Result AbstractMachine Refusal = Ok (by ps) in r) text,
        beside.sound,
        subst (λ (ps : List Piece). IsKeptOver kept (by ps)) text
            (over_wrote laws k kept stack.low bytes threads avoids over),
      )

  starts_at : Laws → (old : Program) (argument : ℕ) → Holds old arena updates kept → All IsStackRange old.stacks
      → (pc : Result ℕ Refusal)
      → Starts (with_started old (started_at old.contents.pieces old.stacks old.threads argument pc))
      (after_start (machine old)
      (started_at (text_of kept old.contents.pieces) old.stacks old.threads argument pc))
  starts_at laws old argument holds bounds (Err refusal) = refl
  starts_at laws old argument holds bounds (Ok pc) = by_count (nat_le 4096 (length old.threads))
    where
      by_count : (full : Bool)
          → Starts (with_started old (if full then Err TooManyThreads
          else started_on old.contents.pieces old.threads pc argument (free_stack old.stacks old.threads)))
          (after_start (machine old) (if full then Err TooManyThreads
          else started_on (text_of kept old.contents.pieces) old.threads pc argument
          (free_stack old.stacks old.threads)))
      by_count true = refl
      by_count false =
          starts_on laws old pc argument holds bounds (free_stack old.stacks old.threads)
          (stack_listed old.stacks old.threads (free_stack old.stacks old.threads) refl)

  starts : Laws → (old : Program) (name : List ℕ) (argument : ℕ) → Holds old arena updates kept
      → All IsStackRange old.stacks
      → Starts (program_spawned old name argument) (spawned (machine old) name argument)
  unfolding program_spawned spawned started
  starts laws old name argument holds bounds =
      starts_at laws old argument holds bounds (function_named old.table.symbols name)

  -- what a call of the program gave
  abbrev pub HasSpawned : (old new : Program) (name : List ℕ) (argument : ℕ) → Result ℕ Refusal → Type 0
  HasSpawned old new name argument result =
      MatchResult result (λ _. program_spawned old name argument ≡ Ok new)
      (λ refusal. refusal ≢ Memory → program_spawned old name argument ≡ Err refusal)

  spawn_goes : Laws → (old : Program) (name : List ℕ) (argument : ℕ) (given : Result Program Refusal)
      → Holds old arena updates kept → All IsStackRange old.stacks → program_spawned old name argument ≡ given
      → Starts given (spawned (machine old) name argument)
  spawn_goes laws old name argument given holds bounds is =
      subst (λ (r : Result Program Refusal). Starts r (spawned (machine old) name argument)) is
      (starts laws old name argument holds bounds)

  pub spawn_holds : Laws → (old new : Program) (name : List ℕ) (argument : ℕ) (result : Result ℕ Refusal)
      → Holds old arena updates kept → All IsStackRange old.stacks → HasSpawned old new name argument result
      → OnErr result (new ≡ old) → Holds new arena updates kept
  spawn_holds laws old new name argument (Ok number) holds bounds is same =
      let goes = spawn_goes laws old name argument (Ok new) holds bounds is in
      holds_again new arena updates kept holds.paired goes.1 goes.2
  spawn_holds laws old new name argument (Err refusal) holds bounds is same =
      subst (λ (p : Program). Holds p arena updates kept) (sym same) holds

  pub spawn_seen : Laws → (old new : Program) (name : List ℕ) (argument : ℕ) (result : Result ℕ Refusal)
      → Holds old arena updates kept → All IsStackRange old.stacks → HasSpawned old new name argument result
      → MatchResult result (λ number. number ≡ length old.threads) (λ _. Unit {0})
      → MatchResult result
      (λ number. answered (machine old) (Spawn name argument)
      ≡ Ok (happened (machine new) (Spawned number)))
      (λ refusal. refusal ≢ Memory → answered (machine old) (Spawn name argument) ≡ Err refusal)
  unfolding answered
  spawn_seen laws old new name argument (Ok number) holds bounds is count =
      ap (spawn_answered (length old.threads)) (spawn_goes laws old name argument (Ok new) holds bounds is).0
      ∙ ap (λ (n : ℕ). let r : Result Happened Refusal =
      Ok (happened (machine new) (Spawned n)) in r) (sym count)
  spawn_seen laws old new name argument (Err refusal) holds bounds is count = λ other.
      ap (spawn_answered (length old.threads)) (spawn_goes laws old name argument (Err refusal) holds bounds (is other))
