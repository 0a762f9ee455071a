-- A step that reports what it wrote and how many bytes it fetched.
use Rattle.std.proofs.Common.{◌≡◌, ℕ, ◌==◌, if◌then◌else◌, List, [], length, Option, Some, None, IsSomeAnd, unwrap_or}
use Rattle.std.proofs.Common.{Result, Ok, Err, MatchResult, OnErr, IfOk, refl, sym, ap, ◌∙◌}
use Rattle.std.proofs.lemmas.List.{length-take-le}
use Rattle.ks_base.specs.declared.refusals.Refusal.{Refusal}
use Rattle.image_memory.specs.Contents.{Contents, IsValid}
use Rattle.image_memory.specs.Access.{first_fault, write_fault}
use Rattle.image_memory.specs.Fetch.{View, Unmapped, AtHome, Stray, Bytes, view_at, code_from, jump_at, window_for}
use Rattle.image_memory.specs.Fetch.{window_at}
use Rattle.splice_jump.specs.Jumps.{jumped_memory, IsSpliced, AreSpliced}
use Rattle.ia32_alu.specs.Widths.{byte_count}
use Rattle.ia32_step.specs.declared.types.Thread.{Thread}
use Rattle.ia32_step.specs.declared.types.Store.{Store}
use Rattle.ia32_step.specs.declared.types.Traced.{Traced}
use Rattle.ia32_step.specs.Operands.{spelled}
use Rattle.ia32_step.specs.Step.{store_fault, after_store, stored, window_length, fetched_count}
use Rattle.ia32_step.specs.laws.OperandLaws.{length-spelled}
use Rattle.image_threads.specs.Program.{Program, running_at}
use Rattle.image_threads.specs.Stepping.{moved}
use Rattle.update_stack.specs.declared.updates.Arena.{Arena}
use Rattle.update_stack.specs.declared.updates.Update.{Update as Shown}
use Rattle.update_stack.specs.declared.updates.Kept.{Kept}
use Rattle.update_stack.specs.AbstractMachine.{AbstractMachine, bodies_in, contents_of}
use Rattle.update_stack.specs.Jumps.{CanJump}
use Rattle.update_stack.specs.StandsFor.{Seen, patched}
use Rattle.update_stack.specs.Systems.{machine_of, text_of, Holds}
use Rattle.update_stack.specs.inside.Stepping.{ComesOfStep}
use Rattle.update_stack.specs.laws.StackedLaws.{built_sound}
use Rattle.update_stack.proofs.HoldsLaws.{Laws, sound_of, writes_beside}
use Rattle.update_stack.proofs.LockStep.{home_spliced}
use Rattle.update_stack.proofs.StepLaws.{AllSteps, step_holds, step_seen, stepped_after, step_runs}
use Rattle.update_stack.proofs.TextLaws.{clear_text}

-- what a step wrote, it wrote to the machine's memory too
store_seen : Laws → (arena : Arena) (updates : List Shown) (kept : List Kept)
    → (old new : Program) (store : Option Store) → Holds old arena updates kept
    → new.contents ≡ after_store old.contents store → store_fault old.contents store ≡ None
    → (machine_of new arena updates kept).pieces
    ≡ (after_store (contents_of (machine_of old arena updates kept)) store).pieces
store_seen laws arena updates kept old new None holds is clear =
    ap (λ (c : Contents). text_of kept c.pieces) is
store_seen laws arena updates kept old new (Some s) holds is clear =
    ap (λ (c : Contents). text_of kept c.pieces) is
    ∙ ap (λ (memory : Contents). memory.pieces)
    (writes_beside laws updates kept old.contents s.address (spelled s.width s.value)
    (sound_of old arena updates kept holds)
    (ap (first_fault (write_fault old.contents.pieces) s.address) (length-spelled s.width s.value) ∙ clear)).text

-- and there it can be written
store_clear : (arena : Arena) (updates : List Shown) (kept : List Kept) (old : Program) (store : Option Store)
    → store_fault old.contents store ≡ None → store_fault (contents_of (machine_of old arena updates kept)) store ≡ None
store_clear arena updates kept old None clear = clear
store_clear arena updates kept old (Some s) clear =
    clear_text s.address (byte_count s.width) kept old.contents.pieces clear

-- five bytes are fetched at a spliced home
pub five_fetched : (contents : Contents) (pc : ℕ) → IsSpliced contents pc → length (jump_at contents.pieces pc) ≡ 5
five_fetched contents pc spliced = length-take-le 5 (unwrap_or (code_from contents.pieces pc) []) spliced.code

-- as many bytes are fetched from memories in which the same is met, where at a home as many are
counts_alike : (a b : Contents) (thread : Thread) → view_at a thread.pc ≡ view_at b thread.pc
    → (view_at b thread.pc ≡ AtHome
    → length (jump_at a.pieces thread.pc) ≡ length (jump_at b.pieces thread.pc))
    → fetched_count a thread ≡ fetched_count b thread
unfolding fetched_count window_at
counts_alike a b thread same home =
    ap (λ (n : ℕ). if thread.pc == 0xFFFF_0000 then 0 else n)
    (ap (count a) same ∙ by_met (view_at b thread.pc) home)
  where
    count : Contents → View → ℕ
    count memory met = window_length (window_for met (jump_at memory.pieces thread.pc))

    by_met : (met : View)
        → (met ≡ AtHome → length (jump_at a.pieces thread.pc) ≡ length (jump_at b.pieces thread.pc))
        → count a met ≡ count b met
    by_met Unmapped home = refl
    by_met AtHome home = home refl
    by_met Stray home = refl
    by_met (Bytes code) home = refl

-- the laws of other crates that are used here: jumps leave what is met, and homes spliced
abbrev pub LeavesViews : Type 0
LeavesViews = (contents : Contents) (rows : List (ℕ × ℕ)) (pc : ℕ) → IsValid contents → AreSpliced contents rows
    → view_at (jumped_memory rows contents) pc ≡ view_at contents pc

abbrev pub LeavesHomes : Type 0
LeavesHomes = (contents : Contents) (rows others : List (ℕ × ℕ)) → AreSpliced contents rows
    → AreSpliced (jumped_memory others contents) rows

-- as many bytes are fetched with the jumps as without them
counts_beside : LeavesViews → LeavesHomes → (k : AbstractMachine) (thread : Thread) → CanJump k
    → fetched_count (patched k) thread ≡ fetched_count (contents_of k) thread
unfolding patched
counts_beside views homes k thread can =
    let rows = bodies_in k.table in
    let memory = contents_of k in
    let jumps = jumped_memory rows memory in
    let spliced = homes memory rows rows can.spliced in
    counts_alike jumps memory thread (views memory rows thread.pc can.valid can.spliced)
    (λ met. five_fetched jumps thread.pc (home_spliced k jumps thread.pc can.spliced spliced met)
    ∙ sym (five_fetched memory thread.pc (home_spliced k memory thread.pc can.spliced can.spliced met)))

-- what is reported of the running thread, by values that are the same
retold : (X : Type 0) (told : X) (f g : Thread → X) → ((thread : Thread) → f thread ≡ g thread) → (o : Option Thread)
    → IsSomeAnd o (λ running. told ≡ f running) → IsSomeAnd o (λ running. told ≡ g running)
retold X told f g same None is = is
retold X told f g same (Some running) is = is ∙ same running

module _ (laws : Laws) (steps : AllSteps) (arena : Arena) (updates : List Shown)
    (kept : List Kept) where
  -- a program as the machine
  abbrev machine : Program → AbstractMachine
  machine program = machine_of program arena updates kept

  -- what the program's step came to
  abbrev HasMoved : (old new : Program) (n : ℕ) → Result Traced Refusal → Type 0
  HasMoved old new n result =
      MatchResult result (λ traced. moved old n ≡ Ok (new, traced.outcome)) (λ refusal. moved old n ≡ Err refusal)

  pub step_keeps : (old new : Program) (n : ℕ) (result : Result Traced Refusal) → Holds old arena updates kept
      → HasMoved old new n result → OnErr result (new ≡ old) → Holds new arena updates kept
  step_keeps old new n (Ok traced) holds is same =
      step_holds arena updates kept laws steps old new n (Ok traced.outcome) holds is same
  step_keeps old new n (Err refusal) holds is same =
      step_holds arena updates kept laws steps old new n (Err refusal) holds is same

  -- and what was reported of it, so of the system
  pub step_comes : LeavesViews → LeavesHomes → (old new : Program) (n : ℕ) (result : Result Traced Refusal)
      → Holds old arena updates kept → HasMoved old new n result
      → IfOk result (λ traced. new.contents ≡ after_store old.contents traced.store)
      → IfOk result (λ traced. store_fault old.contents traced.store ≡ None)
      → IfOk result (λ traced. IsSomeAnd (running_at old.threads n)
      (λ running. traced.store ≡ stored old.contents running))
      → IfOk result (λ traced. IsSomeAnd (running_at old.threads n)
      (λ running. traced.fetched ≡ fetched_count old.contents running))
      → OnErr result (new ≡ old) → ComesOfStep (machine old) (machine new) n result
  step_comes views homes old new n (Ok traced) holds is wrote clear told count same =
      let k = machine old in
      let stands : old.contents ≡ patched k = ap (λ (s : Seen). s.contents) holds.stands in
      let patched_count = retold ℕ traced.fetched (fetched_count old.contents) (fetched_count (patched k))
      (λ thread. ap (λ (c : Contents). fetched_count c thread) stands) (running_at old.threads n) count in
      record {
        event = step_seen arena updates kept laws steps old new n (Ok traced.outcome) holds is;
        written = store_seen laws arena updates kept old new traced.store holds wrote clear;
        clear = store_clear arena updates kept old traced.store clear;
        store = retold (Option Store) traced.store (stored old.contents) (stored (patched k))
            (λ thread. ap (λ (c : Contents). stored c thread) stands) (running_at old.threads n) told;
        fetched = patched_count;
        text = retold ℕ traced.fetched (fetched_count (patched k)) (fetched_count (contents_of k))
            (λ thread. counts_beside views homes k thread (built_sound k holds.built).jumps) (running_at old.threads n)
            patched_count;
        after = stepped_after arena updates kept laws steps old new n (Ok traced.outcome) holds is same;
        runs = step_runs old new n (Ok traced.outcome) is;
      }
  step_comes views homes old new n (Err refusal) holds is wrote clear told count same = record {
    event = step_seen arena updates kept laws steps old new n (Err refusal) holds is;
    written = wrote;
    clear = clear;
    store = told;
    fetched = count;
    text = count;
    after = stepped_after arena updates kept laws steps old new n (Err refusal) holds is same;
    runs = step_runs old new n (Err refusal) is;
  }
