-- A stack is one piece before an update and after it, so its bytes stay, and with them what its slots hold.
use Rattle.std.proofs.Common.{◌≡◌, ℕ, zero, suc, ◌+◌, ◌%◌, ◌≤◌, ◌<◌, Bool, true, false, ◌&&◌, ◌==◌, nat_le, List}
use Rattle.std.proofs.Common.{[], ◌∷◌, get_or, Contains, Option, Some, None, Result, Ok, Err, IsTrue, refl, sym, ◌∙◌}
use Rattle.std.proofs.Common.{ap, subst, arith}
use Rattle.std.specs.Prelude.{not, is_some}
use Rattle.std.specs.Option.{option_map, option_or, unwrap_or}
use Rattle.std.specs.List.{fold}
use Rattle.std.specs.Int.{w32, from_le_bytes}
use Rattle.std.proofs.lemmas.Bool.Decides.{nat_tests}
use Rattle.std.proofs.lemmas.List.Elements.{All-contains}
use Rattle.std.proofs.lemmas.List.Folds.{Any-from_list_any}
use Rattle.ks_base.specs.declared.places.Range.{Range}
use Rattle.ks_base.specs.declared.refusals.Fault.{Fault}
use Rattle.ks_base.specs.declared.refusals.Refusal.{Refusal}
use Rattle.ks_base.specs.declared.reports.Report.{Report}
use Rattle.image_file.specs.Fields.{◌>>=◌}
use Rattle.image_memory.specs.declared.types.Piece.{Piece}
use Rattle.image_memory.specs.Ranges.{lies_in, are_same, Ascends}
use Rattle.image_memory.specs.Contents.{piece_range, holding, byte_in}
use Rattle.image_memory.specs.Access.{first_fault, read_fault, unreadable, kind_of, byte_at, bytes_at, dword_at}
use Rattle.image_memory.specs.Changes.{with_piece}
use Rattle.image_memory.specs.laws.RangeLaws.{found_here}
use Rattle.image_threads.specs.Spawning.{is_writable, is_stack}
use Rattle.ia32_step.specs.declared.types.Frame.{Frame}
use Rattle.ia32_step.specs.Frames.{is_slot, holds_dword, keeps_slot}
use Rattle.update_memory.specs.Withdrawn.{is_based_at}
use Rattle.image_memory.specs.laws.PutLaws.{Contains-put}
use Rattle.stack_scan.specs.Standing.{thread_refusal}
use Rattle.update_plan.specs.declared.types.Plan.{Plan}
use Rattle.update_plan.specs.Plan.{unless}
use Rattle.update_stack.specs.AbstractMachine.{AbstractMachine, Update}
use Rattle.update_stack.specs.Apply.{planned_in, accepted, applied, committed, with_new_piece}
use Rattle.update_stack.specs.Undo.{withdrawn}
use Rattle.update_stack.specs.Stacked.{IsBuilt}
use Rattle.update_stack.specs.Events.{Apply, Happened, apply_answered, answered}
use Rattle.update_stack.specs.laws.StackedLaws.{built_sound}
use Rattle.update_safety.specs.Slots.{KeepsSlots, SameThreads, UpdatesKeepSlots, UndosKeepSlots, UpdatesKeepThreads}
use Rattle.update_safety.specs.Slots.{UndosKeepThreads}
use Rattle.update_safety.proofs.TakenLaws.{was_taken}
use Rattle.update_safety.proofs.ViewLaws.{filter_contains}

both : (a b : Bool) → (a && b) ≡ true → (a ≡ true) × (b ≡ true)
both true b is = (refl, is)
both false b is = absurd (cc)

both_from : (a b : Bool) → a ≡ true → b ≡ true → (a && b) ≡ true
both_from true b one other = other
both_from false b one other = absurd (cc)

-- ---- the piece that is a stack
-- a piece that holds an address is the one that is found there
one_holds : (pieces : List Piece) (piece : Piece) (address : ℕ) → Ascends piece_range 0 pieces → Contains pieces piece
    → IsTrue (lies_in address (piece_range piece)) → holding pieces address ≡ Some piece
one_holds pieces piece address up (k, less, at) lies =
    let there : IsTrue (lies_in address (piece_range (get_or pieces k piece))) =
    subst (λ (p : Piece). IsTrue (lies_in address (piece_range p))) (sym at) lies in
    found_here piece_range 0 pieces address k piece up less there ∙ ap Some at

-- the piece that is a stack has its addresses
stack_has : (writable : Bool) (piece : Piece) (stack : Range) (address : ℕ)
    → (writable && are_same (piece_range piece) stack) ≡ true → stack.low ≤ address → address < stack.high
    → IsTrue (lies_in address (piece_range piece))
stack_has true piece stack address is low below = grind (arith, nat_tests)
stack_has false piece stack address is low below = absurd (cc)

-- the same piece is found at each address of a stack
abbrev IsAlike : (old new : List Piece) → Range → Type 0
IsAlike old new stack =
    (address : ℕ) → stack.low ≤ address → address < stack.high → holding old address ≡ holding new address

-- where a piece of some list is one of both, and the stack is one of that list
shared_alike : (old new some : List Piece) (stack : Range) → Ascends piece_range 0 old → Ascends piece_range 0 new
    → ((piece : Piece) → Contains some piece → Contains old piece × Contains new piece)
    → IsTrue (is_stack some stack) → IsAlike old new stack
shared_alike old new some stack up_old up_new shared is address low below =
    let found =
    Any-from_list_any (λ (piece : Piece). is_writable piece.kind && are_same (piece_range piece) stack) some is in
    let piece = found.1 in
    let lies = stack_has (is_writable piece.kind) piece stack address found.4 low below in
    let (before, after) = shared piece (found.0, found.2, found.3) in
    one_holds old piece address up_old before lies ∙ sym (one_holds new piece address up_new after lies)

still_there : (more pieces : List Piece) (piece : Piece) → Contains pieces piece
    → Contains (fold with_new_piece pieces more) piece
still_there [] pieces piece there = there
still_there (first ∷ more) pieces piece there =
    still_there more (with_piece first pieces) piece (Contains-put piece_range first piece pieces there)

-- ---- what is read of such a stack
faults_alike : (f g : ℕ → Option Fault) (address n : ℕ) → ((k : ℕ) → k < n → f (address + k) ≡ g (address + k))
    → first_fault f address n ≡ first_fault g address n
unfolding first_fault
faults_alike f g address zero alike = refl
faults_alike f g address (suc n) alike =
    ap (λ (o : Option Fault). option_or o (f (address + n)))
    (faults_alike f g address n (λ k less. alike k (omega arith)))
    ∙ ap (option_or (first_fault g address n)) (alike n (omega arith))

bytes_alike : (ps qs : List Piece) (address n : ℕ)
    → ((b : ℕ) → address ≤ b → b < address + n → byte_at ps b ≡ byte_at qs b)
    → bytes_at ps address n ≡ bytes_at qs address n
unfolding bytes_at
bytes_alike ps qs address zero alike = refl
bytes_alike ps qs address (suc n) alike =
    ap (λ (x : ℕ). x ∷ bytes_at ps (address + 1) n) (alike address (omega arith) (omega arith))
    ∙ ap (λ (xs : List ℕ). byte_at qs address ∷ xs)
    (bytes_alike ps qs (address + 1) n (λ b low high. alike b (omega arith) (omega arith)))

module _ (old new : List Piece) (stack : Range) (alike : IsAlike old new stack) where
  read_alike : (slot : ℕ) → stack.low ≤ slot → slot + 4 ≤ stack.high
      → first_fault (read_fault old) slot 4 ≡ first_fault (read_fault new) slot 4
  read_alike slot low below =
      faults_alike (read_fault old) (read_fault new) slot 4 (λ k less.
      ap (λ (o : Option Piece). unreadable (option_map kind_of o)) (alike (slot + k) (omega arith) (omega arith)))

  dword_alike : (slot : ℕ) → stack.low ≤ slot → slot + 4 ≤ stack.high → dword_at old slot ≡ dword_at new slot
  dword_alike slot low below =
      ap (from_le_bytes w32) (bytes_alike old new slot 4 (λ b from under.
      ap (λ (o : Option Piece). unwrap_or (option_map (byte_in b) o) 0) (alike b (omega arith) (omega arith))))

  slot_kept : (esp : ℕ) (frame : Frame) → IsTrue (keeps_slot old stack esp frame)
      → IsTrue (keeps_slot new stack esp frame)
  unfolding keeps_slot is_slot
  slot_kept esp frame keeps =
      let slot = frame.slot in
      let parts = both (is_slot stack esp slot) (holds_dword old slot frame.address) keeps in
      let outer = both (slot % 4 == 0)
      (nat_le esp slot && (nat_le stack.low slot && nat_le (slot + 4) stack.high)) parts.0 in
      let inner = both (nat_le esp slot) (nat_le stack.low slot && nat_le (slot + 4) stack.high) outer.1 in
      let ends = both (nat_le stack.low slot) (nat_le (slot + 4) stack.high) inner.1 in
      let low : stack.low ≤ slot = grind (arith, nat_tests) in
      let below : slot + 4 ≤ stack.high = grind (arith, nat_tests) in
      let readable = read_alike slot low below in
      let value = dword_alike slot low below in
      both_from (is_slot stack esp slot) (holds_dword new slot frame.address) parts.0
      (subst (λ (v : ℕ). IsTrue (not (is_some (first_fault (read_fault new) slot 4)) && (v == frame.address))) value
      (subst (λ (o : Option Fault). IsTrue (not (is_some o) && (dword_at old slot == frame.address))) readable parts.1))

-- ---- machines
ascending : (k : AbstractMachine) → IsBuilt k → Ascends piece_range 0 k.pieces
ascending k built = let sound = built_sound k built in sound.jumps.valid.placed.ascend

is_there : (k : AbstractMachine) (stack : Range) → IsBuilt k → Contains k.stacks stack
    → IsTrue (is_stack k.pieces stack)
is_there k stack built listed =
    let sound = built_sound k built in
    All-contains (λ (range : Range). IsTrue (is_stack k.pieces range)) k.stacks stack sound.stacks listed

committed_keeps : (k : AbstractMachine) (name : List ℕ) (plan : Plan) → IsBuilt k → IsBuilt (committed k name plan)
    → KeepsSlots k (committed k name plan)
unfolding committed
committed_keeps k name plan built after stack esp frame listed =
    slot_kept k.pieces (committed k name plan).pieces stack
    (shared_alike k.pieces (committed k name plan).pieces k.pieces stack (ascending k built)
    (ascending (committed k name plan) after)
    (λ piece there. (there, still_there plan.pieces k.pieces piece there))
    (is_there k stack built listed))
    esp frame

withdrawn_keeps : (k : AbstractMachine) (update : Update) → IsBuilt k → IsBuilt (withdrawn k update)
    → KeepsSlots k (withdrawn k update)
unfolding withdrawn
withdrawn_keeps k update built after stack esp frame listed =
    slot_kept k.pieces (withdrawn k update).pieces stack
    (shared_alike k.pieces (withdrawn k update).pieces (withdrawn k update).pieces stack (ascending k built)
    (ascending (withdrawn k update) after)
    (λ piece there.
    (filter_contains (λ (p : Piece). not (is_based_at update.pieces p)) k.pieces piece there, there))
    (is_there (withdrawn k update) stack after listed))
    esp frame

committed_threads : (k : AbstractMachine) (name : List ℕ) (plan : Plan) → SameThreads k (committed k name plan)
unfolding committed
committed_threads k name plan = record { threads = refl; stacks = refl }

withdrawn_threads : (k : AbstractMachine) (update : Update) → SameThreads k (withdrawn k update)
unfolding withdrawn
withdrawn_threads k update = record { threads = refl; stacks = refl }

-- ---- what is answered
accepted_is : (k : AbstractMachine) (name pre post : List ℕ) (now : Happened)
    → answered k (Apply name pre post) ≡ Ok now
    → (plan : Plan) × (committed k name plan ≡ now.machine)
unfolding answered accepted applied
accepted_is k name pre post now is = by_plan (planned_in k name pre post) is
  where
    by_threads : (plan : Plan) (o : Option Refusal)
        → apply_answered (unless o plan >>= λ (clear : Plan).
        let r : Result (AbstractMachine × Report) Refusal = Ok (committed k name clear, clear.report) in r) ≡ Ok now
        → (plan : Plan) × (committed k name plan ≡ now.machine)
    by_threads plan (Some refusal) is = absurd (cc)
    by_threads plan None is = (plan, cc)

    by_plan : (r : Result Plan Refusal)
        → apply_answered ((r >>= λ (plan : Plan). unless (thread_refusal k.pieces plan.guarded k.threads) plan)
        >>= λ (clear : Plan).
        let r : Result (AbstractMachine × Report) Refusal = Ok (committed k name clear, clear.report) in r) ≡ Ok now
        → (plan : Plan) × (committed k name plan ≡ now.machine)
    by_plan (Err refusal) is = absurd (cc)
    by_plan (Ok plan) is = by_threads plan (thread_refusal k.pieces plan.guarded k.threads) is

pub updates_keep_slots : UpdatesKeepSlots
updates_keep_slots k name pre post now built after is =
    let (plan, same) = accepted_is k name pre post now is in
    subst (λ (m : AbstractMachine). IsBuilt m → KeepsSlots k m) same (committed_keeps k name plan built) after

pub undos_keep_slots : UndosKeepSlots
undos_keep_slots k event update now built after takes is =
    subst (λ (m : AbstractMachine). IsBuilt m → KeepsSlots k m) (was_taken k event update now takes is).left
    (withdrawn_keeps k update built) after

pub updates_keep_threads : UpdatesKeepThreads
updates_keep_threads k name pre post now is =
    let (plan, same) = accepted_is k name pre post now is in
    subst (λ (m : AbstractMachine). SameThreads k m) same (committed_threads k name plan)

pub undos_keep_threads : UndosKeepThreads
undos_keep_threads k event update now takes is =
    subst (λ (m : AbstractMachine). SameThreads k m) (was_taken k event update now takes is).left
    (withdrawn_threads k update)
