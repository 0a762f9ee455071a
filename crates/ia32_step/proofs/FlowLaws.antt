-- Why the step of a call and of a return is what the laws say.
use Rattle.std.proofs.Common.{◌≡◌, ℕ, zero, suc, ◌+◌, ◌-◌, ◌≤◌, ◌<◌, ◌^◌, Bool, true, false, cond, if◌then◌else◌}
use Rattle.std.proofs.Common.{◌==◌, ◌||◌, ◌&&◌, not, List, [], ◌∷◌, length, get_or, Option, Some, None, Result, Ok}
use Rattle.std.proofs.Common.{Err, IsSomeAnd, refl, sym, ap, subst, ◌∙◌, arith}
use Rattle.std.specs.Int.{w32, to_le_bytes, from_le_bytes}
use Rattle.std.specs.Option.{option_map, unwrap_or}
use Rattle.std.specs.List.{All}
use Rattle.std.proofs.lemmas.List.Elements.{All-head, All-tail}
use Rattle.std.proofs.lemmas.Bool.Decides.{nat_tests}
use Rattle.std.proofs.lemmas.List.{ext_get_or, get_or-set_same}
use Rattle.std.proofs.lemmas.Nat.{from_le_bytes-to_le_bytes_4}
use Rattle.ks_base.specs.declared.refusals.Fault.{Fault}
use Rattle.ks_base.specs.declared.refusals.Fault.TheVariants.{Unsupported, Trap, BadLock}
use Rattle.image_memory.specs.declared.types.Kind.{Kind}
use Rattle.image_memory.specs.declared.types.Kind.TheVariants.{Code, ReadOnly, Writable}
use Rattle.image_memory.specs.declared.types.Piece.{Piece}
use Rattle.image_memory.specs.declared.types.Window.{Window}
use Rattle.image_memory.specs.Ranges.{lies_in}
use Rattle.image_memory.specs.Contents.{Contents, ArePlaced, piece_range, holding, byte_in}
use Rattle.image_memory.specs.Fetch.{fetched, window_at}
use Rattle.image_memory.specs.Access.{kind_of, unreadable, unwritable, read_fault, write_fault, first_fault, byte_at}
use Rattle.image_memory.specs.Access.{bytes_at, overlaid, overlaid_piece, written, dword_at}
use Rattle.image_memory.specs.laws.AccessLaws.{length-overlaid, new_inside, length-bytes_at, get_or-bytes_at, all_good}
use Rattle.ia32_alu.specs.declared.types.Flags.{Flags}
use Rattle.ia32_alu.specs.Arithmetic.{binary_of}
use Rattle.ia32_alu.specs.declared.types.Width.{Width}
use Rattle.ia32_alu.specs.declared.types.Width.TheVariants.{Byte, Dword}
use Rattle.ia32_alu.specs.declared.types.Binary.{Binary}
use Rattle.ia32_alu.specs.declared.types.Binary.TheVariants.{Add, Or, Adc, Sbb, And, Sub, Xor, Cmp, Test}
use Rattle.ia32_alu.specs.declared.types.Unary.{Unary as UnaryOperation}
use Rattle.ia32_alu.specs.declared.types.Shift.{Shift as ShiftOperation}
use Rattle.ia32_alu.specs.Numbers.{size}
use Rattle.ia32_decode.specs.declared.types.Register.{Register}
use Rattle.ia32_decode.specs.declared.types.Register.TheVariants as registers
use Rattle.ia32_decode.specs.declared.types.Condition.{Condition}
use Rattle.ia32_decode.specs.declared.types.Operand.{Operand}
use Rattle.ia32_decode.specs.declared.types.Operand.TheVariants as operands
use Rattle.ia32_decode.specs.declared.types.Decoded.{Decoded}
use Rattle.ia32_decode.specs.declared.types.Instr.{Instr}
use Rattle.ia32_decode.specs.declared.types.Action.{Action}
use Rattle.ia32_decode.specs.declared.types.Action.TheVariants.{Arithmetic, Unary, Push, Pop, Multiply, JumpIf}
use Rattle.ia32_decode.specs.declared.types.Action.TheVariants.{Exchange, Move, LoadAccumulator, Shift}
use Rattle.ia32_decode.specs.declared.types.Action.TheVariants.{ReturnAndRelease, Return, Leave, Call}
use Rattle.ia32_decode.specs.declared.types.Action.TheVariants.{MultiplyAccumulator, Divide, CallOperand, JumpOperand}
use Rattle.ia32_decode.specs.declared.types.Action.TheVariants.{MoveIf, SetIf, CompareExchange, ExchangeAdd}
use Rattle.ia32_decode.specs.declared.types.Action.TheVariants.{ZeroExtend, SignExtend}
use Rattle.ia32_decode.specs.Decode.{decoded_from}
use Rattle.ia32_step.specs.declared.types.Context.{Context}
use Rattle.ia32_step.specs.declared.types.Place.{Place}
use Rattle.ia32_step.specs.declared.types.Place.TheVariants.{InRegister, InMemory}
use Rattle.ia32_step.specs.declared.types.Thread.{Thread}
use Rattle.ia32_step.specs.declared.types.Change.{Change}
use Rattle.ia32_step.specs.declared.types.Flow.{Flow}
use Rattle.ia32_step.specs.declared.types.Flow.TheVariants as flows
use Rattle.ia32_step.specs.declared.types.Outcome.TheVariants.{Moved}
use Rattle.ia32_step.specs.Registers.{register_value, registers_with, stack_top, accumulator}
use Rattle.ia32_step.specs.Operands.{Reader, given, place_of, operand_value, source_value, destination_of, number_at}
use Rattle.ia32_step.specs.Operands.{unless_fault}
use Rattle.ia32_step.specs.Changes.{at_address, above, below, putting, popped, raised}
use Rattle.ia32_step.specs.Arithmetic.{settled, combined, altered, takes_width, count_of, shifted, multiplied}
use Rattle.ia32_step.specs.Arithmetic.{product_taken}
use Rattle.ia32_step.specs.Arithmetic.{with_quotient, divided}
use Rattle.ia32_step.specs.Moves.{copied, accumulator_loaded, exchanged, exchanged_and_added, compared_and_exchanged}
use Rattle.ia32_step.specs.Moves.{compare_exchanged, holds, copied_if, zero_extended_to, sign_extended_to}
use Rattle.ia32_step.specs.Stack.{pushed, popped_to, left}
use Rattle.ia32_step.specs.Branches.{jumped_if, jumped_to, called, called_to, returned}
use Rattle.ia32_step.specs.Exec.{done_by, is_stepped, refuses_prefixes, traps, takes_lock, executed}
use Rattle.ia32_step.specs.Step.{Left, context_of, store_fault, unless_barred, done, change_in, carried_out}
use Rattle.ia32_step.specs.Step.{next_change, exits, stepped}
use Rattle.ia32_step.specs.Threads.{esp_of}
use Rattle.ia32_step.specs.Frames.{decoded_in, instruction_at, IsCalled, IsReturned}
use Rattle.ia32_step.proofs.CodeLaws.{each_good}

-- what an instruction's change says of how it goes on: a call is the one change of calls, and a return goes on at what
-- it popped
abbrev ByFlow : Reader → Context → Change → Flow → Type 0
ByFlow read context change flows.Plain = Unit {0}
ByFlow read context change flows.Call = (target : ℕ) × (change ≡ called target context)
ByFlow read context change flows.Return = popped read context ≡ Ok change.context.pc

abbrev Tells : Reader → Context → Result Change Fault → Type 0
Tells read context (Err fault) = Unit {0}
Tells read context (Ok change) = ByFlow read context change change.flow

module _ (read : Reader) (context : Context) where
  after_read : (r : Result ℕ Fault) (next : ℕ → Result Change Fault)
      → ((x : ℕ) → r ≡ Ok x → Tells read context (next x)) → Tells read context (given r next)
  after_read (Err fault) next h = tt
  after_read (Ok x) next h = h x refl

  by_place : (place : Place) (width : Width) (v : ℕ) (after : Context)
      → Tells read context (Ok (putting place width v after))
  by_place (InRegister r) width v after = tt
  by_place (InMemory address) width v after = tt

  by_settling : (operation : Binary) (width : Width) (place : Place) (result : ℕ × Flags)
      → Tells read context (Ok (settled operation width place result context))
  by_settling Cmp width place result = tt
  by_settling Test width place result = tt
  by_settling Add width place result = by_place place width _ _
  by_settling Or width place result = by_place place width _ _
  by_settling Adc width place result = by_place place width _ _
  by_settling Sbb width place result = by_place place width _ _
  by_settling And width place result = by_place place width _ _
  by_settling Sub width place result = by_place place width _ _
  by_settling Xor width place result = by_place place width _ _

  by_combining : (operation : Binary) (width : Width) (operand : Operand) (source : Result ℕ Fault)
      → Tells read context (combined read operation width operand source context)
  unfolding combined
  by_combining operation width operand source =
      after_read (operand_value read context width operand) _
      (λ a _. after_read source _ (λ b _. by_settling operation width (place_of context.registers operand) _))

  by_altering : (operation : UnaryOperation) (width : Width) (operand : Operand)
      → Tells read context (altered read operation width operand context)
  unfolding altered
  by_altering operation width operand =
      after_read (operand_value read context width operand) _
      (λ a _. by_place (place_of context.registers operand) width _ _)

  by_test : (b : Bool) (fault : Fault) (r : Result Change Fault) → Tells read context r
      → Tells read context (if b then Err fault else r)
  by_test true fault r h = tt
  by_test false fault r h = h

  by_shifting : (operation : ShiftOperation) (width : Width) (operand : Operand) (count : ℕ)
      → Tells read context (shifted read operation width operand count context)
  unfolding shifted
  by_shifting operation width operand count =
      by_test (not (takes_width operation width)) Unsupported _
      (after_read (operand_value read context width operand) _
      (λ a _. by_place (place_of context.registers operand) width _ _))

  by_multiplying : (sign : Bool) (width : Width) (operand : Operand)
      → Tells read context (multiplied read sign width operand context)
  unfolding multiplied
  by_multiplying sign width operand = after_read (operand_value read context width operand) _ (λ a _. tt)

  by_product : (width : Width) (r : Register) (operand : Operand) (factor : Result ℕ Fault)
      → Tells read context (product_taken read width r operand factor context)
  unfolding product_taken
  by_product width r operand factor =
      after_read (operand_value read context width operand) _ (λ a _. after_read factor _ (λ b _. tt))

  by_quotient : (width : Width) (both : Option (ℕ × ℕ)) → Tells read context (with_quotient width both context)
  by_quotient width None = tt
  by_quotient width (Some both) = tt

  by_dividing : (sign : Bool) (width : Width) (operand : Operand)
      → Tells read context (divided read sign width operand context)
  unfolding divided
  by_dividing sign width operand = after_read (operand_value read context width operand) _ (λ a _. by_quotient width _)

  by_copying : (width : Width) (destination : Operand) (source : Result ℕ Fault)
      → Tells read context (copied width destination source context)
  unfolding copied
  by_copying width destination source =
      after_read source _ (λ v _. by_place (place_of context.registers destination) width _ _)

  by_loading : (width : Width) (address : ℕ) → Tells read context (accumulator_loaded read width address context)
  unfolding accumulator_loaded
  by_loading width address = after_read (read width address) _ (λ v _. tt)

  by_exchange : (width : Width) (operand : Operand) (r : Register)
      → Tells read context (exchanged read width operand r context)
  unfolding exchanged
  by_exchange width operand r =
      after_read (operand_value read context width operand) _
      (λ v _. by_place (place_of context.registers operand) width _ _)

  by_adding : (width : Width) (operand : Operand) (r : Register)
      → Tells read context (exchanged_and_added read width operand r context)
  unfolding exchanged_and_added
  by_adding width operand r =
      after_read (operand_value read context width operand) _
      (λ a _. by_place (place_of context.registers operand) width _ _)

  by_choice : (b : Bool) (x y : Change) → Tells read context (Ok x) → Tells read context (Ok y)
      → Tells read context (Ok (if b then x else y))
  by_choice true x y h k = h
  by_choice false x y h k = k

  by_comparison : (place : Place) (width : Width) (a v : ℕ) (compared : ℕ × Flags)
      → Tells read context (Ok (compared_and_exchanged place width a v compared context))
  by_comparison place width a v compared =
      by_choice compared.1.zf _ _ (by_place place width v _) (by_place place width a _)

  by_comparing : (width : Width) (operand : Operand) (r : Register)
      → Tells read context (compare_exchanged read width operand r context)
  unfolding compare_exchanged
  by_comparing width operand r =
      after_read (operand_value read context width operand) _
      (λ a _. by_comparison (place_of context.registers operand) width a _
      (binary_of Cmp (size width) (accumulator context width) a context.flags))

  by_copying_if : (condition : Condition) (width : Width) (r : Register) (source : Operand)
      → Tells read context (copied_if read condition width r source context)
  unfolding copied_if
  by_copying_if condition width r source = after_read (operand_value read context width source) _ (λ v _. tt)

  by_zeros : (from width : Width) (r : Register) (source : Operand)
      → Tells read context (zero_extended_to read from width r source context)
  unfolding zero_extended_to
  by_zeros from width r source = after_read (operand_value read context from source) _ (λ v _. tt)

  by_sign : (from width : Width) (r : Register) (source : Operand)
      → Tells read context (sign_extended_to read from width r source context)
  unfolding sign_extended_to
  by_sign from width r source = after_read (operand_value read context from source) _ (λ v _. tt)

  by_push : (source : Result ℕ Fault) → Tells read context (pushed source context)
  unfolding pushed
  by_push source = after_read source _ (λ v _. tt)

  by_pop : (operand : Operand) (other : Context) → Tells read context (popped_to read operand other)
  unfolding popped_to
  by_pop operand other =
      after_read (popped read other) _ (λ v _. by_place (place_of (raised 0 other).registers operand) Dword _ _)

  by_leaving : Tells read context (left read context)
  unfolding left
  by_leaving = by_pop (operands.Register registers.Ebp) _

  by_condition : (condition : Condition) (relative : ℕ) → Tells read context (Ok (jumped_if condition relative context))
  by_condition condition relative = by_choice (holds condition context.flags) _ _ tt tt

  by_jump : (operand : Operand) → Tells read context (jumped_to read operand context)
  unfolding jumped_to
  by_jump operand = after_read (operand_value read context Dword operand) _ (λ target _. tt)

  by_call : (operand : Operand) → Tells read context (called_to read operand context)
  unfolding called_to
  by_call operand = after_read (operand_value read context Dword operand) _ (λ target _. (target, refl))

  by_return : (n : ℕ) → Tells read context (returned read n context)
  unfolding returned
  by_return n = after_read (popped read context) _ (λ target there. there)

  by_action : (action : Action) (i : Instr) → Tells read context (done_by read action i context)
  unfolding done_by
  by_action (Arithmetic operation source) i =
      by_combining operation i.width (destination_of source i) (source_value read context source i)
  by_action (Unary operation) i = by_altering operation i.width i.operand
  by_action (MultiplyAccumulator signed) i = by_multiplying signed i.width i.operand
  by_action (Divide signed) i = by_dividing signed i.width i.operand
  by_action (Multiply source) i = by_product i.width i.register i.operand (source_value read context source i)
  by_action (Shift operation count) i =
      by_shifting operation i.width i.operand (count_of count i.value context)
  by_action (Move source) i = by_copying i.width (destination_of source i) (source_value read context source i)
  by_action LoadAccumulator i = by_loading i.width i.value
  by_action Exchange i = by_exchange i.width i.operand i.register
  by_action ExchangeAdd i = by_adding i.width i.operand i.register
  by_action CompareExchange i = by_comparing i.width i.operand i.register
  by_action (MoveIf condition) i = by_copying_if condition i.width i.register i.operand
  by_action (SetIf condition) i = by_place (place_of context.registers i.operand) Byte _ context
  by_action (ZeroExtend from) i = by_zeros from i.width i.register i.operand
  by_action (SignExtend from) i = by_sign from i.width i.register i.operand
  by_action (Push source) i = by_push (source_value read context source i)
  by_action Pop i = by_pop i.operand context
  by_action Leave i = by_leaving
  by_action (JumpIf condition) i = by_condition condition i.value
  by_action JumpOperand i = by_jump i.operand
  by_action Call i = (above context.pc i.value, refl)
  by_action CallOperand i = by_call i.operand
  by_action Return i = by_return 0
  by_action ReturnAndRelease i = by_return i.value
  by_action other i = tt

-- the thread that an instruction finds, whose pc is the address after it
abbrev found : Thread → Decoded → Context
found thread d = at_address (above thread.pc d.length) (context_of thread)

by_decoded : (read : Reader) (thread : Thread) (d : Decoded)
    → Tells read (found thread d) (executed read d (context_of thread))
unfolding executed
by_decoded read thread d =
    by_test read (found thread d) (not (is_stepped d.instr.action d.instr.width) || refuses_prefixes d.prefixes d.instr.action) Unsupported _
    (by_test read (found thread d) (traps d.instr.action) Trap _
    (by_test read (found thread d) (d.prefixes.lock && not (takes_lock d.instr.action d.instr)) BadLock _
    (by_action read (found thread d) d.instr.action d.instr)))

-- the bytes that were written stand where they were
byte_overlaid : (start : ℕ) (bytes : List ℕ) (address : ℕ) (xs : List ℕ) (k : ℕ) → k < length xs → start ≤ address + k
    → address + k < start + length bytes
    → get_or (overlaid start bytes address xs) k 0 ≡ get_or bytes (address + k - start) 0
unfolding overlaid
byte_overlaid start bytes address [] k l from to = absurd (omega arith)
byte_overlaid start bytes address (x ∷ xs) zero l from to =
    let same : address ≡ address + zero = omega arith in
    new_inside start bytes address x (omega arith) (omega arith) ∙ ap (λ a. get_or bytes (a - start) 0) same
byte_overlaid start bytes address (x ∷ xs) (suc k) l from to =
    let same : address + 1 + k ≡ address + suc k = omega arith in
    byte_overlaid start bytes (address + 1) xs k (omega arith) (omega arith) (omega arith)
    ∙ ap (λ a. get_or bytes (a - start) 0) same

byte_written : (start : ℕ) (bytes : List ℕ) (pieces : List Piece) (a : ℕ) → start ≤ a → a < start + length bytes
    → write_fault pieces a ≡ None
    → byte_at (written start bytes pieces) a ≡ get_or bytes (a - start) 0
byte_written start bytes [] a from to good = cc
byte_written start bytes (x ∷ xs) a from to good =
    rw (length-overlaid start bytes x.base x.bytes)
    (elim (lies_in a (piece_range x)) as
    (λ b. lies_in a (piece_range x) ≡ b → unwritable (option_map kind_of (cond b (Some x) (holding xs a))) ≡ None
    → unwrap_or
    (option_map (byte_in a) (cond b (Some (overlaid_piece start bytes x)) (holding (written start bytes xs) a))) 0
    ≡ get_or bytes (a - start) 0) [
      | true ↦ λ here _.
          let inside = bounds a x.base (x.base + length x.bytes) here in
          let back : x.base + (a - x.base) ≡ a = omega arith in
          byte_overlaid start bytes x.base x.bytes (a - x.base) (omega arith) (omega arith) (omega arith)
          ∙ ap (λ n. get_or bytes (n - start) 0) back
      | false ↦ λ _ later. byte_written start bytes xs a from to later
    ] refl good)
  where
    bounds : (a low high : ℕ) → lies_in a (record { low = low; high = high }) ≡ true → (low ≤ a) × (a < high)
    bounds a low high h = grind (arith, nat_tests)

written_back : (start : ℕ) (bytes : List ℕ) (pieces : List Piece)
    → first_fault (write_fault pieces) start (length bytes) ≡ None
    → bytes_at (written start bytes pieces) start (length bytes) ≡ bytes
written_back start bytes pieces good =
    ext_get_or 0 _ bytes (length-bytes_at (written start bytes pieces) start (length bytes)) (λ k l.
    let m : k < length bytes = rw length-bytes_at at l in
    let back : start + k - start ≡ k = omega arith in
    get_or-bytes_at (written start bytes pieces) start (length bytes) k m
    ∙ (byte_written start bytes pieces (start + k) (omega arith) (omega arith)
    (each_good (write_fault pieces) start (length bytes) (start + k) good (omega arith) (omega arith))
    ∙ ap (λ i. get_or bytes i 0) back))

dword_back : (pieces : List Piece) (at n : ℕ) → n < 2 ^ 32 → first_fault (write_fault pieces) at 4 ≡ None
    → dword_at (written at (to_le_bytes w32 n) pieces) at ≡ n
dword_back pieces at n small good =
    ap (from_le_bytes w32) (written_back at (to_le_bytes w32 n) pieces good) ∙ from_le_bytes-to_le_bytes_4 n small

-- what was written can be read
kinds_written : (start : ℕ) (bytes : List ℕ) (pieces : List Piece) (a : ℕ)
    → option_map kind_of (holding (written start bytes pieces) a) ≡ option_map kind_of (holding pieces a)
kinds_written start bytes [] a = refl
kinds_written start bytes (x ∷ xs) a =
    rw (length-overlaid start bytes x.base x.bytes)
    (elim (lies_in a (piece_range x)) as
    (λ b. option_map kind_of (cond b (Some (overlaid_piece start bytes x)) (holding (written start bytes xs) a))
    ≡ option_map kind_of (cond b (Some x) (holding xs a))) [ true ↦ refl | false ↦ kinds_written start bytes xs a ])

read_where_written : (kind : Option Kind) → unwritable kind ≡ None → unreadable kind ≡ None
read_where_written None h = cc
read_where_written (Some Code) h = cc
read_where_written (Some ReadOnly) h = refl
read_where_written (Some Writable) h = refl

read_back : (pieces : List Piece) (at n : ℕ) (bytes : List ℕ) → first_fault (write_fault pieces) at n ≡ None
    → first_fault (read_fault (written at bytes pieces)) at n ≡ None
read_back pieces at n bytes good =
    all_good (read_fault (written at bytes pieces)) at n (λ k l.
    ap unreadable (kinds_written at bytes pieces (at + k))
    ∙ read_where_written _ (each_good (write_fault pieces) at n (at + k) good (omega arith) (omega arith)))

-- ESP after it took a number
esp_taken : (old : List ℕ) (v : ℕ) → length old ≡ 8 → get_or (registers_with old Dword registers.Esp v) 4 0 ≡ v
unfolding registers_with
esp_taken old v long = get_or-set_same old 4 v 0 (omega arith)

same_top : (thread : Thread) (d : Decoded) → stack_top (found thread d) ≡ esp_of thread
unfolding register_value
same_top thread d = refl

call_done : (contents : Contents) (thread : Thread) (d : Decoded) (target : ℕ) → length thread.registers ≡ 8
    → store_fault contents (called target (found thread d)).store ≡ None
    → IsCalled thread d (unless_barred None contents thread (called target (found thread d)))
call_done contents thread d target long good =
    let top = esp_taken thread.registers (below (stack_top (found thread d)) 4) long in
    record {
      esp = top ∙ ap (λ esp. below esp 4) (same_top thread d);
      readable = rw top (read_back contents.pieces (below (stack_top (found thread d)) 4) 4 _ good);
      pushed = ap (dword_at _) top
          ∙ dword_back contents.pieces (below (stack_top (found thread d)) 4) (above thread.pc d.length) (omega arith)
          good;
    }

call_barred : (fault : Option Fault) (contents : Contents) (thread : Thread) (d : Decoded) (change : Change)
    → length thread.registers ≡ 8 → store_fault contents change.store ≡ fault
    → ByFlow (number_at contents.pieces) (found thread d) change change.flow
    → (unless_barred fault contents thread change).outcome ≡ Moved flows.Call
    → IsCalled thread d (unless_barred fault contents thread change)
call_barred (Some fault) contents thread d change long bad tells out = cc
call_barred None contents thread d change long good tells out =
    let flow : change.flow ≡ flows.Call = cc in
    let is = subst (ByFlow (number_at contents.pieces) (found thread d) change) flow tells in
    subst (λ (c : Change). store_fault contents c.store ≡ None
    → IsCalled thread d (unless_barred None contents thread c)) (sym is.1)
    (call_done contents thread d is.0 long) good

call_of : (contents : Contents) (thread : Thread) (d : Decoded) (change : Result Change Fault)
    → length thread.registers ≡ 8
    → Tells (number_at contents.pieces) (found thread d) change
    → (done contents thread change).outcome ≡ Moved flows.Call
    → IsCalled thread d (done contents thread change)
call_of contents thread d (Err fault) long tells out = cc
call_of contents thread d (Ok change) long tells out =
    call_barred (store_fault contents change.store) contents thread d change long refl tells out

pub calls : (contents : Contents) (thread : Thread) (d : Decoded) → length thread.registers ≡ 8
    → (carried_out contents thread (Some d)).outcome ≡ Moved flows.Call
    → IsCalled thread d (carried_out contents thread (Some d))
calls contents thread d long out =
    call_of contents thread d (executed (number_at contents.pieces) d (context_of thread)) long
    (by_decoded (number_at contents.pieces) thread d) out

number_read : (fault : Option Fault) (x y : ℕ) → unless_fault fault x ≡ Ok y → y ≡ x
number_read None x y h = cc
number_read (Some fault) x y h = cc

dword_read : (pieces : List Piece) (at n : ℕ) → number_at pieces Dword at ≡ Ok n → n ≡ dword_at pieces at
unfolding number_at
dword_read pieces at n h = number_read (first_fault (read_fault pieces) at 4) (dword_at pieces at) n h

return_barred : (fault : Option Fault) (contents : Contents) (thread : Thread) (d : Decoded) (change : Change)
    → ByFlow (number_at contents.pieces) (found thread d) change change.flow
    → (unless_barred fault contents thread change).outcome ≡ Moved flows.Return
    → IsReturned contents.pieces thread (unless_barred fault contents thread change)
return_barred (Some fault) contents thread d change tells out = cc
return_barred None contents thread d change tells out =
    let flow : change.flow ≡ flows.Return = cc in
    let is = subst (ByFlow (number_at contents.pieces) (found thread d) change) flow tells in
    dword_read contents.pieces (stack_top (found thread d)) change.context.pc is
    ∙ ap (dword_at contents.pieces) (same_top thread d)

return_of : (contents : Contents) (thread : Thread) (d : Decoded) (change : Result Change Fault)
    → Tells (number_at contents.pieces) (found thread d) change
    → (done contents thread change).outcome ≡ Moved flows.Return
    → IsReturned contents.pieces thread (done contents thread change)
return_of contents thread d (Err fault) tells out = cc
return_of contents thread d (Ok change) tells out =
    return_barred (store_fault contents change.store) contents thread d change tells out

pub returns : (contents : Contents) (thread : Thread) (d : Decoded)
    → (carried_out contents thread (Some d)).outcome ≡ Moved flows.Return
    → IsReturned contents.pieces thread (carried_out contents thread (Some d))
returns contents thread d out =
    return_of contents thread d (executed (number_at contents.pieces) d (context_of thread))
    (by_decoded (number_at contents.pieces) thread d) out

-- what is carried out in a step is the instruction fetched
call_decoded : (contents : Contents) (thread : Thread) (decoded : Option Decoded) → length thread.registers ≡ 8
    → (carried_out contents thread decoded).outcome ≡ Moved flows.Call
    → IsSomeAnd decoded (λ d. IsCalled thread d (carried_out contents thread decoded))
call_decoded contents thread None long out = cc
call_decoded contents thread (Some d) long out = calls contents thread d long out

call_fetched : (contents : Contents) (thread : Thread) (window : Result Window Fault) → length thread.registers ≡ 8
    → (done contents thread (change_in contents.pieces (context_of thread) window)).outcome ≡ Moved flows.Call
    → IsSomeAnd (decoded_in window)
    (λ d. IsCalled thread d (done contents thread (change_in contents.pieces (context_of thread) window)))
call_fetched contents thread (Err fault) long out = cc
call_fetched contents thread (Ok window) long out =
    call_decoded contents thread (decoded_from (fetched window)) long out

return_decoded : (contents : Contents) (thread : Thread) (decoded : Option Decoded)
    → (carried_out contents thread decoded).outcome ≡ Moved flows.Return
    → IsReturned contents.pieces thread (carried_out contents thread decoded)
return_decoded contents thread None out = cc
return_decoded contents thread (Some d) out = returns contents thread d out

return_fetched : (contents : Contents) (thread : Thread) (window : Result Window Fault)
    → (done contents thread (change_in contents.pieces (context_of thread) window)).outcome ≡ Moved flows.Return
    → IsReturned contents.pieces thread (done contents thread (change_in contents.pieces (context_of thread) window))
return_fetched contents thread (Err fault) out = cc
return_fetched contents thread (Ok window) out = return_decoded contents thread (decoded_from (fetched window)) out

pub step_calls : (contents : Contents) (thread : Thread) → length thread.registers ≡ 8
    → (stepped contents thread).outcome ≡ Moved flows.Call
    → IsSomeAnd (instruction_at contents thread.pc) (λ d. IsCalled thread d (stepped contents thread))
unfolding stepped next_change
step_calls contents thread long =
    elim (thread.pc == 0xFFFF_0000)
    as (λ b. (if b then exits contents thread else done contents thread (next_change contents thread)).outcome
    ≡ Moved flows.Call
    → IsSomeAnd (instruction_at contents thread.pc)
    (λ d.
    IsCalled thread d (if b then exits contents thread else done contents thread (next_change contents thread)))) [
      | true ↦ λ out. cc
      | false ↦ call_fetched contents thread (window_at contents thread.pc) long
    ]

pub step_returns : (contents : Contents) (thread : Thread) → (stepped contents thread).outcome ≡ Moved flows.Return
    → IsReturned contents.pieces thread (stepped contents thread)
unfolding stepped next_change
step_returns contents thread =
    elim (thread.pc == 0xFFFF_0000)
    as (λ b. (if b then exits contents thread else done contents thread (next_change contents thread)).outcome
    ≡ Moved flows.Return
    → IsReturned contents.pieces thread
    (if b then exits contents thread else done contents thread (next_change contents thread))) [
      | true ↦ λ out. cc
      | false ↦ return_fetched contents thread (window_at contents thread.pc)
    ]

-- what can be read lies below where the pieces end
read_below : (limit : ℕ) (pieces : List Piece) (a : ℕ) → All (λ piece. (piece_range piece).high ≤ limit) pieces
    → read_fault pieces a ≡ None → a < limit
read_below limit [] a low good = cc
read_below limit (x ∷ xs) a low good =
    let P : Piece → Type 0 = λ piece. (piece_range piece).high ≤ limit in
    elim (lies_in a (piece_range x)) as
    (λ b. lies_in a (piece_range x) ≡ b → unreadable (option_map kind_of (cond b (Some x) (holding xs a))) ≡ None
    → a < limit) [
      | true ↦ λ here _.
          let first : (piece_range x).high ≤ limit = All-head P x xs low in
          grind (arith, nat_tests)
      | false ↦ λ _ later. read_below limit xs a (All-tail P x xs low) later
    ] refl good

-- so ESP doesn't wrap below 0 at a call
pub call_falls : (thread : Thread) (call : Decoded) (after : Left) → IsCalled thread call after
    → ArePlaced after.contents.pieces
    → esp_of thread < 2 ^ 32 → esp_of after.thread + 4 ≡ esp_of thread
call_falls thread call after is placed small =
    let esp = is.esp in
    let good =
    each_good (read_fault after.contents.pieces) (esp_of after.thread) 4 (esp_of after.thread) is.readable
    (omega arith) (omega arith) in
    let low = read_below 0xFFFF_0000 after.contents.pieces (esp_of after.thread) placed.end_below good in
    omega arith
