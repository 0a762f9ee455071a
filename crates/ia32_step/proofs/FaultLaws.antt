-- Why no instruction stops a thread as a retired range does.
use Rattle.std.proofs.Common.{◌≡◌, ◌≢◌, ℕ, zero, suc, ◌+◌, Bool, true, false, if◌then◌else◌, ◌||◌, ◌&&◌, not}
use Rattle.std.proofs.Common.{List, Option, Some, None, Result, Ok, Err, subst}
use Rattle.std.specs.Option.{option_map, option_or}
use Rattle.ks_base.specs.declared.refusals.Fault.{Fault}
use Rattle.ks_base.specs.declared.refusals.Fault.TheVariants.{Stray, Unsupported, Trap, BadLock}
use Rattle.image_memory.specs.declared.types.Kind.{Kind}
use Rattle.image_memory.specs.declared.types.Kind.TheVariants.{Code, ReadOnly, Writable}
use Rattle.image_memory.specs.declared.types.Piece.{Piece}
use Rattle.image_memory.specs.Contents.{Contents, holding}
use Rattle.image_memory.specs.Access.{kind_of, unreadable, unwritable, read_fault, write_fault, first_fault}
use Rattle.ia32_alu.specs.declared.types.Width.{Width}
use Rattle.ia32_alu.specs.declared.types.Width.TheVariants.{Dword}
use Rattle.ia32_alu.specs.declared.types.Binary.{Binary}
use Rattle.ia32_alu.specs.declared.types.Unary.{Unary as UnaryOperation}
use Rattle.ia32_alu.specs.declared.types.Shift.{Shift as ShiftOperation}
use Rattle.ia32_alu.specs.Widths.{byte_count}
use Rattle.ia32_decode.specs.declared.types.Register.{Register}
use Rattle.ia32_decode.specs.declared.types.Register.TheVariants as registers
use Rattle.ia32_decode.specs.declared.types.Condition.{Condition}
use Rattle.ia32_decode.specs.declared.types.Operand.{Operand}
use Rattle.ia32_decode.specs.declared.types.Operand.TheVariants as operands
use Rattle.ia32_decode.specs.declared.types.Source.{Source}
use Rattle.ia32_decode.specs.declared.types.Source.TheVariants.{Register as OfRegister, Operand as OfOperand, Immediate}
use Rattle.ia32_decode.specs.declared.types.Decoded.{Decoded}
use Rattle.ia32_decode.specs.declared.types.Instr.{Instr}
use Rattle.ia32_decode.specs.declared.types.Action.{Action}
use Rattle.ia32_decode.specs.declared.types.Action.TheVariants.{Arithmetic, Unary, Push, Pop, Multiply, Exchange, Move}
use Rattle.ia32_decode.specs.declared.types.Action.TheVariants.{LoadAccumulator, Shift, ReturnAndRelease, Return, Leave}
use Rattle.ia32_decode.specs.declared.types.Action.TheVariants.{MultiplyAccumulator, Divide, CallOperand, JumpOperand}
use Rattle.ia32_decode.specs.declared.types.Action.TheVariants.{MoveIf, CompareExchange, ExchangeAdd, ZeroExtend}
use Rattle.ia32_decode.specs.declared.types.Action.TheVariants.{SignExtend}
use Rattle.ia32_step.specs.declared.types.Context.{Context}
use Rattle.ia32_step.specs.declared.types.Place.{Place}
use Rattle.ia32_step.specs.declared.types.Place.TheVariants.{InRegister, InMemory}
use Rattle.ia32_step.specs.declared.types.Store.{Store}
use Rattle.ia32_step.specs.declared.types.Thread.{Thread}
use Rattle.ia32_step.specs.declared.types.Change.{Change}
use Rattle.ia32_step.specs.declared.types.Outcome.TheVariants.{Stopped}
use Rattle.ia32_step.specs.Operands.{Reader, given, place_of, value_at, operand_value, source_value, destination_of}
use Rattle.ia32_step.specs.Operands.{number_at}
use Rattle.ia32_step.specs.Operands.{unless_fault}
use Rattle.ia32_step.specs.Changes.{at_address, above, popped}
use Rattle.ia32_step.specs.Arithmetic.{combined, altered, takes_width, count_of, shifted, multiplied, product_taken}
use Rattle.ia32_step.specs.Arithmetic.{with_quotient, divided}
use Rattle.ia32_step.specs.Moves.{copied, accumulator_loaded, exchanged, exchanged_and_added, compare_exchanged, copied_if}
use Rattle.ia32_step.specs.Moves.{zero_extended_to, sign_extended_to}
use Rattle.ia32_step.specs.Stack.{pushed, popped_to, left}
use Rattle.ia32_step.specs.Branches.{jumped_to, called_to, returned}
use Rattle.ia32_step.specs.Exec.{done_by, is_stepped, refuses_prefixes, traps, takes_lock, executed}
use Rattle.ia32_step.specs.Step.{context_of, store_fault, unless_barred, done, change_by, carried_out}

-- a fault that isn't that of a retired range
abbrev Other : Fault → Type 0
Other Stray = ⊥
Other fault = Unit {0}

-- what ends with no fault, or with another than that
abbrev Clear : {X : Type 0} → Result X Fault → Type 0
Clear (Ok x) = Unit {0}
Clear (Err fault) = Other fault

abbrev ClearOf : Option Fault → Type 0
ClearOf None = Unit {0}
ClearOf (Some fault) = Other fault

after_read : (r : Result ℕ Fault) (next : ℕ → Result Change Fault) → Clear r → ((x : ℕ) → Clear (next x))
    → Clear (given r next)
after_read (Err fault) next h k = h
after_read (Ok x) next h k = k x

-- an instruction ends with no other faults than those of its reads and its own
module _ (read : Reader) (reads : (width : Width) (address : ℕ) → Clear (read width address)) where
  at_place : (numbers : List ℕ) (width : Width) (place : Place) → Clear (value_at read numbers width place)
  unfolding value_at
  at_place numbers width (InRegister r) = tt
  at_place numbers width (InMemory address) = reads width address

  by_operand : (context : Context) (width : Width) (operand : Operand) (next : ℕ → Result Change Fault)
      → ((x : ℕ) → Clear (next x)) → Clear (given (operand_value read context width operand) next)
  by_operand context width operand next h =
      after_read (operand_value read context width operand) next
      (at_place context.registers width (place_of context.registers operand)) h

  by_source : (context : Context) (source : Source) (i : Instr) → Clear (source_value read context source i)
  by_source context OfRegister i = tt
  by_source context OfOperand i = at_place context.registers i.width (place_of context.registers i.operand)
  by_source context Immediate i = tt

  by_combining : (operation : Binary) (width : Width) (operand : Operand) (source : Result ℕ Fault)
      (context : Context) → Clear source → Clear (combined read operation width operand source context)
  unfolding combined
  by_combining operation width operand source context h =
      by_operand context width operand _ (λ a. after_read source _ h (λ b. tt))

  by_altering : (operation : UnaryOperation) (width : Width) (operand : Operand) (context : Context)
      → Clear (altered read operation width operand context)
  unfolding altered
  by_altering operation width operand context = by_operand context width operand _ (λ a. tt)

  unless : (b : Bool) (fault : Fault) (r : Result Change Fault) → Other fault → Clear r
      → Clear (if b then Err fault else r)
  unless true fault r h k = h
  unless false fault r h k = k

  by_shifting : (operation : ShiftOperation) (width : Width) (operand : Operand) (count : ℕ) (context : Context)
      → Clear (shifted read operation width operand count context)
  unfolding shifted
  by_shifting operation width operand count context =
      unless (not (takes_width operation width)) Unsupported _ tt (by_operand context width operand _ (λ a. tt))

  by_multiplying : (sign : Bool) (width : Width) (operand : Operand) (context : Context)
      → Clear (multiplied read sign width operand context)
  unfolding multiplied
  by_multiplying sign width operand context = by_operand context width operand _ (λ b. tt)

  by_product : (width : Width) (r : Register) (operand : Operand) (factor : Result ℕ Fault) (context : Context)
      → Clear factor → Clear (product_taken read width r operand factor context)
  unfolding product_taken
  by_product width r operand factor context h =
      by_operand context width operand _ (λ a. after_read factor _ h (λ b. tt))

  by_quotient : (width : Width) (both : Option (ℕ × ℕ)) (context : Context)
      → Clear (with_quotient width both context)
  by_quotient width None context = tt
  by_quotient width (Some both) context = tt

  by_dividing : (sign : Bool) (width : Width) (operand : Operand) (context : Context)
      → Clear (divided read sign width operand context)
  unfolding divided
  by_dividing sign width operand context =
      by_operand context width operand _ (λ by. by_quotient width _ context)

  by_copying : (width : Width) (destination : Operand) (source : Result ℕ Fault) (context : Context) → Clear source
      → Clear (copied width destination source context)
  unfolding copied
  by_copying width destination source context h = after_read source _ h (λ v. tt)

  by_loading : (width : Width) (address : ℕ) (context : Context)
      → Clear (accumulator_loaded read width address context)
  unfolding accumulator_loaded
  by_loading width address context = after_read (read width address) _ (reads width address) (λ v. tt)

  by_exchange : (width : Width) (operand : Operand) (r : Register) (context : Context)
      → Clear (exchanged read width operand r context)
  unfolding exchanged
  by_exchange width operand r context = by_operand context width operand _ (λ v. tt)

  by_adding : (width : Width) (operand : Operand) (r : Register) (context : Context)
      → Clear (exchanged_and_added read width operand r context)
  unfolding exchanged_and_added
  by_adding width operand r context = by_operand context width operand _ (λ a. tt)

  by_comparing : (width : Width) (operand : Operand) (r : Register) (context : Context)
      → Clear (compare_exchanged read width operand r context)
  unfolding compare_exchanged
  by_comparing width operand r context = by_operand context width operand _ (λ a. tt)

  by_copying_if : (condition : Condition) (width : Width) (r : Register) (source : Operand) (context : Context)
      → Clear (copied_if read condition width r source context)
  unfolding copied_if
  by_copying_if condition width r source context = by_operand context width source _ (λ v. tt)

  by_zeros : (from width : Width) (r : Register) (source : Operand) (context : Context)
      → Clear (zero_extended_to read from width r source context)
  unfolding zero_extended_to
  by_zeros from width r source context = by_operand context from source _ (λ v. tt)

  by_sign : (from width : Width) (r : Register) (source : Operand) (context : Context)
      → Clear (sign_extended_to read from width r source context)
  unfolding sign_extended_to
  by_sign from width r source context = by_operand context from source _ (λ v. tt)

  by_push : (source : Result ℕ Fault) (context : Context) → Clear source → Clear (pushed source context)
  unfolding pushed
  by_push source context h = after_read source _ h (λ v. tt)

  by_pop : (operand : Operand) (context : Context) → Clear (popped_to read operand context)
  unfolding popped_to
  by_pop operand context = after_read (popped read context) _ (reads Dword _) (λ v. tt)

  by_leaving : (context : Context) → Clear (left read context)
  unfolding left
  by_leaving context = by_pop (operands.Register registers.Ebp) _

  by_jump : (operand : Operand) (context : Context) → Clear (jumped_to read operand context)
  unfolding jumped_to
  by_jump operand context = by_operand context Dword operand _ (λ target. tt)

  by_call : (operand : Operand) (context : Context) → Clear (called_to read operand context)
  unfolding called_to
  by_call operand context = by_operand context Dword operand _ (λ target. tt)

  by_return : (n : ℕ) (context : Context) → Clear (returned read n context)
  unfolding returned
  by_return n context = after_read (popped read context) _ (reads Dword _) (λ target. tt)

  by_action : (action : Action) (i : Instr) (context : Context) → Clear (done_by read action i context)
  unfolding done_by
  by_action (Arithmetic operation source) i context =
      by_combining operation i.width (destination_of source i) (source_value read context source i) context
      (by_source context source i)
  by_action (Unary operation) i context = by_altering operation i.width i.operand context
  by_action (MultiplyAccumulator signed) i context = by_multiplying signed i.width i.operand context
  by_action (Divide signed) i context = by_dividing signed i.width i.operand context
  by_action (Multiply source) i context =
      by_product i.width i.register i.operand (source_value read context source i) context (by_source context source i)
  by_action (Shift operation count) i context =
      by_shifting operation i.width i.operand (count_of count i.value context) context
  by_action (Move source) i context =
      by_copying i.width (destination_of source i) (source_value read context source i) context
      (by_source context source i)
  by_action LoadAccumulator i context = by_loading i.width i.value context
  by_action Exchange i context = by_exchange i.width i.operand i.register context
  by_action ExchangeAdd i context = by_adding i.width i.operand i.register context
  by_action CompareExchange i context = by_comparing i.width i.operand i.register context
  by_action (MoveIf condition) i context = by_copying_if condition i.width i.register i.operand context
  by_action (ZeroExtend from) i context = by_zeros from i.width i.register i.operand context
  by_action (SignExtend from) i context = by_sign from i.width i.register i.operand context
  by_action (Push source) i context = by_push (source_value read context source i) context (by_source context source i)
  by_action Pop i context = by_pop i.operand context
  by_action Leave i context = by_leaving context
  by_action JumpOperand i context = by_jump i.operand context
  by_action CallOperand i context = by_call i.operand context
  by_action Return i context = by_return 0 context
  by_action ReturnAndRelease i context = by_return i.value context
  by_action other i context = tt

  by_decoded : (d : Decoded) (context : Context) → Clear (executed read d context)
  unfolding executed
  by_decoded d context =
      unless (not (is_stepped d.instr.action d.instr.width) || refuses_prefixes d.prefixes d.instr.action) Unsupported _ tt
      (unless (traps d.instr.action) Trap _ tt
      (unless (d.prefixes.lock && not (takes_lock d.instr.action d.instr)) BadLock _ tt
      (by_action d.instr.action d.instr (at_address (above context.pc d.length) context))))

-- memory has no such fault either
first_clear : (fault_at : ℕ → Option Fault) (address n : ℕ) → ((a : ℕ) → ClearOf (fault_at a))
    → ClearOf (first_fault fault_at address n)
unfolding first_fault
first_clear fault_at address zero h = tt
first_clear fault_at address (suc n) h =
    either (first_fault fault_at address n) (fault_at (address + n)) (first_clear fault_at address n h)
    (h (address + n))
  where
    either : (x y : Option Fault) → ClearOf x → ClearOf y → ClearOf (option_or x y)
    either None y h k = k
    either (Some fault) y h k = h

by_reading : (kind : Option Kind) → ClearOf (unreadable kind)
by_reading None = tt
by_reading (Some Code) = tt
by_reading (Some ReadOnly) = tt
by_reading (Some Writable) = tt

by_writing : (kind : Option Kind) → ClearOf (unwritable kind)
by_writing None = tt
by_writing (Some Code) = tt
by_writing (Some ReadOnly) = tt
by_writing (Some Writable) = tt

number_clear : (pieces : List Piece) (width : Width) (address : ℕ) → Clear (number_at pieces width address)
unfolding number_at
number_clear pieces width address =
    of_fault (first_fault (read_fault pieces) address (byte_count width)) _
    (first_clear (read_fault pieces) address (byte_count width)
    (λ a. by_reading (option_map kind_of (holding pieces a))))
  where
    of_fault : (fault : Option Fault) (x : ℕ) → ClearOf fault → Clear (unless_fault fault x)
    of_fault None x h = tt
    of_fault (Some fault) x h = h

store_clear : (contents : Contents) (store : Option Store) → ClearOf (store_fault contents store)
store_clear contents None = tt
store_clear contents (Some store) =
    first_clear (write_fault contents.pieces) store.address (byte_count store.width)
    (λ a. by_writing (option_map kind_of (holding contents.pieces a)))

change_clear : (pieces : List Piece) (context : Context) (decoded : Option Decoded)
    → Clear (change_by pieces context decoded)
change_clear pieces context None = tt
change_clear pieces context (Some d) = by_decoded (number_at pieces) (number_clear pieces) d context

barred_clear : (fault : Option Fault) (contents : Contents) (thread : Thread) (change : Change) → ClearOf fault
    → (unless_barred fault contents thread change).outcome ≢ Stopped Stray
barred_clear None contents thread change h = λ out. cc
barred_clear (Some fault) contents thread change h = λ out.
    let same : fault ≡ Stray = cc in
    subst Other same h

done_clear : (contents : Contents) (thread : Thread) (change : Result Change Fault) → Clear change
    → (done contents thread change).outcome ≢ Stopped Stray
done_clear contents thread (Err fault) h = λ out.
    let same : fault ≡ Stray = cc in
    subst Other same h
done_clear contents thread (Ok change) h =
    barred_clear (store_fault contents change.store) contents thread change (store_clear contents change.store)

pub never_stray : (contents : Contents) (thread : Thread) (decoded : Option Decoded)
    → (carried_out contents thread decoded).outcome ≢ Stopped Stray
never_stray contents thread decoded =
    done_clear contents thread _ (change_clear contents.pieces (context_of thread) decoded)
