-- What an instruction does, and which are not carried out.
use Rattle.std.specs.Prelude.{Bool, true, false, ◌&&◌, ◌||◌, not, if◌then◌else◌, Result, Ok, Err}
use Rattle.ks_base.specs.declared.refusals.Fault.{Fault}
use Rattle.ks_base.specs.declared.refusals.Fault.TheVariants.{Unsupported, Trap, BadLock}
use Rattle.ia32_alu.specs.declared.types.Width.{Width}
use Rattle.ia32_alu.specs.declared.types.Binary.{Binary}
use Rattle.ia32_alu.specs.declared.types.Binary.TheVariants.{Cmp, Test}
use Rattle.ia32_alu.specs.Widths.{is_dword}
use Rattle.ia32_decode.specs.declared.types.Operand.{Operand}
use Rattle.ia32_decode.specs.declared.types.Operand.TheVariants as operands
use Rattle.ia32_decode.specs.declared.types.Instr.{Instr}
use Rattle.ia32_decode.specs.declared.types.Action.{Action}
use Rattle.ia32_decode.specs.declared.types.Action.TheVariants.{Arithmetic, Unary, Push, Pop, Multiply, JumpIf}
use Rattle.ia32_decode.specs.declared.types.Action.TheVariants.{Exchange, Move, LoadAccumulator, StoreAccumulator}
use Rattle.ia32_decode.specs.declared.types.Action.TheVariants.{LoadAddress, Nop, ExtendAccumulator, SpreadSign, Shift}
use Rattle.ia32_decode.specs.declared.types.Action.TheVariants.{ReturnAndRelease, Return, Leave, Call, Jump}
use Rattle.ia32_decode.specs.declared.types.Action.TheVariants.{MultiplyAccumulator, Divide, CallOperand, JumpOperand}
use Rattle.ia32_decode.specs.declared.types.Action.TheVariants.{EndBranch, NopOperand, MoveIf, SetIf, CompareExchange}
use Rattle.ia32_decode.specs.declared.types.Action.TheVariants.{ExchangeAdd, ZeroExtend, SignExtend, Breakpoint}
use Rattle.ia32_decode.specs.declared.types.Action.TheVariants.{Undefined, LoopBranch, LengthOnly}
use Rattle.ia32_decode.specs.declared.types.Prefixes.{Prefixes}
use Rattle.ia32_decode.specs.declared.types.Decoded.{Decoded}
use Rattle.ia32_step.specs.declared.types.Context.{Context}
use Rattle.ia32_step.specs.declared.types.Change.{Change}
use Rattle.ia32_step.specs.Operands.{Reader, source_value, destination_of}
use Rattle.ia32_step.specs.Changes.{goes_on, at_address, above}
use Rattle.ia32_step.specs.Arithmetic.{combined, altered, takes_width, count_of, shifted, multiplied, product_taken}
use Rattle.ia32_step.specs.Arithmetic.{divided}
use Rattle.ia32_step.specs.Moves.{copied, accumulator_loaded, accumulator_stored, address_taken, exchanged, exchanged_and_added, compare_exchanged, copied_if}
use Rattle.ia32_step.specs.Moves.{set_by, zero_extended_to, sign_extended_to, accumulator_extended, sign_spread}
use Rattle.ia32_step.specs.Stack.{pushed, popped_to, left}
use Rattle.ia32_step.specs.Branches.{jumped_by, jumped_if, jumped_to, called_by, called_to, returned}

-- What an action of an instruction does to a thread whose pc is the address after it. Pushes, pops, LEAVE, RET and
-- indirect jumps and calls are those of 32 bits: no others come here.
unfoldable pub done_by : Reader → Action → Instr → Context → Result Change Fault
done_by read (Arithmetic operation source) i context =
    combined read operation i.width (destination_of source i) (source_value read context source i) context
done_by read (Unary operation) i context = altered read operation i.width i.operand context
done_by read (MultiplyAccumulator signed) i context = multiplied read signed i.width i.operand context
done_by read (Divide signed) i context = divided read signed i.width i.operand context
done_by read (Multiply source) i context =
    product_taken read i.width i.register i.operand (source_value read context source i) context
done_by read (Shift operation count) i context =
    shifted read operation i.width i.operand (count_of count i.value context) context
done_by read (Move source) i context =
    copied i.width (destination_of source i) (source_value read context source i) context
done_by read LoadAccumulator i context = accumulator_loaded read i.width i.value context
done_by read StoreAccumulator i context = Ok (accumulator_stored i.width i.value context)
done_by read LoadAddress i context = Ok (address_taken i.width i.register i.operand context)
done_by read Exchange i context = exchanged read i.width i.operand i.register context
done_by read ExchangeAdd i context = exchanged_and_added read i.width i.operand i.register context
done_by read CompareExchange i context = compare_exchanged read i.width i.operand i.register context
done_by read (MoveIf condition) i context = copied_if read condition i.width i.register i.operand context
done_by read (SetIf condition) i context = Ok (set_by condition i.operand context)
done_by read (ZeroExtend from) i context = zero_extended_to read from i.width i.register i.operand context
done_by read (SignExtend from) i context = sign_extended_to read from i.width i.register i.operand context
done_by read ExtendAccumulator i context = Ok (accumulator_extended i.width context)
done_by read SpreadSign i context = Ok (sign_spread i.width context)
done_by read (Push source) i context = pushed (source_value read context source i) context
done_by read Pop i context = popped_to read i.operand context
done_by read Leave i context = left read context
done_by read (JumpIf condition) i context = Ok (jumped_if condition i.value context)
done_by read Jump i context = Ok (jumped_by i.value context)
done_by read JumpOperand i context = jumped_to read i.operand context
done_by read Call i context = Ok (called_by i.value context)
done_by read CallOperand i context = called_to read i.operand context
done_by read Return i context = returned read 0 context
done_by read ReturnAndRelease i context = returned read i.value context
done_by read Nop i context = Ok (goes_on context)
done_by read EndBranch i context = Ok (goes_on context)
done_by read NopOperand i context = Ok (goes_on context)
done_by read Breakpoint i context = Err Trap
done_by read Undefined i context = Err Trap
done_by read (LoopBranch opcode) i context = Err Unsupported
done_by read LengthOnly i context = Err Unsupported

abbrev pub change_of : Reader → Instr → Context → Result Change Fault
change_of read i context = done_by read i.action i context

-- Whether an action at a width is carried out or traps. A shift is at the widths that it takes; a push, a pop, LEAVE,
-- RET, and an indirect jump or call at 32 bits alone (own). Of those that never are the length alone is known.
unfoldable pub is_stepped : Action → Width → Bool
is_stepped (Shift operation count) width = takes_width operation width
is_stepped (Push source) width = is_dword width
is_stepped Pop width = is_dword width
is_stepped Leave width = is_dword width
is_stepped JumpOperand width = is_dword width
is_stepped CallOperand width = is_dword width
is_stepped Return width = is_dword width
is_stepped ReturnAndRelease width = is_dword width
is_stepped (LoopBranch opcode) width = false
is_stepped LengthOnly width = false
is_stepped other width = true

-- where the prefix F3 may stand: F3 90 is PAUSE, before C3 it has no effect (own), and F3 0F 1E FB is ENDBR32
abbrev pub takes_repeat : Action → Bool
takes_repeat Nop = true
takes_repeat Return = true
takes_repeat EndBranch = true
takes_repeat other = false

-- whether there is a prefix with which nothing is carried out: F2, 64 or 65, or F3 elsewhere (own). The prefixes 26,
-- 2E, 36 and 3E have no effect (own).
unfoldable pub refuses_prefixes : Prefixes → Action → Bool
refuses_prefixes prefixes action =
    prefixes.repeat_not_equal || prefixes.segment_f || prefixes.segment_g
    || (prefixes.repeat && not (takes_repeat action))

abbrev pub traps : Action → Bool
traps Breakpoint = true
traps Undefined = true
traps other = false

abbrev pub is_memory : Operand → Bool
is_memory (operands.Memory memory) = true
is_memory (operands.Register r) = false

abbrev pub writes : Binary → Bool
writes Cmp = false
writes Test = false
writes other = true

-- Where the prefix F0 may stand: ADD, OR, ADC, SBB, AND, SUB, XOR, INC, DEC, NOT, NEG, XCHG, CMPXCHG and XADD whose
-- destination is memory (Intel SDM volume 2, LOCK; the others that it names there aren't carried out here).
unfoldable pub takes_lock : Action → Instr → Bool
takes_lock (Arithmetic operation source) i = writes operation && is_memory (destination_of source i)
takes_lock (Unary operation) i = is_memory i.operand
takes_lock Exchange i = is_memory i.operand
takes_lock CompareExchange i = is_memory i.operand
takes_lock ExchangeAdd i = is_memory i.operand
takes_lock other i = false

-- What an instruction does, or the first of its faults in this order (own): it isn't carried out, it traps, it has a
-- LOCK prefix where none may stand, and then those of its reads and of a division. What it writes is tried after that.
unfoldable pub executed : Reader → Decoded → Context → Result Change Fault
executed read d context =
    if not (is_stepped d.instr.action d.instr.width) || refuses_prefixes d.prefixes d.instr.action then Err Unsupported
    else (if traps d.instr.action then Err Trap
    else (if d.prefixes.lock && not (takes_lock d.instr.action d.instr) then Err BadLock
    else change_of read d.instr (at_address (above context.pc d.length) context)))
