-- The instruction that each line of the opcode table means.
use Rattle.std.specs.Prelude.{ℕ, ◌/◌, ◌%◌, true, false, [], ◌∷◌, Option, Some, None, ◌==◌, if◌then◌else◌}
use Rattle.std.specs.List.{slice_index_or}
use Rattle.ia32_decode.specs.declared.opcode_table.Line.{Line}
use Rattle.ia32_decode.specs.declared.opcode_table.Line.TheVariants.{NoLine, AluTo, AluFrom, AluEax, Inc, Dec, Push}
use Rattle.ia32_decode.specs.declared.opcode_table.Line.TheVariants.{Pop, PushNumber, PushByte, ImulNumber, ImulByte}
use Rattle.ia32_decode.specs.declared.opcode_table.Line.TheVariants.{JccShort, AluNumber, AluByte, Test, Xchg, MovTo}
use Rattle.ia32_decode.specs.declared.opcode_table.Line.TheVariants.{MovFrom, Lea, PopOperand, Nop, XchgEax, Cwde}
use Rattle.ia32_decode.specs.declared.opcode_table.Line.TheVariants.{Cdq, LoadEax, StoreEax, TestEax, MovByte}
use Rattle.ia32_decode.specs.declared.opcode_table.Line.TheVariants.{MovFull, ShiftByte, ShiftOne, ShiftCl, RetWord}
use Rattle.ia32_decode.specs.declared.opcode_table.Line.TheVariants.{Ret, MovNumber, Leave, Call, Jmp, JmpShort}
use Rattle.ia32_decode.specs.declared.opcode_table.Line.TheVariants.{GroupThree, GroupFour, GroupFive, Endbr32}
use Rattle.ia32_decode.specs.declared.opcode_table.Line.TheVariants.{NopOperand, Cmovcc, Jcc, Setcc, Imul, Cmpxchg}
use Rattle.ia32_decode.specs.declared.opcode_table.Line.TheVariants.{Xadd, MovzxByte, MovzxWord, MovsxByte, MovsxWord}
use Rattle.ia32_decode.specs.declared.opcode_table.Line.TheVariants.{Int3, Ud2, OpcodeOnly, Int, Loop, Float}
use Rattle.ia32_decode.specs.declared.opcode_table.Line.TheVariants.{SecondOnly, SecondRm, ShiftPair, BitTest}
use Rattle.ia32_decode.specs.declared.opcode_table.Line.TheVariants.{Cmpxchg8b}
use Rattle.ia32_decode.specs.declared.instructions.Parts.{Parts}
use Rattle.ia32_alu.specs.declared.types.Width.TheVariants.{Byte as Width8, Word as Width16}
use Rattle.ia32_alu.specs.declared.types.Binary.{Binary}
use Rattle.ia32_alu.specs.declared.types.Binary.TheVariants.{Add, Or, Adc, Sbb, And, Sub, Xor, Cmp}
use Rattle.ia32_alu.specs.declared.types.Binary.TheVariants as binary
use Rattle.ia32_alu.specs.declared.types.Unary.{Unary}
use Rattle.ia32_alu.specs.declared.types.Unary.TheVariants as unary
use Rattle.ia32_alu.specs.declared.types.Shift.{Shift}
use Rattle.ia32_alu.specs.declared.types.Shift.TheVariants.{Rol, Ror, Shl, Shr, Sar}
use Rattle.ia32_decode.specs.declared.types.Condition.{Condition}
use Rattle.ia32_decode.specs.declared.types.Condition.TheVariants.{Overflow, NoOverflow, Below, AboveOrEqual, Equal}
use Rattle.ia32_decode.specs.declared.types.Condition.TheVariants.{NotEqual, BelowOrEqual, Above, Sign, NoSign}
use Rattle.ia32_decode.specs.declared.types.Condition.TheVariants.{Parity, NoParity, Less, GreaterOrEqual}
use Rattle.ia32_decode.specs.declared.types.Condition.TheVariants.{LessOrEqual, Greater}
use Rattle.ia32_decode.specs.declared.types.Operand.{Operand}
use Rattle.ia32_decode.specs.declared.types.Operand.TheVariants.{Register as InRegister}
use Rattle.ia32_decode.specs.declared.types.Source.TheVariants.{Register as OfRegister, Operand as OfOperand, Immediate}
use Rattle.ia32_decode.specs.declared.types.Count.{Count}
use Rattle.ia32_decode.specs.declared.types.Count.TheVariants as count
use Rattle.ia32_decode.specs.declared.types.Action.{Action}
use Rattle.ia32_decode.specs.declared.types.Action.TheVariants as action
use Rattle.ia32_decode.specs.declared.types.Instr.{Instr}
use Rattle.ia32_decode.specs.declared.opcode_table.Form.{Form}
use Rattle.ia32_decode.specs.declared.opcode_table.Form.TheVariants.{Register}
use Rattle.ia32_decode.specs.Encoding.{register_of}

-- the eight operations, by number
unfoldable pub arithmetic_of : ℕ → Binary
arithmetic_of n = slice_index_or (Add ∷ Or ∷ Adc ∷ Sbb ∷ And ∷ Sub ∷ Xor ∷ Cmp ∷ []) (n % 8) Add

-- the shifts, by digit: digits 2 and 3 rotate through the carry, and digit 6 isn't listed
unfoldable pub shift_of : ℕ → Option Shift
shift_of n = slice_index_or
    (Some Rol ∷ Some Ror ∷ None ∷ None ∷ Some Shl ∷ Some Shr ∷ None ∷ Some Sar ∷ []) (n % 8) None

-- the conditions, by the lowest four bits of the opcode
unfoldable pub condition_of : ℕ → Condition
condition_of n =
    slice_index_or
    (Overflow ∷ NoOverflow ∷ Below ∷ AboveOrEqual ∷ Equal ∷ NotEqual ∷ BelowOrEqual ∷ Above ∷ Sign ∷ NoSign ∷ Parity
    ∷ NoParity ∷ Less ∷ GreaterOrEqual ∷ LessOrEqual ∷ Greater ∷ []) (n % 16) Overflow

-- INC and DEC
abbrev pub counting_of : ℕ → Unary
counting_of digit = if digit == 0 then unary.Inc else unary.Dec

-- C0, C1 and D0 to D3
abbrev pub by_shift : Option Shift → Count → Action
by_shift None count = action.LengthOnly
by_shift (Some operation) count = action.Shift operation count

unfoldable pub shifting_of : ℕ → Count → Action
shifting_of digit count = by_shift (shift_of digit) count

-- F6 and F7: TEST, NOT, NEG, MUL, IMUL, DIV and IDIV; digit 1 isn't listed
unfoldable pub group_three_of : ℕ → Action
group_three_of digit =
    if digit == 0 then action.Arithmetic binary.Test Immediate
    else if digit == 3 then action.Unary unary.Neg
    else if digit == 4 then action.MultiplyAccumulator false
    else if digit == 5 then action.MultiplyAccumulator true
    else if digit == 6 then action.Divide false
    else if digit == 7 then action.Divide true
    else action.Unary unary.Not

-- FF: INC, DEC, CALL, JMP and PUSH
unfoldable pub group_five_of : ℕ → Action
group_five_of digit =
    if digit == 2 then action.CallOperand
    else if digit == 4 then action.JumpOperand
    else if digit == 6 then action.Push OfOperand
    else action.Unary (counting_of digit)

-- what a line does, from its opcode and digit
unfoldable pub action_of : Line → ℕ → ℕ → Action
action_of AluTo opcode digit = action.Arithmetic (arithmetic_of (opcode / 8)) OfRegister
action_of AluFrom opcode digit = action.Arithmetic (arithmetic_of (opcode / 8)) OfOperand
action_of AluEax opcode digit = action.Arithmetic (arithmetic_of (opcode / 8)) Immediate
action_of Inc opcode digit = action.Unary unary.Inc
action_of Dec opcode digit = action.Unary unary.Dec
action_of Push opcode digit = action.Push OfOperand
action_of Pop opcode digit = action.Pop
action_of PushNumber opcode digit = action.Push Immediate
action_of PushByte opcode digit = action.Push Immediate
action_of ImulNumber opcode digit = action.Multiply Immediate
action_of ImulByte opcode digit = action.Multiply Immediate
action_of JccShort opcode digit = action.JumpIf (condition_of opcode)
action_of AluNumber opcode digit = action.Arithmetic (arithmetic_of digit) Immediate
action_of AluByte opcode digit = action.Arithmetic (arithmetic_of digit) Immediate
action_of Test opcode digit = action.Arithmetic binary.Test OfRegister
action_of Xchg opcode digit = action.Exchange
action_of MovTo opcode digit = action.Move OfRegister
action_of MovFrom opcode digit = action.Move OfOperand
action_of Lea opcode digit = action.LoadAddress
action_of PopOperand opcode digit = action.Pop
action_of Nop opcode digit = action.Nop
action_of XchgEax opcode digit = action.Exchange
action_of Cwde opcode digit = action.ExtendAccumulator
action_of Cdq opcode digit = action.SpreadSign
action_of LoadEax opcode digit = action.LoadAccumulator
action_of StoreEax opcode digit = action.StoreAccumulator
action_of TestEax opcode digit = action.Arithmetic binary.Test Immediate
action_of MovByte opcode digit = action.Move Immediate
action_of MovFull opcode digit = action.Move Immediate
action_of ShiftByte opcode digit = shifting_of digit count.Immediate
action_of ShiftOne opcode digit = shifting_of digit count.One
action_of ShiftCl opcode digit = shifting_of digit count.Cl
action_of RetWord opcode digit = action.ReturnAndRelease
action_of Ret opcode digit = action.Return
action_of MovNumber opcode digit = action.Move Immediate
action_of Leave opcode digit = action.Leave
action_of Call opcode digit = action.Call
action_of Jmp opcode digit = action.Jump
action_of JmpShort opcode digit = action.Jump
action_of GroupThree opcode digit = group_three_of digit
action_of GroupFour opcode digit = action.Unary (counting_of digit)
action_of GroupFive opcode digit = group_five_of digit
action_of Endbr32 opcode digit = action.EndBranch
action_of NopOperand opcode digit = action.NopOperand
action_of Cmovcc opcode digit = action.MoveIf (condition_of opcode)
action_of Jcc opcode digit = action.JumpIf (condition_of opcode)
action_of Setcc opcode digit = action.SetIf (condition_of opcode)
action_of Imul opcode digit = action.Multiply OfRegister
action_of Cmpxchg opcode digit = action.CompareExchange
action_of Xadd opcode digit = action.ExchangeAdd
action_of MovzxByte opcode digit = action.ZeroExtend Width8
action_of MovzxWord opcode digit = action.ZeroExtend Width16
action_of MovsxByte opcode digit = action.SignExtend Width8
action_of MovsxWord opcode digit = action.SignExtend Width16
action_of Int3 opcode digit = action.Breakpoint
action_of Ud2 opcode digit = action.Undefined
action_of OpcodeOnly opcode digit = action.LengthOnly
action_of Int opcode digit = action.LengthOnly
action_of Loop opcode digit = action.LoopBranch opcode
action_of Float opcode digit = action.LengthOnly
action_of SecondOnly opcode digit = action.LengthOnly
action_of SecondRm opcode digit = action.LengthOnly
action_of ShiftPair opcode digit = action.LengthOnly
action_of BitTest opcode digit = action.LengthOnly
action_of Cmpxchg8b opcode digit = action.LengthOnly
action_of NoLine opcode digit = action.Undefined

-- the operand: what mod and rm name, or the register that the opcode names
abbrev pub named_operand : Form → ℕ → Operand → Operand
named_operand Register opcode operand = InRegister (register_of opcode)
named_operand form opcode operand = operand

-- the instruction of a line, from its opcode, digit, operand and number
unfoldable pub instr_of : Line → Parts → Instr
instr_of line p = record {
  action = action_of line p.opcode p.digit;
  width = p.width;
  operand = p.operand;
  register = register_of p.digit;
  value = p.value;
}
