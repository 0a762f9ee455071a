-- Integer instructions (Intel SDM volume 2, under their names). The values and flags are those of ia32_alu.
use Rattle.std.specs.Prelude.{ℕ, ◌+◌, ◌*◌, ◌/◌, ◌%◌, ◌^◌, Bool, true, false, not, if◌then◌else◌, Option, Some, None}
use Rattle.std.specs.Prelude.{Result, Ok, Err}
use Rattle.ks_base.specs.declared.refusals.Fault.{Fault}
use Rattle.ks_base.specs.declared.refusals.Fault.TheVariants.{Divide, Unsupported}
use Rattle.ia32_alu.specs.declared.types.Flags.{Flags}
use Rattle.ia32_alu.specs.declared.types.Width.{Width}
use Rattle.ia32_alu.specs.declared.types.Width.TheVariants.{Byte, Word, Dword}
use Rattle.ia32_alu.specs.declared.types.Binary.{Binary}
use Rattle.ia32_alu.specs.declared.types.Binary.TheVariants.{Cmp, Test}
use Rattle.ia32_alu.specs.declared.types.Unary.{Unary}
use Rattle.ia32_alu.specs.declared.types.Shift.{Shift}
use Rattle.ia32_alu.specs.declared.types.Shift.TheVariants.{Rol, Ror}
use Rattle.ia32_alu.specs.Widths.{is_dword}
use Rattle.ia32_alu.specs.Numbers.{size}
use Rattle.ia32_alu.specs.Arithmetic.{binary_of, unary_of}
use Rattle.ia32_alu.specs.Shifts.{shift_of}
use Rattle.ia32_alu.specs.Products.{product_of, quotient_of}
use Rattle.ia32_decode.specs.declared.types.Register.{Register}
use Rattle.ia32_decode.specs.declared.types.Register.TheVariants.{Eax, Ecx, Edx, Esp}
use Rattle.ia32_decode.specs.declared.types.Count.{Count}
use Rattle.ia32_decode.specs.declared.types.Count.TheVariants.{One, Immediate, Cl}
use Rattle.ia32_decode.specs.declared.types.Operand.{Operand}
use Rattle.ia32_step.specs.declared.types.Context.{Context}
use Rattle.ia32_step.specs.declared.types.Place.{Place}
use Rattle.ia32_step.specs.declared.types.Change.{Change}
use Rattle.ia32_step.specs.Registers.{register_value, with_register, with_flags, accumulator}
use Rattle.ia32_step.specs.Operands.{Reader, given, place_of, operand_value}
use Rattle.ia32_step.specs.Changes.{goes_on, putting}

-- the result goes to a place, but CMP and TEST write none; the flags are set
abbrev pub settled : Binary → Width → Place → ℕ × Flags → Context → Change
settled Cmp width place result context = goes_on (with_flags result.1 context)
settled Test width place result context = goes_on (with_flags result.1 context)
settled operation width place result context = putting place width result.0 (with_flags result.1 context)

-- ADD, OR, ADC, SBB, AND, SUB, XOR, CMP and TEST of an operand and another number
unfoldable pub combined : Reader → Binary → Width → Operand → Result ℕ Fault → Context → Result Change Fault
combined read operation width operand source context =
    given (operand_value read context width operand) (λ a.
    given source (λ b.
    Ok (settled operation width (place_of context.registers operand)
    (binary_of operation (size width) a b context.flags) context)))

-- INC, DEC, NOT and NEG
unfoldable pub altered : Reader → Unary → Width → Operand → Context → Result Change Fault
altered read operation width operand context =
    given (operand_value read context width operand) (λ a.
    let result : ℕ × Flags = unary_of operation (size width) a context.flags in
    Ok (putting (place_of context.registers operand) width result.0 (with_flags result.1 context)))

-- ROL and ROR are carried out at 32 bits alone (own)
abbrev pub takes_width : Shift → Width → Bool
takes_width Rol width = is_dword width
takes_width Ror width = is_dword width
takes_width operation width = true

-- how many places: one, the lowest byte of the instruction's number, or CL
abbrev pub count_of : Count → ℕ → Context → ℕ
count_of One n context = 1
count_of Immediate n context = n % 0x100
count_of Cl n context = register_value context.registers Byte Ecx

-- A shift or rotate by a count; by 0 the operand takes its own number, and so must be writable (own).
unfoldable pub shifted : Reader → Shift → Width → Operand → ℕ → Context → Result Change Fault
shifted read operation width operand count context =
    if not (takes_width operation width) then Err Unsupported
    else given (operand_value read context width operand) (λ a.
    let result : ℕ × Flags = shift_of operation (size width) a count context.flags in
    Ok (putting (place_of context.registers operand) width result.0 (with_flags result.1 context)))

-- what stands above the accumulator in a product or dividend: AH above AL, DX above AX, EDX above EAX
abbrev pub upper_register : Width → Register
upper_register Byte = Esp
upper_register Word = Edx
upper_register Dword = Edx

-- a number of twice the width in the two registers
abbrev pub with_double : Width → ℕ → Context → Context
with_double width n context =
    with_register width (upper_register width) (n / 2 ^ size width)
    (with_register width Eax (n % 2 ^ size width) context)

abbrev pub double : Context → Width → ℕ
double context width =
    register_value context.registers width (upper_register width) * 2 ^ size width + accumulator context width

abbrev pub with_product : Width → ℕ × Flags → Context → Context
with_product width product context = with_double width product.0 (with_flags product.1 context)

-- MUL and IMUL with one operand: the accumulator times the operand
unfoldable pub multiplied : Reader → Bool → Width → Operand → Context → Result Change Fault
multiplied read sign width operand context =
    given (operand_value read context width operand) (λ b.
    Ok (goes_on (with_product width (product_of sign (size width) (accumulator context width) b) context)))

-- IMUL with two or three operands: a register takes the product's lower half
abbrev pub with_lower_product : Width → Register → ℕ × Flags → Context → Context
with_lower_product width r product context =
    with_register width r (product.0 % 2 ^ size width) (with_flags product.1 context)

unfoldable pub product_taken : Reader → Width → Register → Operand → Result ℕ Fault → Context → Result Change Fault
product_taken read width r operand factor context =
    given (operand_value read context width operand) (λ a.
    given factor (λ b.
    Ok (goes_on (with_lower_product width r (product_of true (size width) a b) context))))

-- all five flags are clear: after DIV and IDIV (own), and when a thread starts
abbrev pub clear_flags : Flags
clear_flags = record { cf = false; pf = false; zf = false; sf = false; of = false }

-- the quotient goes to the accumulator, the remainder above it; or there is none
abbrev pub with_quotient : Width → Option (ℕ × ℕ) → Context → Result Change Fault
with_quotient width None context = Err Divide
with_quotient width (Some both) context =
    Ok (goes_on
    (with_register width (upper_register width) both.1
    (with_register width Eax both.0 (with_flags clear_flags context))))

-- DIV and IDIV
unfoldable pub divided : Reader → Bool → Width → Operand → Context → Result Change Fault
divided read sign width operand context =
    given (operand_value read context width operand) (λ by.
    with_quotient width (quotient_of sign (size width) (double context width) by) context)
