-- Moves, exchanges and extensions (Intel SDM volume 2, under their names). But for CMPXCHG and XADD no flag changes.
use Rattle.std.specs.Prelude.{ℕ, ◌+◌, ◌-◌, ◌^◌, Bool, List, if◌then◌else◌, Result, Ok}
use Rattle.std.specs.Int.{from_bool}
use Rattle.ks_base.specs.declared.refusals.Fault.{Fault}
use Rattle.ia32_alu.specs.declared.types.Flags.{Flags}
use Rattle.ia32_alu.specs.declared.types.Binary.TheVariants as binary
use Rattle.ia32_alu.specs.Numbers.{size, unsigned, highest}
use Rattle.ia32_alu.specs.Arithmetic.{binary_of}
use Rattle.ia32_alu.specs.Conditions.{condition_of}
use Rattle.ia32_decode.specs.declared.types.Register.{Register}
use Rattle.ia32_decode.specs.declared.types.Register.TheVariants.{Eax, Edx}
use Rattle.ia32_alu.specs.declared.types.Width.{Width}
use Rattle.ia32_alu.specs.declared.types.Width.TheVariants.{Byte, Word, Dword}
use Rattle.ia32_decode.specs.declared.types.Condition.{Condition}
use Rattle.ia32_decode.specs.declared.types.Operand.{Operand}
use Rattle.ia32_decode.specs.declared.types.Operand.TheVariants.{Register as InRegister, Memory as InMemory}
use Rattle.ia32_decode.specs.Encoding.{condition_number}
use Rattle.ia32_step.specs.declared.types.Context.{Context}
use Rattle.ia32_step.specs.declared.types.Place.{Place}
use Rattle.ia32_step.specs.declared.types.Change.{Change}
use Rattle.ia32_step.specs.Registers.{register_value, with_register, with_flags, accumulator}
use Rattle.ia32_step.specs.Operands.{Reader, given, place_of, address_of, operand_value}
use Rattle.ia32_step.specs.Changes.{goes_on, putting, storing}

-- MOV
unfoldable pub copied : Width → Operand → Result ℕ Fault → Context → Result Change Fault
copied width destination source context =
    given source (λ v. Ok (putting (place_of context.registers destination) width v context))

-- MOV to the accumulator from an address, and back
unfoldable pub accumulator_loaded : Reader → Width → ℕ → Context → Result Change Fault
accumulator_loaded read width address context =
    given (read width address) (λ v. Ok (goes_on (with_register width Eax v context)))

abbrev pub accumulator_stored : Width → ℕ → Context → Change
accumulator_stored width address context = storing address width (accumulator context width) context

-- LEA; a register has no address, and no LEA names one
abbrev pub address_in : List ℕ → Operand → ℕ
address_in registers (InMemory memory) = address_of registers memory
address_in registers (InRegister r) = 0

abbrev pub address_taken : Width → Register → Operand → Context → Change
address_taken width r operand context = goes_on (with_register width r (address_in context.registers operand) context)

-- XCHG: the register takes what the operand held, the operand what the register held
unfoldable pub exchanged : Reader → Width → Operand → Register → Context → Result Change Fault
exchanged read width operand r context =
    given (operand_value read context width operand) (λ v.
    Ok (putting (place_of context.registers operand) width (register_value context.registers width r)
    (with_register width r v context)))

-- XADD: the register takes what the operand held, and then the operand the sum
unfoldable pub exchanged_and_added : Reader → Width → Operand → Register → Context → Result Change Fault
exchanged_and_added read width operand r context =
    given (operand_value read context width operand) (λ a.
    let sum : ℕ × Flags =
    binary_of binary.Add (size width) a (register_value context.registers width r) context.flags in
    Ok (putting (place_of context.registers operand) width sum.0 (with_register width r a (with_flags sum.1 context))))

-- Where the accumulator equals the operand, the operand takes what the register holds. Otherwise the accumulator takes
-- what the operand held, and the operand the same again, for it must be writable in both cases.
abbrev pub compared_and_exchanged : Place → Width → ℕ → ℕ → ℕ × Flags → Context → Change
compared_and_exchanged place width a v compared context =
    if compared.1.zf then putting place width v (with_flags compared.1 context)
    else putting place width a (with_register width Eax a (with_flags compared.1 context))

-- CMPXCHG; the flags are those of CMP of the accumulator and the operand
unfoldable pub compare_exchanged : Reader → Width → Operand → Register → Context → Result Change Fault
compare_exchanged read width operand r context =
    given (operand_value read context width operand) (λ a.
    Ok (compared_and_exchanged (place_of context.registers operand) width a (register_value context.registers width r)
    (binary_of binary.Cmp (size width) (accumulator context width) a context.flags) context))

-- whether a condition holds of the flags
abbrev pub holds : Condition → Flags → Bool
holds condition flags = condition_of (condition_number condition) flags

-- CMOVcc reads its source whether the condition holds or not
unfoldable pub copied_if : Reader → Condition → Width → Register → Operand → Context → Result Change Fault
copied_if read condition width r source context =
    given (operand_value read context width source) (λ v.
    Ok (goes_on (if holds condition context.flags then with_register width r v context else context)))

-- SETcc: a byte becomes 1 or 0
abbrev pub set_by : Condition → Operand → Context → Change
set_by condition operand context =
    putting (place_of context.registers operand) Byte (from_bool (holds condition context.flags)) context

-- the lowest k bits in two's complement, as 32 bits
unfoldable pub sign_extended : ℕ → ℕ → ℕ
sign_extended k n = if highest k n then 2 ^ 32 - 2 ^ k + unsigned k n else unsigned k n

-- MOVZX and MOVSX
unfoldable pub zero_extended_to : Reader → Width → Width → Register → Operand → Context → Result Change Fault
zero_extended_to read from width r source context =
    given (operand_value read context from source) (λ v. Ok (goes_on (with_register width r v context)))

unfoldable pub sign_extended_to : Reader → Width → Width → Register → Operand → Context → Result Change Fault
sign_extended_to read from width r source context =
    given (operand_value read context from source)
    (λ v. Ok (goes_on (with_register width r (sign_extended (size from) v) context)))

-- what is extended: AL to AX, and AX to EAX; there is no such instruction at 8 bits
abbrev pub half : Width → Width
half Byte = Byte
half Word = Byte
half Dword = Word

-- CBW and CWDE, by the width of the result
abbrev pub accumulator_extended : Width → Context → Change
accumulator_extended width context =
    goes_on (with_register width Eax (sign_extended (size (half width)) (accumulator context (half width))) context)

-- CWD and CDQ: the accumulator's sign in each bit of DX or EDX
abbrev pub sign_spread : Width → Context → Change
sign_spread width context =
    goes_on (with_register width Edx (if highest (size width) (accumulator context width) then 0xFFFF_FFFF else 0)
    context)
