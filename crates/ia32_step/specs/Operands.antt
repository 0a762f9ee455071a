-- Where operands stand and what they hold (Intel SDM volume 1, section 3.7).
use Rattle.std.specs.Prelude.{ℕ, ◌+◌, ◌*◌, ◌%◌, ◌^◌, List, [], ◌∷◌, slice_index, Option, Some, None, Result, Ok, Err}
use Rattle.std.specs.Int.{w16, w32, from_le_bytes, to_le_bytes}
use Rattle.ks_base.specs.declared.refusals.Fault.{Fault}
use Rattle.image_memory.specs.declared.types.Piece.{Piece}
use Rattle.image_memory.specs.Access.{first_fault, read_fault, bytes_at}
use Rattle.ia32_decode.specs.declared.types.Register.{Register}
use Rattle.ia32_alu.specs.declared.types.Width.{Width}
use Rattle.ia32_alu.specs.declared.types.Width.TheVariants.{Byte, Word, Dword}
use Rattle.ia32_alu.specs.Widths.{byte_count}
use Rattle.ia32_decode.specs.Encoding.{factor_of}
use Rattle.ia32_decode.specs.declared.types.Index.{Index}
use Rattle.ia32_decode.specs.declared.types.Memory.{Memory}
use Rattle.ia32_decode.specs.declared.types.Operand.{Operand}
use Rattle.ia32_decode.specs.declared.types.Operand.TheVariants as operands
use Rattle.ia32_decode.specs.declared.types.Source.{Source}
use Rattle.ia32_decode.specs.declared.types.Source.TheVariants.{Register as OfRegister, Operand as OfOperand, Immediate}
use Rattle.ia32_decode.specs.declared.types.Instr.{Instr}
use Rattle.ia32_step.specs.declared.types.Context.{Context}
use Rattle.ia32_step.specs.declared.types.Place.{Place}
use Rattle.ia32_step.specs.declared.types.Place.TheVariants.{InRegister, InMemory}
use Rattle.ia32_step.specs.Registers.{register_value}

-- goes on with what was read, or ends with its fault
abbrev pub given : {X Y : Type 0} → Result X Fault → (X → Result Y Fault) → Result Y Fault
given (Ok x) next = next x
given (Err fault) next = Err fault

-- the parts of an address
abbrev pub base_part : List ℕ → Option Register → ℕ
base_part registers None = 0
base_part registers (Some r) = register_value registers Dword r

abbrev pub index_part : List ℕ → Index → ℕ
index_part registers index = register_value registers Dword index.register * factor_of index.scale

-- the sum of the parts, modulo 2^32
unfoldable pub address_of : List ℕ → Memory → ℕ
address_of registers memory =
    (base_part registers memory.base + index_part registers memory.index + memory.displacement) % 2 ^ 32

-- where an operand stands
abbrev pub place_of : List ℕ → Operand → Place
place_of registers (operands.Register r) = InRegister r
place_of registers (operands.Memory memory) = InMemory (address_of registers memory)

-- the number that bytes spell, and the bytes that spell a number's lowest bits; the lowest byte comes first
abbrev pub number_of : Width → List ℕ → ℕ
number_of Byte bytes = slice_index bytes 0
number_of Word bytes = from_le_bytes w16 bytes
number_of Dword bytes = from_le_bytes w32 bytes

abbrev pub spelled : Width → ℕ → List ℕ
spelled Byte n = n % 0x100 ∷ []
spelled Word n = to_le_bytes w16 (n % 0x1_0000)
spelled Dword n = to_le_bytes w32 n

-- what a read gives: the number, or why its first bad byte can't be read
abbrev pub unless_fault : {X : Type 0} → Option Fault → X → Result X Fault
unless_fault None x = Ok x
unless_fault (Some fault) x = Err fault

-- the number in memory at an address; no byte of a code piece is ever read
unfoldable pub number_at : List Piece → Width → ℕ → Result ℕ Fault
number_at pieces width address =
    unless_fault
    (first_fault (read_fault pieces) address (byte_count width))
    (number_of width (bytes_at pieces address (byte_count width)))

-- What an instruction sees of memory: the number of a width at an address, or why it can't be read. It sees nothing
-- else.
abbrev pub Reader : Type 0
Reader = Width → ℕ → Result ℕ Fault

-- what stands at a place
unfoldable pub value_at : Reader → List ℕ → Width → Place → Result ℕ Fault
value_at read registers width (InRegister r) = Ok (register_value registers width r)
value_at read registers width (InMemory address) = read width address

-- what an operand holds
abbrev pub operand_value : Reader → Context → Width → Operand → Result ℕ Fault
operand_value read context width operand =
    value_at read context.registers width (place_of context.registers operand)

-- the second of two operands, and the first, which takes what comes of them
abbrev pub source_value : Reader → Context → Source → Instr → Result ℕ Fault
source_value read context OfRegister i = Ok (register_value context.registers i.width i.register)
source_value read context OfOperand i = operand_value read context i.width i.operand
source_value read context Immediate i = Ok i.value

abbrev pub destination_of : Source → Instr → Operand
destination_of OfOperand i = operands.Register i.register
destination_of source i = i.operand
