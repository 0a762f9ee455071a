-- The general registers at 8, 16 and 32 bits (Intel SDM volume 1, section 3.4.1). A list of registers holds the eight
-- numbers of 32 bits in the order EAX, ECX, EDX, EBX, ESP, EBP, ESI and EDI.
use Rattle.std.specs.Prelude.{ℕ, ◌+◌, ◌-◌, ◌*◌, ◌/◌, ◌%◌, nat_lt, if◌then◌else◌, List, set, slice_index}
use Rattle.ia32_alu.specs.declared.types.Flags.{Flags}
use Rattle.ia32_decode.specs.declared.types.Register.{Register}
use Rattle.ia32_decode.specs.declared.types.Register.TheVariants.{Eax, Esp}
use Rattle.ia32_alu.specs.declared.types.Width.{Width}
use Rattle.ia32_alu.specs.declared.types.Width.TheVariants.{Byte, Word, Dword}
use Rattle.ia32_decode.specs.Encoding.{register_number}
use Rattle.ia32_step.specs.declared.types.Context.{Context}

-- At 8 bits the numbers 0 to 3 name AL, CL, DL and BL, the lowest bytes of the first four registers, and 4 to 7 name
-- AH, CH, DH and BH, the bytes above these.
abbrev pub byte_value : List ℕ → ℕ → ℕ
byte_value registers n =
    if nat_lt n 4 then slice_index registers n % 0x100 else slice_index registers (n - 4) / 0x100 % 0x100

-- what a register holds at a width
unfoldable pub register_value : List ℕ → Width → Register → ℕ
register_value registers Byte r = byte_value registers (register_number r)
register_value registers Word r = slice_index registers (register_number r) % 0x1_0000
register_value registers Dword r = slice_index registers (register_number r)

-- 32 bits with their lowest byte, the byte above that, or their lower half replaced
abbrev pub with_lowest_byte : ℕ → ℕ → ℕ
with_lowest_byte old v = old / 0x100 * 0x100 + v % 0x100

abbrev pub with_second_byte : ℕ → ℕ → ℕ
with_second_byte old v = old / 0x1_0000 * 0x1_0000 + v % 0x100 * 0x100 + old % 0x100

abbrev pub with_lower_half : ℕ → ℕ → ℕ
with_lower_half old v = old / 0x1_0000 * 0x1_0000 + v % 0x1_0000

abbrev pub with_byte : List ℕ → ℕ → ℕ → List ℕ
with_byte registers n v =
    if nat_lt n 4 then set registers n (with_lowest_byte (slice_index registers n) v)
    else set registers (n - 4) (with_second_byte (slice_index registers (n - 4)) v)

abbrev pub with_word : List ℕ → ℕ → ℕ → List ℕ
with_word registers n v = set registers n (with_lower_half (slice_index registers n) v)

-- the registers after one of them took a number at a width; the bits above stay
unfoldable pub registers_with : List ℕ → Width → Register → ℕ → List ℕ
registers_with registers Byte r v = with_byte registers (register_number r) v
registers_with registers Word r v = with_word registers (register_number r) v
registers_with registers Dword r v = set registers (register_number r) v

-- what the processor holds after a register took a number, and after the flags did
abbrev pub with_register : Width → Register → ℕ → Context → Context
with_register width r v context = record context { registers = registers_with context.registers width r v }

abbrev pub with_flags : Flags → Context → Context
with_flags flags context = record context { flags = flags }

-- AL, AX or EAX; and ESP
abbrev pub accumulator : Context → Width → ℕ
accumulator context width = register_value context.registers width Eax

abbrev pub stack_top : Context → ℕ
stack_top context = register_value context.registers Dword Esp

abbrev pub with_stack_top : ℕ → Context → Context
with_stack_top top context = with_register Dword Esp top context
