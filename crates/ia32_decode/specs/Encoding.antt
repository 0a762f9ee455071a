-- How the bytes of an instruction are laid out: prefixes, opcode, ModRM byte, SIB byte, displacement and immediate
-- (Intel SDM volume 2, sections 2.1.1 to 2.1.5). A byte past the end of the window counts as 0, so that each part is
-- defined at every window. An instruction with such a byte is longer than the window, and so isn't decoded; a byte
-- after an instruction, such as the one after a ModRM byte that has no SIB byte, doesn't matter.
use Rattle.std.specs.Prelude.{ℕ, ◌+◌, ◌*◌, ◌/◌, ◌%◌, Bool, true, false, ◌&&◌, ◌||◌, not, List, [], ◌∷◌, Option, Some}
use Rattle.std.specs.Prelude.{None, take, length, unwrap_or, nat_lt, ◌==◌, if◌then◌else◌}
use Rattle.std.specs.List.{list_any, slice_index_or, position}
use Rattle.ia32_decode.specs.declared.types.Register.{Register}
use Rattle.ia32_decode.specs.declared.types.Register.TheVariants.{Eax, Ecx, Edx, Ebx, Esp, Ebp, Esi, Edi}
use Rattle.ia32_decode.specs.declared.types.Condition.{Condition}
use Rattle.ia32_decode.specs.declared.types.Condition.TheVariants.{Overflow, NoOverflow, Below, AboveOrEqual, Equal}
use Rattle.ia32_decode.specs.declared.types.Condition.TheVariants.{NotEqual, BelowOrEqual, Above, Sign, NoSign}
use Rattle.ia32_decode.specs.declared.types.Condition.TheVariants.{Parity, NoParity, Less, GreaterOrEqual}
use Rattle.ia32_decode.specs.declared.types.Condition.TheVariants.{LessOrEqual, Greater}
use Rattle.ia32_decode.specs.declared.types.Scale.{Scale}
use Rattle.ia32_decode.specs.declared.types.Scale.TheVariants.{Zero, One, Two, Four, Eight}
use Rattle.ia32_decode.specs.declared.types.Index.{Index}
use Rattle.ia32_decode.specs.declared.types.Memory.{Memory}
use Rattle.ia32_decode.specs.declared.types.Operand.{Operand}
use Rattle.ia32_decode.specs.declared.types.Operand.TheVariants.{Register as InRegister, Memory as InMemory}
use Rattle.ia32_decode.specs.declared.types.Field.{Field}
use Rattle.ia32_decode.specs.declared.types.Prefixes.{Prefixes}
use Rattle.ia32_decode.specs.declared.heads.Head.{Head}
use Rattle.ia32_decode.specs.declared.addressing.Addressing.{Addressing}

-- numbers in the window, the lowest byte first
abbrev pub byte_in : List ℕ → ℕ → ℕ
byte_in w i = slice_index_or w i 0

unfoldable pub word_in : List ℕ → ℕ → ℕ
word_in w i = byte_in w i + 0x100 * byte_in w (i + 1)

unfoldable pub dword_in : List ℕ → ℕ → ℕ
dword_in w i = word_in w i + 0x10000 * word_in w (i + 2)

-- a byte, sign-extended to 32 bits
abbrev pub extended : ℕ → ℕ
extended byte = if nat_lt byte 0x80 then byte else byte + 0xFFFFFF00

abbrev pub is_prefix : ℕ → Bool
is_prefix byte =
    byte == 0x66 || byte == 0xF0 || byte == 0xF2 || byte == 0xF3 || byte == 0x26 || byte == 0x2E || byte == 0x36
    || byte == 0x3E || byte == 0x64 || byte == 0x65

-- how many prefixes stand at the start: the place of the first byte that isn't one
unfoldable pub prefix_count : List ℕ → ℕ
prefix_count w = unwrap_or (position (λ byte. not (is_prefix byte)) w) (length w)

abbrev pub has_byte : ℕ → List ℕ → Bool
has_byte byte bytes = list_any (λ b. b == byte) bytes

-- the prefixes that some bytes are
unfoldable pub prefixes_of : List ℕ → ℕ → Prefixes
prefixes_of front count = record {
  count = count;
  operand_size = has_byte 0x66 front;
  lock = has_byte 0xF0 front;
  repeat_not_equal = has_byte 0xF2 front;
  repeat = has_byte 0xF3 front;
  extra_segment = has_byte 0x26 front;
  code_segment = has_byte 0x2E front;
  stack_segment = has_byte 0x36 front;
  data_segment = has_byte 0x3E front;
  segment_f = has_byte 0x64 front;
  segment_g = has_byte 0x65 front;
}

-- the opcode that follows n bytes of prefixes: one byte, or 0F and one byte
unfoldable pub head_after : List ℕ → Prefixes → ℕ → Head
head_after w prefixes n =
    if byte_in w n == 0x0F
    then record { prefixes = prefixes; escaped = true; opcode = byte_in w (n + 1); end = n + 2 }
    else record { prefixes = prefixes; escaped = false; opcode = byte_in w n; end = n + 1 }

-- the prefixes and the opcode at the start of the window
abbrev pub head_of : List ℕ → Head
head_of w = head_after w (prefixes_of (take (prefix_count w) w) (prefix_count w)) (prefix_count w)

-- the registers by number
abbrev pub registers : List Register
registers = Eax ∷ Ecx ∷ Edx ∷ Ebx ∷ Esp ∷ Ebp ∷ Esi ∷ Edi ∷ []

-- the register that the lowest three bits of a number name
unfoldable pub register_of : ℕ → Register
register_of n = slice_index_or registers (n % 8) Eax

-- a register's number
abbrev pub register_number : Register → ℕ
register_number Eax = 0
register_number Ecx = 1
register_number Edx = 2
register_number Ebx = 3
register_number Esp = 4
register_number Ebp = 5
register_number Esi = 6
register_number Edi = 7

-- the conditions by number
abbrev pub condition_number : Condition → ℕ
condition_number Overflow = 0
condition_number NoOverflow = 1
condition_number Below = 2
condition_number AboveOrEqual = 3
condition_number Equal = 4
condition_number NotEqual = 5
condition_number BelowOrEqual = 6
condition_number Above = 7
condition_number Sign = 8
condition_number NoSign = 9
condition_number Parity = 10
condition_number NoParity = 11
condition_number Less = 12
condition_number GreaterOrEqual = 13
condition_number LessOrEqual = 14
condition_number Greater = 15

-- what the highest two bits of a SIB byte multiply the index by
unfoldable pub scale_of : ℕ → Scale
scale_of sib = slice_index_or (One ∷ Two ∷ Four ∷ Eight ∷ []) (sib / 64) One

abbrev pub factor_of : Scale → ℕ
factor_of Zero = 0
factor_of One = 1
factor_of Two = 2
factor_of Four = 4
factor_of Eight = 8

-- mod is bits 7 and 6 of the ModRM byte m, the digit or register bits 5 to 3, rm bits 2 to 0
abbrev pub mode : ℕ → ℕ
mode m = m / 64

abbrev pub middle : ℕ → ℕ
middle m = m / 8 % 8

abbrev pub lowest : ℕ → ℕ
lowest m = m % 8

-- rm 100 with a mod other than 11 takes a SIB byte
abbrev pub has_sib : ℕ → Bool
has_sib m = not (mode m == 3) && lowest m == 4

abbrev pub sib_length : ℕ → ℕ
sib_length m = if has_sib m then 1 else 0

-- the base's number: rm, or the lowest bits of the SIB byte s
abbrev pub base_number : ℕ → ℕ → ℕ
base_number m s = if has_sib m then lowest s else lowest m

-- mod 00 with base 101 has no base, and a displacement of 32 bits
abbrev pub lacks_base : ℕ → ℕ → Bool
lacks_base m s = mode m == 0 && base_number m s == 5

abbrev pub base_of : ℕ → ℕ → Option Register
base_of m s = if lacks_base m s then None else Some (register_of (base_number m s))

-- index 100 is no index
abbrev pub index_of : ℕ → ℕ → Index
index_of m s =
    if has_sib m && not (middle s == 4) then record { register = register_of (middle s); scale = scale_of s }
    else record { register = Eax; scale = Zero }

-- mod 01 has a displacement of 8 bits, mod 10 one of 32 bits
abbrev pub displacement_width : ℕ → ℕ → ℕ
displacement_width m s = if mode m == 1 then 1 else if mode m == 2 || lacks_base m s then 4 else 0

-- a displacement of so many bytes: 8 bits are sign-extended, and without one it is 0
abbrev pub displacement_of : List ℕ → ℕ → ℕ → ℕ
displacement_of w at width = if width == 1 then extended (byte_in w at) else if width == 4 then dword_in w at else 0

-- the bytes of a number, none where it has none
abbrev pub field_of : ℕ → ℕ → Option Field
field_of at width = if width == 0 then None else Some (record { offset = at; width = width })

abbrev pub operand_of : ℕ → Memory → Operand
operand_of m memory = if mode m == 3 then InRegister (register_of (lowest m)) else InMemory memory

-- a ModRM byte m with the byte s after it and a displacement at an offset
unfoldable pub addressing_with : List ℕ → ℕ → ℕ → ℕ → Addressing
addressing_with w m s at =
    let memory : Memory = record {
      base = base_of m s;
      index = index_of m s;
      displacement = displacement_of w at (displacement_width m s);
    } in
    record {
      is_register = mode m == 3;
      digit = middle m;
      operand = operand_of m memory;
      displacement = field_of at (displacement_width m s);
      end = at + displacement_width m s;
    }

-- a ModRM byte at an offset, with its SIB byte and displacement
abbrev pub addressing_of : List ℕ → ℕ → Addressing
addressing_of w at = addressing_with w (byte_in w at) (byte_in w (at + 1)) (at + 1 + sib_length (byte_in w at))

-- what stands for it where there is no ModRM byte
unfoldable pub no_addressing : ℕ → Addressing
no_addressing at = record {
  is_register = true;
  digit = 0;
  operand = InRegister Eax;
  displacement = None;
  end = at;
}
