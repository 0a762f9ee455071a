-- How wide operands are.
use Rattle.std.specs.Prelude.{ℕ, Bool, true, false}
use Rattle.ia32_alu.specs.declared.types.Width.{Width}
use Rattle.ia32_alu.specs.declared.types.Width.TheVariants.{Byte, Word, Dword}

-- how many bytes an operand has
abbrev pub byte_count : Width → ℕ
byte_count Byte = 1
byte_count Word = 2
byte_count Dword = 4

-- an operand has 32 bits
abbrev pub is_dword : Width → Bool
is_dword Byte = false
is_dword Word = false
is_dword Dword = true
