-- The opcode table. Each line of it says where it stands, and how it is laid out (Intel SDM volume 2, appendix A).
use Rattle.std.specs.Prelude.{ℕ, ◌%◌, Bool, true, false, ◌&&◌, ◌||◌, not, List, [], ◌∷◌, unwrap_or, find, nat_lt}
use Rattle.std.specs.Prelude.{nat_le, ◌==◌, if◌then◌else◌}
use Rattle.std.specs.List.{list_any}
use Rattle.ia32_decode.specs.declared.opcode_table.Line.{Line}
use Rattle.ia32_decode.specs.declared.opcode_table.Line.TheVariants.{NoLine, AluTo, AluFrom, AluEax, Inc, Dec, Push}
use Rattle.ia32_decode.specs.declared.opcode_table.Line.TheVariants.{Pop, PushNumber, PushByte, ImulNumber, ImulByte}
use Rattle.ia32_decode.specs.declared.opcode_table.Line.TheVariants.{JccShort, AluNumber, AluByte, Test, Xchg, MovTo}
use Rattle.ia32_decode.specs.declared.opcode_table.Line.TheVariants.{MovFrom, Lea, PopOperand, Nop, XchgEax, Cwde}
use Rattle.ia32_decode.specs.declared.opcode_table.Line.TheVariants.{Cdq, LoadEax, StoreEax, TestEax, MovByte}
use Rattle.ia32_decode.specs.declared.opcode_table.Line.TheVariants.{MovFull, ShiftByte, ShiftOne, ShiftCl, RetWord}
use Rattle.ia32_decode.specs.declared.opcode_table.Line.TheVariants.{Ret, MovNumber, Leave, Call, Jmp, JmpShort}
use Rattle.ia32_decode.specs.declared.opcode_table.Line.TheVariants.{GroupThree, GroupFour, GroupFive, Endbr32}
use Rattle.ia32_decode.specs.declared.opcode_table.Line.TheVariants.{NopOperand, Cmovcc, Jcc, Setcc, Imul, Cmpxchg}
use Rattle.ia32_decode.specs.declared.opcode_table.Line.TheVariants.{Xadd, MovzxByte, MovzxWord, MovsxByte, MovsxWord}
use Rattle.ia32_decode.specs.declared.opcode_table.Line.TheVariants.{Int3, Ud2, OpcodeOnly, Int, Loop, Float}
use Rattle.ia32_decode.specs.declared.opcode_table.Line.TheVariants.{SecondOnly, SecondRm, ShiftPair, BitTest}
use Rattle.ia32_decode.specs.declared.opcode_table.Line.TheVariants.{Cmpxchg8b}
use Rattle.ia32_decode.specs.declared.opcode_table.Form.{Form}
use Rattle.ia32_decode.specs.declared.opcode_table.Form.TheVariants.{Unlisted, Plain, Register, Branch, ModRm, Memory, EndBranch}
use Rattle.ia32_decode.specs.declared.opcode_table.Sizing.{Sizing}
use Rattle.ia32_decode.specs.declared.opcode_table.Sizing.TheVariants.{Byte as ByteWide, Full, LowBit}
use Rattle.ia32_decode.specs.declared.opcode_table.Digits.{Digits}
use Rattle.ia32_decode.specs.declared.opcode_table.Digits.TheVariants.{Any, Zero, One, ZeroOrOne, NotSix, NotOne}
use Rattle.ia32_decode.specs.declared.opcode_table.Digits.TheVariants.{OfGroupFive, FourUp}
use Rattle.ia32_decode.specs.declared.opcode_table.Follows.{Follows}
use Rattle.ia32_decode.specs.declared.opcode_table.Follows.TheVariants.{Nothing, Byte, SignedByte, Word, Dword}
use Rattle.ia32_decode.specs.declared.opcode_table.Follows.TheVariants.{Address, Sized, Tested}
use Rattle.ia32_decode.specs.declared.opcode_table.Shape.{Shape}
use Rattle.ia32_alu.specs.declared.types.Width.{Width}
use Rattle.ia32_alu.specs.declared.types.Width.TheVariants.{Byte as Width8, Word as Width16, Dword as Width32}
use Rattle.ia32_alu.specs.Widths.{byte_count}

-- where a line stands, and how it is laid out
pub record Row : Type 0 where
  -- whether it stands at an opcode; the first argument says that 0F stands before it
  pub stands : Bool → ℕ → Bool
  pub shape : Shape

-- opcodes: one, from one to another, several
abbrev pub is : ℕ → ℕ → Bool
is a opcode = opcode == a

abbrev pub from_to : ℕ → ℕ → ℕ → Bool
from_to low high opcode = nat_le low opcode && nat_le opcode high

abbrev pub among : List ℕ → ℕ → Bool
among opcodes opcode = list_any (λ a. opcode == a) opcodes

-- the opcodes 8k + low to 8k + high, for k from 0 to 7
abbrev pub eighths : ℕ → ℕ → ℕ → Bool
eighths low high opcode = nat_lt opcode 0x40 && from_to low high (opcode % 8)

-- a line of opcodes of one byte, and one of opcodes after 0F
abbrev pub one : (ℕ → Bool) → Form → Sizing → Digits → Follows → Row
one test form sizing digits follows = record {
  stands = λ escaped opcode. not escaped && test opcode;
  shape = record { form = form; sizing = sizing; digits = digits; follows = follows };
}

abbrev pub two : (ℕ → Bool) → Form → Sizing → Digits → Follows → Row
two test form sizing digits follows = record {
  stands = λ escaped opcode. escaped && test opcode;
  shape = record { form = form; sizing = sizing; digits = digits; follows = follows };
}

-- the table
unfoldable pub row : Line → Row
row AluTo = one (eighths 0 1) ModRm LowBit Any Nothing
row AluFrom = one (eighths 2 3) ModRm LowBit Any Nothing
row AluEax = one (eighths 4 5) Plain LowBit Any Sized
row Inc = one (from_to 0x40 0x47) Register Full Any Nothing
row Dec = one (from_to 0x48 0x4F) Register Full Any Nothing
row Push = one (from_to 0x50 0x57) Register Full Any Nothing
row Pop = one (from_to 0x58 0x5F) Register Full Any Nothing
row PushNumber = one (is 0x68) Plain Full Any Sized
row PushByte = one (is 0x6A) Plain Full Any SignedByte
row ImulNumber = one (is 0x69) ModRm Full Any Sized
row ImulByte = one (is 0x6B) ModRm Full Any SignedByte
row JccShort = one (from_to 0x70 0x7F) Branch Full Any SignedByte
row AluNumber = one (from_to 0x80 0x81) ModRm LowBit Any Sized
row AluByte = one (is 0x83) ModRm Full Any SignedByte
row Test = one (from_to 0x84 0x85) ModRm LowBit Any Nothing
row Xchg = one (from_to 0x86 0x87) ModRm LowBit Any Nothing
row MovTo = one (from_to 0x88 0x89) ModRm LowBit Any Nothing
row MovFrom = one (from_to 0x8A 0x8B) ModRm LowBit Any Nothing
row Lea = one (is 0x8D) Memory Full Any Nothing
row PopOperand = one (is 0x8F) ModRm Full Zero Nothing
row Nop = one (is 0x90) Plain Full Any Nothing
row XchgEax = one (from_to 0x91 0x97) Register Full Any Nothing
row Cwde = one (is 0x98) Plain Full Any Nothing
row Cdq = one (is 0x99) Plain Full Any Nothing
row LoadEax = one (from_to 0xA0 0xA1) Plain LowBit Any Address
row StoreEax = one (from_to 0xA2 0xA3) Plain LowBit Any Address
row TestEax = one (from_to 0xA8 0xA9) Plain LowBit Any Sized
row MovByte = one (from_to 0xB0 0xB7) Register ByteWide Any Sized
row MovFull = one (from_to 0xB8 0xBF) Register Full Any Sized
row ShiftByte = one (from_to 0xC0 0xC1) ModRm LowBit NotSix Byte
row ShiftOne = one (from_to 0xD0 0xD1) ModRm LowBit NotSix Nothing
row ShiftCl = one (from_to 0xD2 0xD3) ModRm LowBit NotSix Nothing
row RetWord = one (is 0xC2) Plain Full Any Word
row Ret = one (is 0xC3) Plain Full Any Nothing
row MovNumber = one (from_to 0xC6 0xC7) ModRm LowBit Zero Sized
row Leave = one (is 0xC9) Plain Full Any Nothing
row Call = one (is 0xE8) Branch Full Any Dword
row Jmp = one (is 0xE9) Branch Full Any Dword
row JmpShort = one (is 0xEB) Branch Full Any SignedByte
row GroupThree = one (from_to 0xF6 0xF7) ModRm LowBit NotOne Tested
row GroupFour = one (is 0xFE) ModRm ByteWide ZeroOrOne Nothing
row GroupFive = one (is 0xFF) ModRm Full OfGroupFive Nothing
row Endbr32 = two (is 0x1E) EndBranch Full Any Nothing
row NopOperand = two (is 0x1F) ModRm Full Zero Nothing
row Cmovcc = two (from_to 0x40 0x4F) ModRm Full Any Nothing
row Jcc = two (from_to 0x80 0x8F) Branch Full Any Dword
row Setcc = two (from_to 0x90 0x9F) ModRm ByteWide Any Nothing
row Imul = two (is 0xAF) ModRm Full Any Nothing
row Cmpxchg = two (is 0xB1) ModRm Full Any Nothing
row Xadd = two (is 0xC1) ModRm Full Any Nothing
row MovzxByte = two (is 0xB6) ModRm Full Any Nothing
row MovzxWord = two (is 0xB7) ModRm Full Any Nothing
row MovsxByte = two (is 0xBE) ModRm Full Any Nothing
row MovsxWord = two (is 0xBF) ModRm Full Any Nothing
row Int3 = one (is 0xCC) Plain Full Any Nothing
row Ud2 = two (is 0x0B) Plain Full Any Nothing
row OpcodeOnly = one (among
    (0x60 ∷ 0x61 ∷ 0x9C ∷ 0x9D ∷ 0x9E ∷ 0x9F ∷ 0xA4 ∷ 0xA5 ∷ 0xA6 ∷ 0xA7 ∷ 0xAA ∷ 0xAB ∷ 0xAC
    ∷ 0xAD ∷ 0xAE ∷ 0xAF ∷ 0xD7 ∷ 0xF4 ∷ 0xF5 ∷ 0xF8 ∷ 0xF9 ∷ 0xFA ∷ 0xFB ∷ 0xFC ∷ 0xFD ∷ [])) Plain Full Any Nothing
row Int = one (is 0xCD) Plain Full Any Byte
row Loop = one (from_to 0xE0 0xE3) Branch Full Any SignedByte
row Float = one (from_to 0xD8 0xDF) ModRm Full Any Nothing
row SecondOnly = two (among
    (0x31 ∷ 0xA2 ∷ 0xC8 ∷ 0xC9 ∷ 0xCA ∷ 0xCB ∷ 0xCC ∷ 0xCD ∷ 0xCE ∷ 0xCF ∷ [])) Plain Full Any Nothing
row SecondRm = two (among
    (0xA3 ∷ 0xA5 ∷ 0xAB ∷ 0xAD ∷ 0xB0 ∷ 0xB3 ∷ 0xBB ∷ 0xBC ∷ 0xBD ∷ 0xC0 ∷ [])) ModRm Full Any Nothing
row ShiftPair = two (among (0xA4 ∷ 0xAC ∷ [])) ModRm Full Any Byte
row BitTest = two (is 0xBA) ModRm Full FourUp Byte
row Cmpxchg8b = two (is 0xC7) Memory Full One Nothing
row NoLine = record {
  stands = λ escaped opcode. false;
  shape = record { form = Unlisted; sizing = Full; digits = Any; follows = Nothing };
}

abbrev pub shape_of : Line → Shape
shape_of line = (row line).shape

-- all lines of the table
abbrev pub table_lines : List Line
table_lines =
    AluTo ∷ AluFrom ∷ AluEax ∷ Inc ∷ Dec ∷ Push ∷ Pop ∷ PushNumber ∷ PushByte
    ∷ ImulNumber ∷ ImulByte ∷ JccShort ∷ AluNumber ∷ AluByte ∷ Test ∷ Xchg ∷ MovTo ∷ MovFrom
    ∷ Lea ∷ PopOperand ∷ Nop ∷ XchgEax ∷ Cwde ∷ Cdq ∷ LoadEax ∷ StoreEax ∷ TestEax
    ∷ MovByte ∷ MovFull ∷ ShiftByte ∷ ShiftOne ∷ ShiftCl ∷ RetWord ∷ Ret ∷ MovNumber ∷ Leave
    ∷ Call ∷ Jmp ∷ JmpShort ∷ GroupThree ∷ GroupFour ∷ GroupFive ∷ Endbr32 ∷ NopOperand ∷ Cmovcc
    ∷ Jcc ∷ Setcc ∷ Imul ∷ Cmpxchg ∷ Xadd ∷ MovzxByte ∷ MovzxWord ∷ MovsxByte ∷ MovsxWord
    ∷ Int3 ∷ Ud2 ∷ OpcodeOnly ∷ Int ∷ Loop ∷ Float ∷ SecondOnly ∷ SecondRm ∷ ShiftPair
    ∷ BitTest ∷ Cmpxchg8b ∷ []

-- the line on which an opcode stands
unfoldable pub line_of : Bool → ℕ → Line
line_of escaped opcode = unwrap_or (find (λ line. (row line).stands escaped opcode) table_lines) NoLine

-- the digits of a group
abbrev pub digit_allowed : Digits → ℕ → Bool
digit_allowed Any digit = true
digit_allowed Zero digit = digit == 0
digit_allowed One digit = digit == 1
digit_allowed ZeroOrOne digit = nat_le digit 1
digit_allowed NotSix digit = not (digit == 6)
digit_allowed NotOne digit = not (digit == 1)
digit_allowed OfGroupFive digit = nat_le digit 2 || digit == 4 || digit == 6
digit_allowed FourUp digit = nat_le 4 digit

-- `v`: 32 bits, or 16 with prefix 66
abbrev pub full_width_of : Bool → Width
full_width_of small = if small then Width16 else Width32

-- how wide the operands are, by the opcode and whether there is a prefix 66
abbrev pub width_of : Sizing → ℕ → Bool → Width
width_of ByteWide opcode small = Width8
width_of Full opcode small = full_width_of small
width_of LowBit opcode small = if opcode % 2 == 0 then Width8 else full_width_of small

-- how many bytes the number at the end has
abbrev pub follows_width : Follows → Width → ℕ → ℕ
follows_width Nothing width digit = 0
follows_width Byte width digit = 1
follows_width SignedByte width digit = 1
follows_width Word width digit = 2
follows_width Dword width digit = 4
follows_width Address width digit = 4
follows_width Sized width digit = byte_count width
follows_width Tested width digit = if digit == 0 then byte_count width else 0
