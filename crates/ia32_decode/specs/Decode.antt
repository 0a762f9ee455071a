-- What the bytes at the start of a window spell: one instruction, where its line, and how long it is.
use Rattle.std.specs.Prelude.{◌≡◌, ◌≤◌, ℕ, ◌+◌, Bool, true, false, ◌&&◌, not, List, Option, Some, None, take, length}
use Rattle.std.specs.Prelude.{nat_le, ◌==◌, if◌then◌else◌}
use Rattle.ia32_decode.specs.declared.opcode_table.Line.{Line}
use Rattle.ia32_decode.specs.declared.opcode_table.Form.{Form}
use Rattle.ia32_decode.specs.declared.opcode_table.Form.TheVariants.{Unlisted, Plain, Register, Branch, ModRm, Memory}
use Rattle.ia32_decode.specs.declared.opcode_table.Form.TheVariants.{EndBranch}
use Rattle.ia32_decode.specs.declared.opcode_table.Follows.{Follows}
use Rattle.ia32_decode.specs.declared.opcode_table.Follows.TheVariants.{SignedByte, Address}
use Rattle.ia32_decode.specs.declared.opcode_table.Shape.{Shape}
use Rattle.ia32_decode.specs.declared.heads.Head.{Head}
use Rattle.ia32_decode.specs.declared.addressing.Addressing.{Addressing}
use Rattle.ia32_alu.specs.declared.types.Width.{Width}
use Rattle.ia32_decode.specs.declared.types.Fields.{Fields}
use Rattle.ia32_decode.specs.declared.types.Decoded.{Decoded}
use Rattle.ia32_decode.specs.Encoding.{byte_in, word_in, dword_in, extended, field_of, head_of, addressing_of}
use Rattle.ia32_decode.specs.Encoding.{no_addressing}
use Rattle.ia32_decode.specs.Table.{row, shape_of, line_of, digit_allowed, width_of, follows_width}
use Rattle.ia32_decode.specs.Instructions.{named_operand, instr_of}

-- the bytes that count: an instruction has at most 15
abbrev pub front_of : List ℕ → List ℕ
front_of window = take 15 window

-- the offset after the last opcode byte; FB of 0F 1E FB is one
abbrev pub opcode_end_of : Form → ℕ → ℕ
opcode_end_of EndBranch end = end + 1
opcode_end_of form end = end

-- what a ModRM byte says, where the form has one
abbrev pub form_addressing : Form → List ℕ → ℕ → Addressing
form_addressing ModRm w at = addressing_of w at
form_addressing Memory w at = addressing_of w at
form_addressing form w at = no_addressing at

-- whether a form takes what stands there: a branch no prefix 66, one of memory alone no register, and 0F 1E nothing but
-- F3 0F 1E FB
abbrev pub form_accepts : Form → List ℕ → Head → Addressing → Bool
form_accepts Unlisted w head a = false
form_accepts Plain w head a = true
form_accepts Register w head a = true
form_accepts Branch w head a = not head.prefixes.operand_size
form_accepts ModRm w head a = true
form_accepts Memory w head a = not a.is_register
form_accepts EndBranch w head a = head.prefixes.repeat && byte_in w head.end == 0xFB

-- the number at the end
abbrev pub number_in : List ℕ → ℕ → ℕ → ℕ
number_in w at width =
    if width == 1 then byte_in w at else if width == 2 then word_in w at else if width == 4 then dword_in w at else 0

abbrev pub value_in : Follows → List ℕ → ℕ → ℕ → ℕ
value_in SignedByte w at width = extended (byte_in w at)
value_in follows w at width = number_in w at width

-- an address that follows the opcode stands as a displacement
abbrev pub fields_of : Follows → ℕ → Addressing → ℕ → Fields
fields_of Address end a width = record { opcode_end = end; disp = field_of a.end width; imm = None }
fields_of follows end a width = record { opcode_end = end; disp = a.displacement; imm = field_of a.end width }

-- a line's instruction, from its head, what its ModRM byte says, and the number at the end
unfoldable pub assembled : Line → List ℕ → Head → Addressing → Width → ℕ → Decoded
assembled line w head a width n = record {
  length = a.end + n;
  instr = instr_of line (record {
    opcode = head.opcode;
    width = width;
    digit = a.digit;
    operand = named_operand (shape_of line).form head.opcode a.operand;
    value = value_in (shape_of line).follows w a.end n;
  });
  fields = fields_of (shape_of line).follows (opcode_end_of (shape_of line).form head.end) a n;
  prefixes = head.prefixes;
}

abbrev pub head_width : Shape → Head → Width
head_width shape head = width_of shape.sizing head.opcode head.prefixes.operand_size

abbrev pub number_width : Shape → Head → Addressing → ℕ
number_width shape head a = follows_width shape.follows (head_width shape head) a.digit

-- what a line's ModRM byte says
abbrev pub line_addressing : Shape → List ℕ → Head → Addressing
line_addressing shape w head = form_addressing shape.form w (opcode_end_of shape.form head.end)

-- the instruction of a line that stands at an opcode
abbrev pub completed : Line → List ℕ → Head → Addressing → Decoded
completed line w head a =
    assembled line w head a (head_width (shape_of line) head) (number_width (shape_of line) head a)

-- whether a line that stands at an opcode takes what follows it: its form, its digits, and the window's length
abbrev pub accepts : Line → List ℕ → Head → Addressing → Bool
accepts line w head a = form_accepts (shape_of line).form w head a && digit_allowed (shape_of line).digits a.digit

abbrev pub if_complete : List ℕ → Decoded → Option Decoded
if_complete w d = if nat_le d.length (length w) then Some d else None

unfoldable pub read_with : Line → List ℕ → Head → Addressing → Option Decoded
read_with line w head a = if accepts line w head a then if_complete w (completed line w head a) else None

unfoldable pub read_line : Line → List ℕ → Head → Option Decoded
read_line line w head = read_with line w head (line_addressing (shape_of line) w head)

-- the instruction at the start of at most 15 bytes
unfoldable pub read_front : List ℕ → Option Decoded
read_front w = read_line (line_of (head_of w).escaped (head_of w).opcode) w (head_of w)

-- the instruction at the start of a window
abbrev pub decoded_from : List ℕ → Option Decoded
decoded_from window = read_front (front_of window)

-- A line stands at the opcode of at most 15 bytes.
abbrev pub stands_at : Line → List ℕ → Bool
stands_at line w = (row line).stands (head_of w).escaped (head_of w).opcode

-- It takes what follows the opcode.
abbrev pub takes_rest : Line → List ℕ → Bool
takes_rest line w = accepts line w (head_of w) (line_addressing (shape_of line) w (head_of w))

-- its instruction
abbrev pub spelled : Line → List ℕ → Decoded
spelled line w = completed line w (head_of w) (line_addressing (shape_of line) w (head_of w))

-- A line of the opcode table spells the instruction, with the first bytes of the window, at most 15.
pub record Spells (window : List ℕ) (d : Decoded) : Type 0 where
  pub line : Line
  pub stands : stands_at line (front_of window) ≡ true
  pub takes : takes_rest line (front_of window) ≡ true
  pub whole : d.length ≤ length (front_of window)
  pub meaning : d ≡ spelled line (front_of window)
