-- What the lines of the opcode table make of the bytes behind an opcode. It is computed for each of them.
use Rattle.std.proofs.Common.{◌≡◌, ℕ, ◌+◌, ◌<◌, List, [], ◌∷◌, map, cond, zero, suc, Option, Some, None}
use Rattle.std.proofs.Common.{refl, true, false, Bool, nat_lt, arith}
use Rattle.std.specs.Prelude.{◌==◌, ◌&&◌, not, is_some, find, unwrap_or}
use Rattle.ia32_decode.specs.declared.types.Branch.{Branch}
use Rattle.ia32_decode.specs.declared.types.Fields.{Fields}
use Rattle.ia32_decode.specs.declared.types.Prefixes.{Prefixes}
use Rattle.ia32_alu.specs.declared.types.Width.{Width}
use Rattle.ia32_decode.specs.Encoding.{byte_in, extended, field_of, head_of, addressing_with, addressing_of, no_addressing}
use Rattle.ia32_decode.specs.Table.{row, shape_of, line_of, table_lines, follows_width}
use Rattle.ia32_decode.specs.Instructions.{shift_of, shifting_of, group_three_of, group_five_of, action_of}
use Rattle.ia32_decode.specs.Decode.{opcode_end_of, form_addressing, form_accepts, number_in, value_in, fields_of}
use Rattle.ia32_decode.specs.Branches.{branch_in}

-- types of the decoder's definitions
abbrev TypeOf : {A : Type 0} → A → Type 0
TypeOf {A = A} a = A

abbrev pub Line : Type 0
Line = TypeOf (line_of false 0)

abbrev pub Head : Type 0
Head = TypeOf (head_of [])

abbrev pub Addressing : Type 0
Addressing = TypeOf (no_addressing 0)

abbrev pub Form : Type 0
Form = TypeOf (shape_of (line_of false 0)).form

abbrev pub Follows : Type 0
Follows = TypeOf (shape_of (line_of false 0)).follows

-- where two functions are the same at each line of the table, and at the one for opcodes that stand in none, they are so
-- at the line of each opcode
found_same : {A B : Type 0} (f g : A → B) (test : A → Bool) (xs : List A) (d : A) → map f xs ≡ map g xs → f d ≡ g d
    → f (unwrap_or (find test xs) d) ≡ g (unwrap_or (find test xs) d)
found_same f g test [] d same last = last
found_same f g test (x ∷ xs) d same last =
    let first : f x ≡ g x = cc in
    let rest : map f xs ≡ map g xs = cc in
    either (test x) first (found_same f g test xs d rest last)
  where
    either : (b : Bool) → f x ≡ g x → f (unwrap_or (find test xs) d) ≡ g (unwrap_or (find test xs) d)
        → f (unwrap_or (cond b (Some x) (find test xs)) d) ≡ g (unwrap_or (cond b (Some x) (find test xs)) d)
    either true first rest = first
    either false first rest = rest

pub of_table : {B : Type 0} (f g : Line → B) → map f table_lines ≡ map g table_lines
    → f (line_of false 0x0F) ≡ g (line_of false 0x0F) → (escaped : Bool) (opcode : ℕ)
    → f (line_of escaped opcode) ≡ g (line_of escaped opcode)
unfolding line_of row
of_table f g same last escaped opcode =
    found_same f g (λ line. (row line).stands escaped opcode) table_lines (line_of false 0x0F) same last

-- whether a form has a ModRM byte, and whether a byte of the opcode stands behind those of the head
abbrev pub has_modrm : Form → Bool
has_modrm form = not (form_addressing form [] 0).is_register

abbrev pub ends_later : Form → Bool
ends_later form = opcode_end_of form 0 == 1

-- whether an address follows, or a byte that is sign-extended
abbrev pub is_address : Follows → Bool
is_address follows = not (is_some (fields_of follows 0 (no_addressing 0) 1).imm)

abbrev pub is_signed : Follows → Bool
is_signed follows = nat_lt 0x80 (value_in follows (0x80 ∷ []) 0 1)

-- an addressing that names a register or not
abbrev pub register_or_not : Bool → Addressing
register_or_not is_register = record (no_addressing 0) { is_register = is_register }

-- the fields where an address follows, and where something else does
abbrev pub fields_by : (address : Bool) → ℕ → Addressing → ℕ → Fields
fields_by address end a n =
    cond {A = Fields} address (record { opcode_end = end; disp = field_of a.end n; imm = None })
    (record { opcode_end = end; disp = a.displacement; imm = field_of a.end n })

-- the direct branch that a line spells
abbrev pub branch_by : Line → Prefixes → ℕ → ℕ → ℕ → Option Branch
branch_by line prefixes opcode digit value = branch_in prefixes (action_of line opcode digit) value

-- a branch with another displacement
abbrev pub with_displacement : Option Branch → ℕ → Option Branch
with_displacement None value = None
with_displacement (Some branch) value =
    Some (record { kind = branch.kind; prefixes = branch.prefixes; displacement = value })

-- the branch that a line spells, however far it goes
abbrev pub still_branch : Line → Prefixes → ℕ → ℕ → Option Branch
still_branch line prefixes opcode digit = branch_by line prefixes opcode digit 0

-- What a line makes of the bytes behind an opcode.
pub record LineLaws (line : Line) : Type 0 where
  pub ends : (end : ℕ)
      → opcode_end_of (shape_of line).form end ≡ cond (ends_later (shape_of line).form) (end + 1) end
  pub addressing : (w : List ℕ) (at : ℕ)
      → form_addressing (shape_of line).form w at
      ≡ cond (has_modrm (shape_of line).form) (addressing_of w at) (no_addressing at)
  pub accepts : (w : List ℕ) (h : Head) (a : Addressing)
      → form_accepts (shape_of line).form w h a
      ≡ cond (ends_later (shape_of line).form) (h.prefixes.repeat && byte_in w h.end == 0xFB)
      (form_accepts (shape_of line).form [] h (register_or_not a.is_register))
  pub value : (w : List ℕ) (at n : ℕ)
      → value_in (shape_of line).follows w at n
      ≡ cond (is_signed (shape_of line).follows) (extended (byte_in w at)) (number_in w at n)
  pub signed : (width : Width) (digit : ℕ)
      → follows_width (shape_of line).follows width digit
      ≡ cond (is_signed (shape_of line).follows) 1 (follows_width (shape_of line).follows width digit)
  pub fields : (end : ℕ) (a : Addressing) (n : ℕ)
      → fields_of (shape_of line).follows end a n ≡ fields_by (is_address (shape_of line).follows) end a n
  pub branch : (prefixes : Prefixes) (opcode digit value : ℕ) → digit < 8
      → branch_by line prefixes opcode digit value
      ≡ with_displacement (still_branch line prefixes opcode digit) value

-- this is computed for each digit, since some lines mean other instructions at other digits
branches : (prefixes : Prefixes) (k digit value : ℕ) → digit < 8 → (escaped : Bool) (opcode : ℕ)
    → branch_by (line_of escaped opcode) prefixes k digit value
    ≡ with_displacement (still_branch (line_of escaped opcode) prefixes k digit) value
unfolding row line_of branch_in action_of shift_of shifting_of group_three_of group_five_of
branches prefixes k digit value below escaped opcode = at digit below
  where
    spelled : ℕ → Line → Option Branch
    spelled digit line = branch_by line prefixes k digit value

    moved : ℕ → Line → Option Branch
    moved digit line = with_displacement (still_branch line prefixes k digit) value

    at : (digit : ℕ) → digit < 8 → spelled digit (line_of escaped opcode) ≡ moved digit (line_of escaped opcode)
    at zero below = of_table (spelled 0) (moved 0) refl refl escaped opcode
    at (suc zero) below = of_table (spelled 1) (moved 1) refl refl escaped opcode
    at (suc (suc zero)) below = of_table (spelled 2) (moved 2) refl refl escaped opcode
    at (suc (suc (suc zero))) below = of_table (spelled 3) (moved 3) refl refl escaped opcode
    at (suc (suc (suc (suc zero)))) below = of_table (spelled 4) (moved 4) refl refl escaped opcode
    at (suc (suc (suc (suc (suc zero))))) below = of_table (spelled 5) (moved 5) refl refl escaped opcode
    at (suc (suc (suc (suc (suc (suc zero)))))) below = of_table (spelled 6) (moved 6) refl refl escaped opcode
    at (suc (suc (suc (suc (suc (suc (suc zero))))))) below = of_table (spelled 7) (moved 7) refl refl escaped opcode
    at (suc (suc (suc (suc (suc (suc (suc (suc digit)))))))) below = absurd (omega arith)

pub line_laws : (escaped : Bool) (opcode : ℕ) → LineLaws (line_of escaped opcode)
unfolding row line_of addressing_with no_addressing
line_laws escaped opcode = record {
  ends = λ end. of_table (λ line. opcode_end_of (shape_of line).form end)
      (λ line. cond (ends_later (shape_of line).form) (end + 1) end) refl refl escaped opcode;
  addressing = λ w at. of_table (λ line. form_addressing (shape_of line).form w at)
      (λ line. cond (has_modrm (shape_of line).form) (addressing_of w at) (no_addressing at)) refl refl escaped opcode;
  accepts = λ w h a. of_table (λ line. form_accepts (shape_of line).form w h a)
      (λ line. cond (ends_later (shape_of line).form) (h.prefixes.repeat && byte_in w h.end == 0xFB)
      (form_accepts (shape_of line).form [] h (register_or_not a.is_register))) refl refl escaped opcode;
  value = λ w at n. of_table (λ line. value_in (shape_of line).follows w at n)
      (λ line. cond (is_signed (shape_of line).follows) (extended (byte_in w at)) (number_in w at n)) refl refl escaped
      opcode;
  signed = λ width digit. of_table (λ line. follows_width (shape_of line).follows width digit)
      (λ line. cond (is_signed (shape_of line).follows) 1 (follows_width (shape_of line).follows width digit)) refl refl
      escaped opcode;
  fields = λ end a n. of_table (λ line. fields_of (shape_of line).follows end a n)
      (λ line. fields_by (is_address (shape_of line).follows) end a n) refl refl escaped opcode;
  branch = λ prefixes k digit value below. branches prefixes k digit value below escaped opcode;
}
