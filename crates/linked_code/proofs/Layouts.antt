-- How the parts of an instruction lie: prefixes and opcode, ModRM and SIB byte, displacement, immediate. A direct branch
-- has no displacement.
use Rattle.std.proofs.Common.{◌≡◌, ℕ, zero, suc, ◌+◌, ◌<◌, ◌≤◌, Bool, true, false, ◌&&◌, ◌||◌, cond, List, length}
use Rattle.std.proofs.Common.{Option, Some, None, nat_le, refl, sym, ap, subst, ◌∙◌, arith}
use Rattle.std.specs.Prelude.{◌==◌, is_some}
use Rattle.std.proofs.lemmas.Bool.{or_parts}
use Rattle.std.proofs.lemmas.Option.{same_Some}
use Rattle.ia32_decode.specs.declared.types.Decoded.{Decoded}
use Rattle.ia32_decode.specs.declared.types.Field.{Field}
use Rattle.ia32_decode.specs.declared.types.Fields.{Fields}
use Rattle.ia32_decode.specs.declared.types.Branch.{Branch}
use Rattle.ia32_decode.specs.declared.types.Prefixes.{Prefixes}
use Rattle.ia32_decode.specs.Branches.{branch_in, branch_of}
use Rattle.ia32_decode.specs.Encoding.{field_of, head_of, addressing_with, addressing_of, no_addressing}
use Rattle.ia32_decode.specs.Instructions.{shift_of, shifting_of, group_three_of, group_five_of, action_of, instr_of}
use Rattle.ia32_decode.specs.Table.{row, shape_of, line_of}
use Rattle.ia32_decode.specs.Decode.{front_of, fields_of, value_in, assembled, completed, accepts}
use Rattle.ia32_decode.specs.Decode.{number_width, line_addressing, read_with, read_line, read_front, decoded_from}
use Rattle.linked_code.proofs.DecodeTable.{Line, Head, Addressing, LineLaws, line_laws, of_table, has_modrm, is_address}
use Rattle.linked_code.proofs.DecodeTable.{fields_by, branch_by, still_branch, with_displacement}
use Rattle.linked_code.proofs.DecodeHeads.{head_passes}
use Rattle.linked_code.proofs.DecodeAddressing.{rest_of, displacement_begin, Reaches, reaches, rest_follows}

-- where the fields of an instruction begin, and how many bytes each has
pub record Laid (d : Decoded) : Type 0 where
  pub begin : ℕ
  pub first : ℕ
  pub second : ℕ
  pub displacement : d.fields.disp ≡ field_of begin first
  pub immediate : d.fields.imm ≡ field_of (begin + first) second
  pub total : begin + first + second ≡ d.length
  pub opcode : d.prefixes.count < d.fields.opcode_end
  pub starts : d.fields.opcode_end ≤ begin
  pub branch : (b : Branch) → branch_of d ≡ Some b → d.fields.disp ≡ None

abbrev pub FieldsLie : Type 0
FieldsLie = (window : List ℕ) (d : Decoded) → decoded_from window ≡ Some d → Laid d

-- a field that is there
pub record FieldIs (f : Field) (at n : ℕ) : Type 0 where
  pub offset : f.offset ≡ at
  pub width : f.width ≡ n

pub field_is : (at width : ℕ) (f : Field) → field_of at width ≡ Some f → FieldIs f at width
field_is at width f is = either (width == 0) is
  where
    either : (b : Bool) → cond b None (Some (record { offset = at; width = width })) ≡ Some f → FieldIs f at width
    either true is = absurd (cc)
    either false is =
        let same : record { offset = at; width = width } ≡ f = same_Some _ _ is in
        record { offset = cc; width = cc }

-- ---- direct branches
-- whether a line spells a direct branch, and has a displacement or an address
abbrev is_branch_with_more : Prefixes → ℕ → ℕ → Line → Bool
is_branch_with_more prefixes opcode digit line =
    is_some (still_branch line prefixes opcode digit)
    && (has_modrm (shape_of line).form || is_address (shape_of line).follows)

-- this is computed for each digit
no_branch_with_more : (prefixes : Prefixes) (k digit : ℕ) → digit < 8 →
    (escaped : Bool) (opcode : ℕ) → is_branch_with_more prefixes k digit (line_of escaped opcode) ≡ false
unfolding row line_of addressing_with no_addressing branch_in action_of shift_of shifting_of group_three_of group_five_of
no_branch_with_more prefixes k digit below escaped opcode = at digit below
  where
    more : ℕ → Line → Bool
    more digit line = is_branch_with_more prefixes k digit line

    none : Line → Bool
    none line = false

    at : (digit : ℕ) → digit < 8 → more digit (line_of escaped opcode) ≡ false
    at zero below = of_table (more 0) none refl refl escaped opcode
    at (suc zero) below = of_table (more 1) none refl refl escaped opcode
    at (suc (suc zero)) below = of_table (more 2) none refl refl escaped opcode
    at (suc (suc (suc zero))) below = of_table (more 3) none refl refl escaped opcode
    at (suc (suc (suc (suc zero)))) below = of_table (more 4) none refl refl escaped opcode
    at (suc (suc (suc (suc (suc zero))))) below = of_table (more 5) none refl refl escaped opcode
    at (suc (suc (suc (suc (suc (suc zero)))))) below = of_table (more 6) none refl refl escaped opcode
    at (suc (suc (suc (suc (suc (suc (suc zero))))))) below = of_table (more 7) none refl refl escaped opcode
    at (suc (suc (suc (suc (suc (suc (suc (suc digit)))))))) below = absurd (omega arith)

-- ---- what a line makes of the bytes behind an opcode
-- where the fields lie
record Placed (f : Fields) (long end : ℕ) : Type 0 where
  begin : ℕ
  first : ℕ
  second : ℕ
  displacement : f.disp ≡ field_of begin first
  immediate : f.imm ≡ field_of (begin + first) second
  total : begin + first + second ≡ long
  opcode : f.opcode_end ≡ end
  starts : end ≤ begin

placed_by : (address : Bool) (end begin n : ℕ) (r : Addressing) → Reaches end begin r →
    Placed (fields_by address end r n) (r.end + n) end
placed_by true end begin n r s = record {
  begin = r.end;
  first = n;
  second = 0;
  displacement = refl;
  immediate = refl;
  total = omega arith;
  opcode = refl;
  starts = omega (arith, s.starts, s.end);
}
placed_by false end begin n r s = record {
  begin = begin;
  first = s.width;
  second = n;
  displacement = s.displacement;
  immediate = ap (λ at. field_of at n) s.end;
  total = omega (arith, s.end);
  opcode = refl;
  starts = s.starts;
}

no_displacement : (at : ℕ) → (no_addressing at).displacement ≡ None
unfolding no_addressing
no_displacement at = refl

some_branch : (o : Option Branch) (value : ℕ) (b : Branch) → with_displacement o value ≡ Some b → is_some o ≡ true
some_branch None value b is = absurd (cc)
some_branch (Some branch) value b is = refl

neither : (a b : Bool) → (a && b) ≡ false → a ≡ true → b ≡ false
neither true b is here = is
neither false b is here = absurd (cc)

-- a direct branch has no displacement
branch_bare : (line : Line) → LineLaws line → (w : List ℕ) (h : Head) (r : Addressing) (n : ℕ) (b : Branch) →
    ((prefixes : Prefixes) (k digit : ℕ) → digit < 8 → is_branch_with_more prefixes k digit line ≡ false) →
    r ≡ line_addressing (shape_of line) w h → r.digit < 8 →
    branch_by line h.prefixes h.opcode r.digit
    (value_in (shape_of line).follows w r.end n) ≡ Some b →
    (fields_of (shape_of line).follows (rest_of line h) r n).disp ≡ None
branch_bare line t w h r n b bare same few is =
    let value : ℕ = value_in (shape_of line).follows w r.end n in
    let some = some_branch (still_branch line h.prefixes h.opcode r.digit) value b
    (sym (t.branch h.prefixes h.opcode r.digit value few) ∙ is) in
    let none = or_parts (has_modrm (shape_of line).form) (is_address (shape_of line).follows)
    (neither (is_some (still_branch line h.prefixes h.opcode r.digit))
    (has_modrm (shape_of line).form || is_address (shape_of line).follows)
    (bare h.prefixes h.opcode r.digit few) some) in
    ap (λ (f : Fields). f.disp) (t.fields (rest_of line h) r n)
    ∙ ap (λ address. (fields_by address (rest_of line h) r n).disp) none.1
    ∙ ap (λ (a : Addressing). a.displacement) (same ∙ t.addressing w (rest_of line h))
    ∙ ap (λ modrm. (cond {A = Addressing} modrm (addressing_of w (rest_of line h)) (no_addressing (rest_of line h))).displacement) none.0
    ∙ no_displacement (rest_of line h)

laid_by : (line : Line) → LineLaws line → (w : List ℕ) (h : Head) →
    ((prefixes : Prefixes) (k digit : ℕ) → digit < 8 → is_branch_with_more prefixes k digit line ≡ false) →
    h.prefixes.count < h.end → Laid (completed line w h (line_addressing (shape_of line) w h))
unfolding assembled instr_of
laid_by line t w h bare passes =
    let r : Addressing = line_addressing (shape_of line) w h in
    let n : ℕ = number_width (shape_of line) h r in
    let end : ℕ = rest_of line h in
    let reach = reaches line t w h in
    let p : Placed (fields_of (shape_of line).follows end r n) (r.end + n) end =
    subst (λ (f : Fields). Placed f (r.end + n) end) (sym (t.fields end r n))
    (placed_by (is_address (shape_of line).follows) end (displacement_begin line w h) n r reach) in
    let later = rest_follows line t h in
    record {
      begin = p.begin;
      first = p.first;
      second = p.second;
      displacement = p.displacement;
      immediate = p.immediate;
      total = p.total;
      opcode = omega (arith, passes, later, p.opcode);
      starts = omega (arith, p.opcode, p.starts);
      branch = λ b is. branch_bare line t w h r n b bare refl reach.digit is;
    }

-- ---- what is decoded
chosen : (a b : Bool) (x d : Decoded) → cond a (cond b (Some x) None) None ≡ Some d → x ≡ d
chosen true true x d is = cc
chosen true false x d is = absurd (cc)
chosen false b x d is = absurd (cc)

laid_front : (w : List ℕ) (d : Decoded) → read_front w ≡ Some d → Laid d
unfolding read_front read_line read_with
laid_front w d is =
    let h : Head = head_of w in
    let line : Line = line_of h.escaped h.opcode in
    let r : Addressing = line_addressing (shape_of line) w h in
    let made : Decoded = completed line w h r in
    subst Laid (chosen (accepts line w h r) (nat_le made.length (length w)) made d is)
    (laid_by line (line_laws h.escaped h.opcode) w h
    (λ prefixes k digit below. no_branch_with_more prefixes k digit below h.escaped h.opcode)
    (head_passes w))

pub fields_lie : FieldsLie
fields_lie window d is = laid_front (front_of window) d is
