-- How the parts of an instruction follow one another: prefixes and opcode, ModRM and SIB byte, displacement, immediate.
use Rattle.std.proofs.Common.{◌≡◌, ℕ, ◌+◌, ◌<◌, ◌≤◌, List, take, cond, Some}
use Rattle.std.proofs.Common.{refl, ap, sym, subst, ◌∙◌, arith, true, false, Bool}
use Rattle.std.specs.Prelude.{◌==◌, ◌/◌, ◌||◌}
use Rattle.ia32_decode.specs.declared.opcode_table.Line.{Line}
use Rattle.ia32_decode.specs.declared.opcode_table.Form.{Form}
use Rattle.ia32_decode.specs.declared.opcode_table.Form.TheVariants.{Unlisted, Plain, Register, Branch, ModRm, Memory, EndBranch}
use Rattle.ia32_decode.specs.declared.opcode_table.Follows.{Follows}
use Rattle.ia32_decode.specs.declared.opcode_table.Follows.TheVariants.{Nothing, Byte, SignedByte, Word, Dword}
use Rattle.ia32_decode.specs.declared.opcode_table.Follows.TheVariants.{Address, Sized, Tested}
use Rattle.ia32_decode.specs.declared.types.Decoded.{Decoded}
use Rattle.ia32_alu.specs.declared.types.Width.{Width}
use Rattle.ia32_alu.specs.declared.types.Width.TheVariants.{Byte as Width8, Word as Width16, Dword as Width32}
use Rattle.ia32_decode.specs.declared.types.Fields.{Fields}
use Rattle.ia32_decode.specs.declared.types.Prefixes.{Prefixes}
use Rattle.ia32_decode.specs.declared.heads.Head.{Head}
use Rattle.ia32_decode.specs.declared.addressing.Addressing.{Addressing}
use Rattle.ia32_alu.specs.Widths.{byte_count}
use Rattle.ia32_decode.specs.Encoding.{byte_in, prefix_count, prefixes_of, head_of, sib_length, field_of}
use Rattle.ia32_decode.specs.Encoding.{lacks_base}
use Rattle.ia32_decode.specs.Encoding.{displacement_width, addressing_with, addressing_of, no_addressing}
use Rattle.ia32_decode.specs.Table.{shape_of, line_of, follows_width}
use Rattle.ia32_decode.specs.Decode.{front_of, opcode_end_of, form_addressing, fields_of, assembled, completed}
use Rattle.ia32_decode.specs.Decode.{head_width, number_width, decoded_from, read_line}
use Rattle.ia32_decode.proofs.Locality.{Fitting, fitting, head_is, read_line_is, read_front_by_line}

-- A reading of a ModRM byte, or of none, that begins at an offset: where its displacement is and how many bytes it has.
record Reaches (at : ℕ) (r : Addressing) : Type 0 where
  pub begin : ℕ
  pub width : ℕ
  pub displacement : r.displacement ≡ field_of begin width
  pub end : r.end ≡ begin + width
  pub starts : at ≤ begin
  pub follows_mode : 0 < width → at < begin
  pub narrow : width ≤ 4
  pub full : 0 < width → cond (width == 1) 4 width ≡ 4

modrm_reaches : (w : List ℕ) (at : ℕ) → Reaches at (addressing_of w at)
unfolding addressing_with
modrm_reaches w at =
    let m : ℕ = byte_in w at in
    record {
      begin = at + 1 + sib_length m;
      width = displacement_width m (byte_in w (at + 1));
      displacement = refl;
      end = refl;
      starts = after at (sib_length m);
      follows_mode = λ _. later at (sib_length m);
      narrow = few (m / 64 == 1) (m / 64 == 2 || lacks_base m (byte_in w (at + 1)));
      full = whole (m / 64 == 1) (m / 64 == 2 || lacks_base m (byte_in w (at + 1)));
    }
  where
    after : (at k : ℕ) → at ≤ at + 1 + k
    after at k = omega arith

    later : (at k : ℕ) → at < at + 1 + k
    later at k = omega arith

    few : (a b : Bool) → cond a 1 (cond b 4 0) ≤ 4
    few true b = omega arith
    few false true = omega arith
    few false false = omega arith

    whole : (a b : Bool) → 0 < cond a 1 (cond b 4 0)
        → cond {A = ℕ} (cond a 1 (cond b 4 0) == 1) 4 (cond a 1 (cond b 4 0)) ≡ 4
    whole true b some = refl
    whole false true some = refl
    whole false false some = omega arith

absent_reaches : (at : ℕ) → Reaches at (no_addressing at)
unfolding no_addressing
absent_reaches at = record {
  begin = at;
  width = 0;
  displacement = refl;
  end = omega arith;
  starts = omega arith;
  follows_mode = λ h. omega arith;
  narrow = omega arith;
  full = λ h. omega arith;
}

form_reaches : (form : Form) (w : List ℕ) (at : ℕ) → Reaches at (form_addressing form w at)
form_reaches ModRm w at = modrm_reaches w at
form_reaches Memory w at = modrm_reaches w at
form_reaches Unlisted w at = absent_reaches at
form_reaches Plain w at = absent_reaches at
form_reaches Register w at = absent_reaches at
form_reaches Branch w at = absent_reaches at
form_reaches EndBranch w at = absent_reaches at

-- How the parts of an instruction follow one another: where its first field begins, and how wide both are.
pub record Laid (d : Decoded) : Type 0 where
  pub begin : ℕ
  pub displacement_width : ℕ
  pub immediate_width : ℕ
  pub displacement : d.fields.disp ≡ field_of begin displacement_width
  pub immediate : d.fields.imm ≡ field_of (begin + displacement_width) immediate_width
  pub total : begin + displacement_width + immediate_width ≡ d.length
  pub opcode : d.prefixes.count < d.fields.opcode_end
  pub starts : d.fields.opcode_end ≤ begin
  pub follows_mode : displacement_width ≡ 1 → d.fields.opcode_end < begin
  pub narrow : displacement_width ≤ 4
  pub full : 0 < displacement_width → cond (displacement_width == 1) 4 displacement_width ≡ 4
  pub number_narrow : immediate_width ≤ 4

count_narrow : (width : Width) → byte_count width ≤ 4
count_narrow Width8 = omega arith
count_narrow Width16 = omega arith
count_narrow Width32 = omega arith

follows_narrow : (follows : Follows) (width : Width) (digit : ℕ) → follows_width follows width digit ≤ 4
follows_narrow Nothing width digit = omega arith
follows_narrow Byte width digit = omega arith
follows_narrow SignedByte width digit = omega arith
follows_narrow Word width digit = omega arith
follows_narrow Dword width digit = omega arith
follows_narrow Address width digit = omega arith
follows_narrow Sized width digit = count_narrow width
follows_narrow Tested width digit = either (digit == 0) (byte_count width) (count_narrow width)
  where
    either : (b : Bool) (n : ℕ) → n ≤ 4 → cond b n 0 ≤ 4
    either true n h = h
    either false n h = omega arith

-- an instruction of some fields, prefixes and length
record Parted (follows : Follows) (end : ℕ) (r : Addressing) (n : ℕ) (d : Decoded) : Type 0 where
  pub fields : d.fields ≡ fields_of follows end r n
  pub length : d.length ≡ r.end + n

laid_with : (follows : Follows) (end : ℕ) (r : Addressing) (width : Width) (digit : ℕ) (d : Decoded) → Reaches end r
    → Parted follows end r (follows_width follows width digit) d → d.prefixes.count < end → Laid d
laid_with Address end r width digit d s p head = record {
  begin = r.end;
  displacement_width = 4;
  immediate_width = 0;
  displacement = ap (λ (f : Fields). f.disp) p.fields;
  immediate = ap (λ (f : Fields). f.imm) p.fields;
  total = plus _ _ p.length;
  opcode = subst (λ k. d.prefixes.count < k) (sym (ap (λ (f : Fields). f.opcode_end) p.fields)) head;
  starts = subst (λ k. k ≤ r.end) (sym (ap (λ (f : Fields). f.opcode_end) p.fields)) (before _ _ _ _ s.starts s.end);
  follows_mode = λ is. absurd (four 4 refl is);
  narrow = omega arith;
  full = λ _. refl;
  number_narrow = omega arith;
}
  where
    plus : (x y : ℕ) → y ≡ x + 4 → x + 4 + 0 ≡ y
    plus x y is = omega arith

    before : (e b k x : ℕ) → e ≤ b → x ≡ b + k → e ≤ x
    before e b k x h is = omega arith

    four : (k : ℕ) → k ≡ 4 → k ≡ 1 → ⊥
    four k is other = omega arith
laid_with follows end r width digit d s p head =
    let n : ℕ = follows_width follows width digit in
    let fields : d.fields ≡ record { opcode_end = end; disp = r.displacement; imm = field_of r.end n } = p.fields in
    record {
      begin = s.begin;
      displacement_width = s.width;
      immediate_width = n;
      displacement = ap (λ (f : Fields). f.disp) fields ∙ s.displacement;
      immediate = ap (λ (f : Fields). f.imm) fields ∙ ap (λ k. field_of k n) s.end;
      total = sym (p.length ∙ ap (λ k. k + n) s.end);
      opcode = subst (λ k. d.prefixes.count < k) (sym (ap (λ (f : Fields). f.opcode_end) fields)) head;
      starts = subst (λ k. k ≤ s.begin) (sym (ap (λ (f : Fields). f.opcode_end) fields)) s.starts;
      follows_mode = λ is. subst (λ k. k < s.begin) (sym (ap (λ (f : Fields). f.opcode_end) fields)) (s.follows_mode (some s.width is));
      narrow = s.narrow;
      full = s.full;
      number_narrow = follows_narrow follows width digit;
    }
  where
    some : (k : ℕ) → k ≡ 1 → 0 < k
    some k is = omega arith

-- what a line makes of a head and the reading of a ModRM byte
completed_parts : (line : Line) (w : List ℕ) (h : Head) (r : Addressing)
    → Parted (shape_of line).follows (opcode_end_of (shape_of line).form h.end) r
    (number_width (shape_of line) h r) (completed line w h r)
unfolding assembled
completed_parts line w h r = record { fields = refl; length = refl }

completed_prefixes : (line : Line) (w : List ℕ) (h : Head) (r : Addressing)
    → (completed line w h r).prefixes ≡ h.prefixes
unfolding assembled
completed_prefixes line w h r = refl

count_is : (front : List ℕ) (p : ℕ) → (prefixes_of front p).count ≡ p
unfolding prefixes_of
count_is front p = refl

-- the opcode ends behind the prefixes
head_passes : (w : List ℕ) → (head_of w).prefixes.count < (head_of w).end
head_passes w =
    let p : ℕ = prefix_count w in
    let prefixes : Prefixes = prefixes_of (take p w) p in
    subst (λ (h : Head). h.prefixes.count < h.end) (sym (head_is w prefixes p))
    (later (byte_in w p == 0x0F) prefixes (byte_in w p) (byte_in w (p + 1)) p (count_is (take p w) p))
  where
    later : (t : Bool) (prefixes : Prefixes) (b c p : ℕ) → prefixes.count ≡ p
        → (cond {A = Head} t (record { prefixes = prefixes; escaped = true; opcode = c; end = p + 2 })
        (record { prefixes = prefixes; escaped = false; opcode = b; end = p + 1 })).prefixes.count
        < (cond {A = Head} t (record { prefixes = prefixes; escaped = true; opcode = c; end = p + 2 })
        (record { prefixes = prefixes; escaped = false; opcode = b; end = p + 1 })).end
    later true prefixes b c p is = omega arith
    later false prefixes b c p is = omega arith

laid_by : (line : Line) (w : List ℕ) (h : Head) (d : Decoded) → h.prefixes.count < h.end → read_line line w h ≡ Some d
    → Laid d
laid_by line w h d passes is =
    let at : ℕ = opcode_end_of (shape_of line).form h.end in
    let r : Addressing = form_addressing (shape_of line).form w at in
    let f : Fitting line w h r d = fitting line w h r d (sym (read_line_is line w h) ∙ is) in
    laid_with (shape_of line).follows at r (head_width (shape_of line) h) r.digit d
    (form_reaches (shape_of line).form w at)
    (subst (Parted (shape_of line).follows at r (number_width (shape_of line) h r)) f.same (completed_parts line w h r))
    (before _ _ _ _ (ap (λ (p : Prefixes). p.count) (sym (completed_prefixes line w h r) ∙ ap (λ (x : Decoded). x.prefixes) f.same)) passes
    (opcode_ends (shape_of line).form h.end))
  where
    opcode_ends : (form : Form) (end : ℕ) → end ≤ opcode_end_of form end
    opcode_ends EndBranch end = omega arith
    opcode_ends ModRm end = omega arith
    opcode_ends Memory end = omega arith
    opcode_ends Unlisted end = omega arith
    opcode_ends Plain end = omega arith
    opcode_ends Register end = omega arith
    opcode_ends Branch end = omega arith

    before : (p q e s : ℕ) → p ≡ q → p < e → e ≤ s → q < s
    before p q e s is h k = omega arith

pub laid : (window : List ℕ) (d : Decoded) → decoded_from window ≡ Some d → Laid d
laid window d is =
    let v : List ℕ = front_of window in
    let line : Line = line_of (head_of v).escaped (head_of v).opcode in
    laid_by line v (head_of v) d (head_passes v) (sym (read_front_by_line v) ∙ is)
