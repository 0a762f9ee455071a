-- The wide form of an instruction rests on the instruction's own bytes.
use Rattle.std.proofs.Common.{◌≡◌, ℕ, ◌+◌, ◌-◌, ◌<◌, ◌≤◌, List, ◌++◌, length, take, drop, cond, refl, ap, sym}
use Rattle.std.proofs.Common.{◌∙◌, arith, true, false, Bool, set}
use Rattle.std.proofs.lemmas.List.{get_or-take, take-take, drop-take}
use Rattle.std.proofs.lemmas.Bool.{eqb-true}
use Rattle.ia32_decode.specs.declared.types.Decoded.{Decoded}
use Rattle.ia32_decode.specs.declared.types.Fields.{Fields}
use Rattle.ia32_decode.specs.Encoding.{byte_in, field_of}
use Rattle.ia32_alu.specs.Widths.{byte_count}
use Rattle.ia32_decode.specs.Table.{full_width_of}
use Rattle.ia32_decode.specs.Wide.{widened, wide_opcode, has_wide_opcode, opcode_in, wide_head}
use Rattle.ia32_decode.specs.Wide.{addressing_bytes, is_short, with_wide_mode, wide_addressing, field_bytes}
use Rattle.ia32_decode.specs.Wide.{wide_displacement, wide_immediate, wide_bytes, wide_fields}
use Rattle.ia32_decode.proofs.FieldOrder.{Laid}
use Rattle.ia32_decode.proofs.WideForms.{addressing_is, displacement_is, immediate_is, is_short_displacement}
use Rattle.ia32_decode.proofs.WideForms.{wide_bytes_is, fields_is}

-- bytes of a list that lie in its front
part_of_front : (w : List ℕ) (at k n : ℕ) → at + k ≤ n → take k (drop at (take n w)) ≡ take k (drop at w)
part_of_front w at k n fits =
    ap (λ m. take k (drop at (take m w))) (back at n (omega arith))
    ∙ ap (take k) (drop-take at (n - at) w)
    ∙ take-take k (n - at) (drop at w) (omega arith)
  where
    back : (a n : ℕ) → a ≤ n → n ≡ a + (n - a)
    back a n h = omega arith

-- an instruction whose window is cut at its length
abbrev own : List ℕ → Decoded → List ℕ
own w d = take d.length w

opcode_rests : (w : List ℕ) (d : Decoded) → Laid d → opcode_in (own w d) d ≡ opcode_in w d
opcode_rests w d l = get_or-take d.length w d.prefixes.count 0 (before _ _ _ _ _ _ l.opcode l.starts l.total)
  where
    before : (c e b k n x : ℕ) → c < e → e ≤ b → b + k + n ≡ x → c < x
    before c e b k n x p q r = omega arith

head_rests : (w : List ℕ) (d : Decoded) → Laid d → wide_head (own w d) d ≡ wide_head w d
head_rests w d l =
    let e : ℕ = d.fields.opcode_end in
    ap (λ bytes. set bytes d.prefixes.count (wide_opcode (opcode_in (own w d) d)))
    (take-take e d.length w (before _ _ _ _ _ l.starts l.total))
    ∙ ap (λ opcode. set (take e w) d.prefixes.count (wide_opcode opcode)) (opcode_rests w d l)
  where
    before : (e b k n x : ℕ) → e ≤ b → b + k + n ≡ x → e ≤ x
    before e b k n x p q = omega arith

addressing_rests : (w : List ℕ) (d : Decoded) → Laid d → wide_addressing (own w d) d ≡ wide_addressing w d
addressing_rests w d l =
    let e : ℕ = d.fields.opcode_end in
    let bytes : addressing_bytes (own w d) d ≡ addressing_bytes w d =
    addressing_is (own w d) d l
    ∙ part_of_front w e (l.begin - e) d.length (before _ _ _ _ _ l.starts l.total)
    ∙ sym (addressing_is w d l) in
    ap (λ x. cond (is_short d.fields.disp) (set x 0 (with_wide_mode (byte_in (own w d) e))) x) bytes
    ∙ by (is_short d.fields.disp)
    (λ short. get_or-take d.length w e 0
    (within _ _ _ _ _ (l.follows_mode (eqb-true l.displacement_width 1 (sym (is_short_displacement d l) ∙ short)))
    l.total))
  where
    before : (e b k n x : ℕ) → e ≤ b → b + k + n ≡ x → e + (b - e) ≤ x
    before e b k n x p q = omega arith

    within : (e b k n x : ℕ) → e < b → b + k + n ≡ x → e < x
    within e b k n x p q = omega arith

    by : (t : Bool) → (t ≡ true → byte_in (own w d) d.fields.opcode_end ≡ byte_in w d.fields.opcode_end)
        → cond t (set (addressing_bytes w d) 0 (with_wide_mode (byte_in (own w d) d.fields.opcode_end)))
        (addressing_bytes w d)
        ≡ cond t (set (addressing_bytes w d) 0 (with_wide_mode (byte_in w d.fields.opcode_end))) (addressing_bytes w d)
    by true is = ap (λ m. set (addressing_bytes w d) 0 (with_wide_mode m)) (is refl)
    by false is = refl

displacement_rests : (w : List ℕ) (d : Decoded) → Laid d → wide_displacement (own w d) d ≡ wide_displacement w d
displacement_rests w d l =
    ap (widened 4) (displacement_is (own w d) d l
    ∙ part_of_front w l.begin l.displacement_width d.length (before _ _ _ _ l.total)
    ∙ sym (displacement_is w d l))
  where
    before : (b k n x : ℕ) → b + k + n ≡ x → b + k ≤ x
    before b k n x p = omega arith

immediate_rests : (w : List ℕ) (d : Decoded) → Laid d → wide_immediate (own w d) d ≡ wide_immediate w d
immediate_rests w d l =
    ap (λ opcode. number opcode (field_bytes (own w d) d.fields.imm)) (opcode_rests w d l)
    ∙ ap (number (opcode_in w d)) (immediate_is (own w d) d l
    ∙ part_of_front w (l.begin + l.displacement_width) l.immediate_width d.length (before _ _ l.total)
    ∙ sym (immediate_is w d l))
  where
    number : ℕ → List ℕ → List ℕ
    number opcode bytes =
        cond (has_wide_opcode opcode) (widened (byte_count (full_width_of d.prefixes.operand_size)) bytes) bytes

    before : (k n : ℕ) → k ≡ n → k ≤ n
    before k n p = omega arith

-- the parts put together, and the fields by their lengths
joined : List ℕ → List ℕ → List ℕ → List ℕ → List ℕ
joined head addressing displacement immediate = head ++ addressing ++ displacement ++ immediate

abbrev placed : ℕ → List ℕ → List ℕ → List ℕ → List ℕ → Fields
placed end head addressing displacement immediate = record {
  opcode_end = end;
  disp = field_of (length head + length addressing) (length displacement);
  imm = field_of (length head + length addressing + length displacement) (length immediate);
}

bytes_own : (w : List ℕ) (d : Decoded) → Laid d → wide_bytes (own w d) d ≡ wide_bytes w d
bytes_own w d l =
    let v : List ℕ = own w d in
    wide_bytes_is v d
    ∙ ap (λ x. x ++ wide_addressing v d ++ wide_displacement v d ++ wide_immediate v d) (head_rests w d l)
    ∙ ap (λ x. wide_head w d ++ x ++ wide_displacement v d ++ wide_immediate v d) (addressing_rests w d l)
    ∙ ap (λ x. wide_head w d ++ wide_addressing w d ++ x ++ wide_immediate v d) (displacement_rests w d l)
    ∙ ap (λ x. wide_head w d ++ wide_addressing w d ++ wide_displacement w d ++ x) (immediate_rests w d l)
    ∙ sym (wide_bytes_is w d)

fields_own : (w : List ℕ) (d : Decoded) → Laid d → wide_fields (own w d) d ≡ wide_fields w d
fields_own w d l =
    let v : List ℕ = own w d in
    let e : ℕ = d.fields.opcode_end in
    fields_is v d
    ∙ ap (λ x. placed e x (wide_addressing v d) (wide_displacement v d) (wide_immediate v d)) (head_rests w d l)
    ∙ ap (λ x. placed e (wide_head w d) x (wide_displacement v d) (wide_immediate v d)) (addressing_rests w d l)
    ∙ ap (λ x. placed e (wide_head w d) (wide_addressing w d) x (wide_immediate v d)) (displacement_rests w d l)
    ∙ ap (λ x. placed e (wide_head w d) (wide_addressing w d) (wide_displacement w d) x) (immediate_rests w d l)
    ∙ sym (fields_is w d)

pub bytes_rest : (window other : List ℕ) (d : Decoded) → Laid d → take d.length other ≡ take d.length window
    → wide_bytes other d ≡ wide_bytes window d
bytes_rest window other d l same =
    sym (bytes_own other d l) ∙ ap (λ w. wide_bytes w d) same ∙ bytes_own window d l

pub fields_rest : (window other : List ℕ) (d : Decoded) → Laid d → take d.length other ≡ take d.length window
    → wide_fields other d ≡ wide_fields window d
fields_rest window other d l same =
    sym (fields_own other d l) ∙ ap (λ w. wide_fields w d) same ∙ fields_own window d l
