-- What the bytes behind the opcode say of an instruction doesn't rest on the bytes of its fields.
use Rattle.std.proofs.Common.{◌≡◌, ℕ, ◌+◌, ◌<◌, ◌≤◌, List, [], cond}
use Rattle.std.proofs.Common.{refl, ap, sym, subst, ◌∙◌, arith, true, false, Bool}
use Rattle.std.specs.Prelude.{◌==◌, ◌||◌, ◌&&◌}
use Rattle.ia32_decode.specs.Encoding.{byte_in, mode, middle, lowest, has_sib, sib_length, base_number}
use Rattle.ia32_decode.specs.Encoding.{displacement_width, field_of, addressing_with, addressing_of, no_addressing}
use Rattle.ia32_decode.specs.Table.{shape_of}
use Rattle.ia32_decode.specs.Decode.{opcode_end_of, form_accepts, line_addressing}
use Rattle.linked_code.proofs.DecodeTable.{Line, Head, Addressing, LineLaws, has_modrm, ends_later, register_or_not}
use Rattle.linked_code.proofs.DecodeHeads.{BeginAlike}

-- where a displacement begins, if there is one
abbrev begin_by : Bool → List ℕ → ℕ → ℕ
begin_by modrm w at = cond modrm (at + 1 + sib_length (byte_in w at)) at

abbrev addressing_by : Bool → List ℕ → ℕ → Addressing
addressing_by modrm w at = cond modrm (addressing_of w at) (no_addressing at)

-- where what stands behind the opcode begins
abbrev pub rest_of : Line → Head → ℕ
rest_of line h = opcode_end_of (shape_of line).form h.end

abbrev pub displacement_begin : Line → List ℕ → Head → ℕ
displacement_begin line w h = begin_by (has_modrm (shape_of line).form) w (rest_of line h)

-- What a ModRM byte says, or what stands for it, ends with a displacement.
pub record Reaches (at begin : ℕ) (r : Addressing) : Type 0 where
  pub width : ℕ
  pub displacement : r.displacement ≡ field_of begin width
  pub end : r.end ≡ begin + width
  pub starts : at ≤ begin
  pub digit : r.digit < 8

reaches_by : (modrm : Bool) (w : List ℕ) (at : ℕ) → Reaches at (begin_by modrm w at) (addressing_by modrm w at)
unfolding addressing_with no_addressing
reaches_by true w at = record {
  width = displacement_width (byte_in w at) (byte_in w (at + 1));
  displacement = refl;
  end = refl;
  starts = after (sib_length (byte_in w at));
  digit = few (byte_in w at);
}
  where
    after : (k : ℕ) → at ≤ at + 1 + k
    after k = omega arith

    few : (m : ℕ) → middle m < 8
    few m = omega arith
reaches_by false w at =
    record { width = 0; displacement = refl; end = omega arith; starts = omega arith; digit = omega arith }

pub reaches : (line : Line) → LineLaws line → (w : List ℕ) (h : Head)
    → Reaches (rest_of line h) (displacement_begin line w h) (line_addressing (shape_of line) w h)
reaches line t w h =
    subst (Reaches (rest_of line h) (displacement_begin line w h)) (sym (t.addressing w (rest_of line h)))
    (reaches_by (has_modrm (shape_of line).form) w (rest_of line h))

-- Two addressings are the same but for the displacement's number.
pub record SameAddressing (r s : Addressing) : Type 0 where
  pub is_register : s.is_register ≡ r.is_register
  pub digit : s.digit ≡ r.digit
  pub displacement : s.displacement ≡ r.displacement
  pub end : s.end ≡ r.end

-- without a SIB byte the byte after the ModRM byte doesn't matter
width_same : (t : Bool) (m a b : ℕ) → has_sib m ≡ t → (t ≡ true → a ≡ b)
    → displacement_width m a ≡ displacement_width m b
width_same true m a b is same = ap (displacement_width m) (same refl)
width_same false m a b is same =
    ap (λ n. cond (mode m == 1) 1 (cond (mode m == 2 || (mode m == 0 && n == 5)) 4 0)) (base a ∙ sym (base b))
  where
    base : (s : ℕ) → base_number m s ≡ lowest m
    base s = ap (λ b. cond b (lowest s) (lowest m)) is

same_by : (modrm : Bool) (v w : List ℕ) (at : ℕ) → BeginAlike v w (begin_by modrm v at)
    → SameAddressing (addressing_by modrm v at) (addressing_by modrm w at)
unfolding addressing_with
same_by true v w at a =
    let m : ℕ = byte_in v at in
    let first : byte_in w at ≡ m = a.same at (before (sib_length m)) in
    let widths : displacement_width m (byte_in w (at + 1)) ≡ displacement_width m (byte_in v (at + 1)) =
    width_same (has_sib m) m (byte_in w (at + 1)) (byte_in v (at + 1)) refl
    (λ is. a.same (at + 1) (second (has_sib m) is)) in
    record {
      is_register = ap (λ k. mode k == 3) first;
      digit = ap middle first;
      displacement = ap (λ k. field_of (at + 1 + sib_length k) (displacement_width k (byte_in w (at + 1)))) first
          ∙ ap (field_of (at + 1 + sib_length m)) widths;
      end = ap (λ k. at + 1 + sib_length k + displacement_width k (byte_in w (at + 1))) first
          ∙ ap (λ k. at + 1 + sib_length m + k) widths;
    }
  where
    before : (k : ℕ) → at < at + 1 + k
    before k = omega arith

    second : (t : Bool) → t ≡ true → at + 1 < at + 1 + cond t 1 0
    second true is = omega arith
    second false is = absurd (cc)
same_by false v w at a = record { is_register = refl; digit = refl; displacement = refl; end = refl }

pub same_addressing : (line : Line) → LineLaws line → (v w : List ℕ) (h : Head)
    → BeginAlike v w (displacement_begin line v h)
    → SameAddressing (line_addressing (shape_of line) v h) (line_addressing (shape_of line) w h)
same_addressing line t v w h a =
    subst (λ (r : Addressing). SameAddressing r (line_addressing (shape_of line) w h))
    (sym (t.addressing v (rest_of line h)))
    (subst (SameAddressing (addressing_by (has_modrm (shape_of line).form) v (rest_of line h)))
    (sym (t.addressing w (rest_of line h)))
    (same_by (has_modrm (shape_of line).form) v w (rest_of line h) a))

-- the opcode ends no earlier than its last byte of the head
pub rest_follows : (line : Line) → LineLaws line → (h : Head) → h.end ≤ rest_of line h
rest_follows line t h = subst (λ k. h.end ≤ k) (sym (t.ends h.end)) (by (ends_later (shape_of line).form) h.end)
  where
    by : (b : Bool) (end : ℕ) → end ≤ cond b (end + 1) end
    by true end = omega arith
    by false end = omega arith

pub accepts_same : (line : Line) → LineLaws line → (v w : List ℕ) (h : Head) (r s : Addressing)
    → BeginAlike v w (rest_of line h) → SameAddressing r s
    → form_accepts (shape_of line).form w h s ≡ form_accepts (shape_of line).form v h r
accepts_same line t v w h r s a alike =
    t.accepts w h s
    ∙ by (ends_later (shape_of line).form) h.prefixes.repeat
    (form_accepts (shape_of line).form [] h (register_or_not s.is_register))
    (λ is. a.same h.end (passes (ends_later (shape_of line).form) is h.end (rest_of line h) (t.ends h.end)))
    ∙ ap (λ b. cond (ends_later (shape_of line).form) (h.prefixes.repeat && byte_in v h.end == 0xFB)
    (form_accepts (shape_of line).form [] h (register_or_not b))) alike.is_register
    ∙ sym (t.accepts v h r)
  where
    by : (later repeat accepted : Bool) → (later ≡ true → byte_in w h.end ≡ byte_in v h.end)
        → cond later (repeat && byte_in w h.end == 0xFB) accepted
        ≡ cond later (repeat && byte_in v h.end == 0xFB) accepted
    by true repeat accepted same = ap (λ k. repeat && k == 0xFB) (same refl)
    by false repeat accepted same = refl

    passes : (later : Bool) → later ≡ true → (end rest : ℕ) → rest ≡ cond later (end + 1) end → end < rest
    passes true is end rest same = omega arith
    passes false is end rest same = absurd (cc)
