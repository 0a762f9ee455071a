-- What is decoded rests on the instruction's own bytes: windows that agree on them give the same.
use Rattle.std.proofs.Common.{IfSome, ◌≡◌, ℕ, suc, take, ◌+◌, ◌<◌, ◌≤◌, List, length, get_or, cond, Option, Some}
use Rattle.std.proofs.Common.{None, nat_le, nat_lt, refl, ap, sym, subst, ◌∙◌, ◌&&◌, ◌||◌, arith, true, false, Bool}
use Rattle.std.proofs.Common.{not, length-take}
use Rattle.std.specs.Prelude.{◌==◌, unwrap_or}
use Rattle.std.specs.List.{position, position_or_len}
use Rattle.std.proofs.lemmas.Bool.{le-leb, eqb-true}
use Rattle.std.proofs.lemmas.List.{get_or-take, take-take}
use Rattle.std.proofs.lemmas.List.Quantifiers.{position-Some}
use Rattle.std.proofs.lemmas.List.Sums.{position_or_len_is}
use Rattle.ia32_decode.specs.declared.opcode_table.Line.{Line}
use Rattle.ia32_decode.specs.declared.opcode_table.Form.{Form}
use Rattle.ia32_decode.specs.declared.opcode_table.Form.TheVariants.{Unlisted, Plain, Register, Branch, ModRm, Memory, EndBranch}
use Rattle.ia32_decode.specs.declared.opcode_table.Follows.{Follows}
use Rattle.ia32_decode.specs.declared.opcode_table.Follows.TheVariants.{SignedByte}
use Rattle.ia32_decode.specs.declared.types.Decoded.{Decoded}
use Rattle.ia32_decode.specs.declared.types.Register.TheVariants.{Eax}
use Rattle.ia32_decode.specs.declared.types.Scale.TheVariants.{Zero}
use Rattle.ia32_decode.specs.declared.types.Index.{Index}
use Rattle.ia32_alu.specs.declared.types.Width.{Width}
use Rattle.ia32_decode.specs.declared.types.Prefixes.{Prefixes}
use Rattle.ia32_decode.specs.declared.heads.Head.{Head}
use Rattle.ia32_decode.specs.declared.addressing.Addressing.{Addressing}
use Rattle.ia32_decode.specs.declared.types.Memory.{Memory as Place}
use Rattle.ia32_decode.specs.Encoding.{byte_in, word_in, dword_in, extended, is_prefix, prefix_count, prefixes_of}
use Rattle.ia32_decode.specs.Encoding.{head_of, head_after, register_of, mode, middle, lowest, has_sib, sib_length}
use Rattle.ia32_decode.specs.Encoding.{base_number, index_of, displacement_width, displacement_of, field_of}
use Rattle.ia32_decode.specs.Encoding.{operand_of, addressing_with, addressing_of, no_addressing}
use Rattle.ia32_decode.specs.Table.{shape_of, line_of, follows_width, digit_allowed}
use Rattle.ia32_decode.specs.Instructions.{named_operand, instr_of}
use Rattle.ia32_decode.specs.Decode.{front_of, opcode_end_of, form_addressing, form_accepts, number_in, value_in}
use Rattle.ia32_decode.specs.Decode.{fields_of, assembled, completed, accepts, head_width, number_width}
use Rattle.ia32_decode.specs.Decode.{line_addressing, decoded_from, read_front, read_line, read_with}
use Rattle.ia32_decode.proofs.Readings.{twice, Chosen, chosen, short_of, within_of}

-- w has the first n bytes of v
pub record Agree (v w : List ℕ) (n : ℕ) : Type 0 where
  pub same : (i : ℕ) → i < n → byte_in w i ≡ byte_in v i
  pub fronts : take n w ≡ take n v
  pub from : n ≤ length v
  pub to : n ≤ length w

choice : {A : Type 0} (b : Bool) (x x' y y' : A) → (b ≡ true → x ≡ x') → (b ≡ false → y ≡ y')
    → cond b x y ≡ cond b x' y'
choice true x x' y y' p q = p refl
choice false x x' y y' p q = q refl

word_same : (v w : List ℕ) (n i : ℕ) → Agree v w n → i + 2 ≤ n → word_in w i ≡ word_in v i
unfolding word_in
word_same v w n i a fits =
    let low : byte_in w i ≡ byte_in v i = a.same i (omega arith) in
    let high : byte_in w (i + 1) ≡ byte_in v (i + 1) = a.same (i + 1) (omega arith) in
    cc

dword_same : (v w : List ℕ) (n i : ℕ) → Agree v w n → i + 4 ≤ n → dword_in w i ≡ dword_in v i
unfolding dword_in
dword_same v w n i a fits =
    let low : word_in w i ≡ word_in v i = word_same v w n i a (omega arith) in
    let high : word_in w (i + 2) ≡ word_in v (i + 2) = word_same v w n (i + 2) a (omega arith) in
    cc

displacement_same : (v w : List ℕ) (n at width : ℕ) → Agree v w n → at + width ≤ n
    → displacement_of w at width ≡ displacement_of v at width
displacement_same v w n at width a fits =
    choice (width == 1) (extended (byte_in w at)) (extended (byte_in v at)) (cond (width == 4) (dword_in w at) 0)
    (cond (width == 4) (dword_in v at) 0)
    (λ is. let e : width ≡ 1 = eqb-true width 1 is in ap extended (a.same at (omega arith)))
    (λ _. choice (width == 4) (dword_in w at) (dword_in v at) 0 0
    (λ is. let e : width ≡ 4 = eqb-true width 4 is in dword_same v w n at a (omega arith)) (λ _. refl))

number_same : (v w : List ℕ) (n at width : ℕ) → Agree v w n → at + width ≤ n
    → number_in w at width ≡ number_in v at width
number_same v w n at width a fits =
    choice (width == 1) (byte_in w at) (byte_in v at)
    (cond (width == 2) (word_in w at) (cond (width == 4) (dword_in w at) 0))
    (cond (width == 2) (word_in v at) (cond (width == 4) (dword_in v at) 0))
    (λ is. let e : width ≡ 1 = eqb-true width 1 is in a.same at (omega arith))
    (λ _. choice (width == 2) (word_in w at) (word_in v at) (cond (width == 4) (dword_in w at) 0)
    (cond (width == 4) (dword_in v at) 0)
    (λ is. let e : width ≡ 2 = eqb-true width 2 is in word_same v w n at a (omega arith))
    (λ _. choice (width == 4) (dword_in w at) (dword_in v at) 0 0
    (λ is. let e : width ≡ 4 = eqb-true width 4 is in dword_same v w n at a (omega arith)) (λ _. refl)))

-- the ModRM byte's reading by the base's number, the index and the displacement
abbrev reading : ℕ → ℕ → Index → ℕ → ℕ → ℕ → Addressing
reading m number index at width value =
    let memory : Place =
    record {
      base = cond (mode m == 0 && number == 5) None (Some (register_of number));
      index = index;
      displacement = value;
    } in
    record {
      is_register = mode m == 3;
      digit = middle m;
      operand = operand_of m memory;
      displacement = field_of at width;
      end = at + width;
    }

abbrev width_by : ℕ → ℕ → ℕ
width_by m number = cond (mode m == 1) 1 (cond (mode m == 2 || (mode m == 0 && number == 5)) 4 0)

addressing_is : (w : List ℕ) (m s at : ℕ)
    → addressing_with w m s at
    ≡ reading m (base_number m s) (index_of m s) at (width_by m (base_number m s))
    (displacement_of w at (width_by m (base_number m s)))
unfolding addressing_with
addressing_is w m s at = refl

data_same : (v w : List ℕ) (n m s at : ℕ) → Agree v w n → at + displacement_width m s ≤ n
    → addressing_with w m s at ≡ addressing_with v m s at
data_same v w n m s at a fits =
    addressing_is w m s at
    ∙ ap (λ value. reading m (base_number m s) (index_of m s) at (width_by m (base_number m s)) value)
    (displacement_same v w n at (displacement_width m s) a fits)
    ∙ sym (addressing_is v m s at)

-- without a SIB byte the byte after the ModRM byte doesn't matter
no_sib : (w : List ℕ) (m s s' at : ℕ) → has_sib m ≡ false → addressing_with w m s at ≡ addressing_with w m s' at
no_sib w m s s' at none =
    let numbers : base_number m s ≡ base_number m s' =
    ap (λ b. cond b (lowest s) (lowest m)) none ∙ sym (ap (λ b. cond b (lowest s') (lowest m)) none) in
    let indexes : index_of m s ≡ index_of m s' = no_index m s none ∙ sym (no_index m s' none) in
    addressing_is w m s at
    ∙ ap (λ k. reading m k (index_of m s) at (width_by m k) (displacement_of w at (width_by m k))) numbers
    ∙ ap (λ i.
    reading m (base_number m s') i at (width_by m (base_number m s'))
    (displacement_of w at (width_by m (base_number m s')))) indexes
    ∙ sym (addressing_is w m s' at)
  where
    no_index : (m s : ℕ) → has_sib m ≡ false → index_of m s ≡ record { register = Eax; scale = Zero }
    no_index m s none = rw none

sib_same : (b : Bool) (v w : List ℕ) (n m at x : ℕ) → Agree v w n → has_sib m ≡ b → at + 1 + cond b 1 0 ≤ n
    → addressing_with w m (byte_in w (at + 1)) x ≡ addressing_with w m (byte_in v (at + 1)) x
sib_same true v w n m at x a is fits = ap (λ s. addressing_with w m s x) (a.same (at + 1) (omega arith))
sib_same false v w n m at x a is fits = no_sib w m (byte_in w (at + 1)) (byte_in v (at + 1)) x is

end_is : (w : List ℕ) (m s at : ℕ) → (addressing_with w m s at).end ≡ at + displacement_width m s
unfolding addressing_with
end_is w m s at = refl

addressing_same : (v w : List ℕ) (n at : ℕ) → Agree v w n → (addressing_of v at).end ≤ n
    → addressing_of w at ≡ addressing_of v at
addressing_same v w n at a fits =
    let m : ℕ = byte_in v at in
    let s : ℕ = byte_in v (at + 1) in
    let x : ℕ = at + 1 + sib_length m in
    let whole : x + displacement_width m s ≤ n = subst (λ k. k ≤ n) (end_is v m s x) fits in
    ap (λ k. addressing_with w k (byte_in w (at + 1)) (at + 1 + sib_length k))
    (a.same at (first at (sib_length m) (displacement_width m s) n whole))
    ∙ sib_same (has_sib m) v w n m at x a refl (second at (sib_length m) (displacement_width m s) n whole)
    ∙ data_same v w n m s x a whole
  where
    first : (at k d n : ℕ) → at + 1 + k + d ≤ n → at < n
    first at k d n h = omega arith

    second : (at k d n : ℕ) → at + 1 + k + d ≤ n → at + 1 + k ≤ n
    second at k d n h = omega arith

absent_end : (at : ℕ) → (no_addressing at).end ≡ at
unfolding no_addressing
absent_end at = refl

form_same : (form : Form) (v w : List ℕ) (n at : ℕ) → Agree v w n → (form_addressing form v at).end ≤ n
    → form_addressing form w at ≡ form_addressing form v at
form_same ModRm v w n at a fits = addressing_same v w n at a fits
form_same Memory v w n at a fits = addressing_same v w n at a fits
form_same Unlisted v w n at a fits = refl
form_same Plain v w n at a fits = refl
form_same Register v w n at a fits = refl
form_same Branch v w n at a fits = refl
form_same EndBranch v w n at a fits = refl

-- a reading ends at or after its start
modrm_ends : (w : List ℕ) (at : ℕ) → at ≤ (addressing_of w at).end
modrm_ends w at =
    subst (λ k. at ≤ k) (sym (end_is w (byte_in w at) (byte_in w (at + 1)) (at + 1 + sib_length (byte_in w at))))
    (after at (sib_length (byte_in w at)) (displacement_width (byte_in w at) (byte_in w (at + 1))))
  where
    after : (at k d : ℕ) → at ≤ at + 1 + k + d
    after at k d = omega arith

absent_ends : (at : ℕ) → at ≤ (no_addressing at).end
absent_ends at = omega (arith, absent_end at)

form_ends : (form : Form) (w : List ℕ) (at : ℕ) → at ≤ (form_addressing form w at).end
form_ends ModRm w at = modrm_ends w at
form_ends Memory w at = modrm_ends w at
form_ends Unlisted w at = absent_ends at
form_ends Plain w at = absent_ends at
form_ends Register w at = absent_ends at
form_ends Branch w at = absent_ends at
form_ends EndBranch w at = absent_ends at

accept_same : (form : Form) (v w : List ℕ) (n : ℕ) (h : Head) (r : Addressing) → Agree v w n
    → opcode_end_of form h.end ≤ n → form_accepts form w h r ≡ form_accepts form v h r
accept_same EndBranch v w n h r a fits = ap (λ k. h.prefixes.repeat && k == 0xFB) (a.same h.end (omega arith))
accept_same ModRm v w n h r a fits = refl
accept_same Memory v w n h r a fits = refl
accept_same Unlisted v w n h r a fits = refl
accept_same Plain v w n h r a fits = refl
accept_same Register v w n h r a fits = refl
accept_same Branch v w n h r a fits = refl

value_same : (follows : Follows) (v w : List ℕ) (n at : ℕ) (width : Width) (digit : ℕ) → Agree v w n
    → at + follows_width follows width digit ≤ n
    → value_in follows w at (follows_width follows width digit)
    ≡ value_in follows v at (follows_width follows width digit)
value_same SignedByte v w n at width digit a fits = ap extended (a.same at (omega arith))
value_same follows v w n at width digit a fits = number_same v w n at (follows_width follows width digit) a fits

-- an instruction by the number at its end
abbrev valued : Line → Head → Addressing → Width → ℕ → ℕ → Decoded
valued line h r width n value = record {
  length = r.end + n;
  instr = instr_of line
      (record {
        opcode = h.opcode;
        width = width;
        digit = r.digit;
        operand = named_operand (shape_of line).form h.opcode r.operand;
        value = value;
      });
  fields = fields_of (shape_of line).follows (opcode_end_of (shape_of line).form h.end) r n;
  prefixes = h.prefixes;
}

assembled_is : (line : Line) (w : List ℕ) (h : Head) (r : Addressing) (width : Width) (n : ℕ)
    → assembled line w h r width n ≡ valued line h r width n (value_in (shape_of line).follows w r.end n)
unfolding assembled
assembled_is line w h r width n = refl

completed_same : (line : Line) (v w : List ℕ) (n : ℕ) (h : Head) (r : Addressing) → Agree v w n
    → r.end + number_width (shape_of line) h r ≤ n → completed line w h r ≡ completed line v h r
completed_same line v w n h r a fits =
    assembled_is line w h r (head_width (shape_of line) h) (number_width (shape_of line) h r)
    ∙ ap (λ value. valued line h r (head_width (shape_of line) h) (number_width (shape_of line) h r) value)
    (value_same (shape_of line).follows v w n r.end (head_width (shape_of line) h) r.digit a fits)
    ∙ sym (assembled_is line v h r (head_width (shape_of line) h) (number_width (shape_of line) h r))

length_is : (line : Line) (w : List ℕ) (h : Head) (r : Addressing)
    → (completed line w h r).length ≡ r.end + number_width (shape_of line) h r
unfolding assembled
length_is line w h r = refl

read_with_is : (line : Line) (w : List ℕ) (h : Head) (r : Addressing)
    → read_with line w h r
    ≡ twice (accepts line w h r) (nat_le (completed line w h r).length (length w)) (completed line w h r)
unfolding read_with
read_with_is line w h r = refl

pub read_line_is : (line : Line) (w : List ℕ) (h : Head)
    → read_line line w h ≡ read_with line w h (line_addressing (shape_of line) w h)
unfolding read_line
read_line_is line w h = refl

-- where an instruction is read, its ModRM byte's reading and its number fit into its length
pub record Fitting (line : Line) (v : List ℕ) (h : Head) (r : Addressing) (d : Decoded) : Type 0 where
  pub accepted : accepts line v h r ≡ true
  pub same : completed line v h r ≡ d
  pub length : r.end + number_width (shape_of line) h r ≡ d.length

pub fitting : (line : Line) (v : List ℕ) (h : Head) (r : Addressing) (d : Decoded) → read_with line v h r ≡ Some d
    → Fitting line v h r d
fitting line v h r d is =
    let c : Chosen (accepts line v h r) (nat_le (completed line v h r).length (length v)) (completed line v h r) d =
    chosen _ _ _ _ (sym (read_with_is line v h r) ∙ is) in
    record {
      accepted = c.first;
      same = c.same;
      length = sym (length_is line v h r)
          ∙ ap (λ (x : Decoded). x.length) c.same;
    }

with_same : (line : Line) (v w : List ℕ) (h : Head) (r : Addressing) (d : Decoded) → Agree v w d.length
    → opcode_end_of (shape_of line).form h.end ≤ r.end → read_with line v h r ≡ Some d → read_with line w h r ≡ Some d
with_same line v w h r d a starts is =
    let f : Fitting line v h r d = fitting line v h r d is in
    let total : r.end + number_width (shape_of line) h r ≡ d.length = f.length in
    let same : completed line w h r ≡ d = completed_same line v w d.length h r a (bound _ _ total) ∙ f.same in
    let takes : accepts line w h r ≡ true =
    ap (λ b. b && digit_allowed (shape_of line).digits r.digit)
    (accept_same (shape_of line).form v w d.length h r a (within _ _ _ _ starts total)) ∙ f.accepted in
    read_with_is line w h r
    ∙ ap (λ x. twice (accepts line w h r) (nat_le x.length (length w)) x) same
    ∙ ap (λ b. twice b (nat_le d.length (length w)) d) takes
    ∙ ap (λ b. twice true b d) (le-leb d.length (length w) a.to)
  where
    bound : (x y : ℕ) → x ≡ y → x ≤ y
    bound x y e = omega arith

    within : (s x k n : ℕ) → s ≤ x → x + k ≡ n → s ≤ n
    within s x k n h e = omega arith

line_same : (line : Line) (v w : List ℕ) (h : Head) (d : Decoded) → Agree v w d.length → read_line line v h ≡ Some d
    → read_line line w h ≡ Some d
line_same line v w h d a is =
    let at : ℕ = opcode_end_of (shape_of line).form h.end in
    let r : Addressing = form_addressing (shape_of line).form v at in
    let read : read_with line v h r ≡ Some d = sym (read_line_is line v h) ∙ is in
    let f : Fitting line v h r d = fitting line v h r d read in
    read_line_is line w h
    ∙ ap (λ x. read_with line w h x) (form_same (shape_of line).form v w d.length at a (bound _ _ _ f.length))
    ∙ with_same line v w h r d a (form_ends (shape_of line).form v at) read
  where
    bound : (x k n : ℕ) → x + k ≡ n → x ≤ n
    bound x k n e = omega arith

end_within : (line : Line) (v : List ℕ) (h : Head) (d : Decoded) → read_line line v h ≡ Some d → h.end ≤ d.length
end_within line v h d is =
    let at : ℕ = opcode_end_of (shape_of line).form h.end in
    let r : Addressing = form_addressing (shape_of line).form v at in
    let f : Fitting line v h r d = fitting line v h r d (sym (read_line_is line v h) ∙ is) in
    chain _ _ _ _ _ (opcode_ends (shape_of line).form h.end) (form_ends (shape_of line).form v at) f.length
  where
    opcode_ends : (form : Form) (end : ℕ) → end ≤ opcode_end_of form end
    opcode_ends EndBranch end = omega arith
    opcode_ends ModRm end = omega arith
    opcode_ends Memory end = omega arith
    opcode_ends Unlisted end = omega arith
    opcode_ends Plain end = omega arith
    opcode_ends Register end = omega arith
    opcode_ends Branch end = omega arith

    chain : (e s x k n : ℕ) → e ≤ s → s ≤ x → x + k ≡ n → e ≤ n
    chain e s x k n p q r = omega arith

is_other : ℕ → Bool
is_other byte = not (is_prefix byte)

-- as many prefixes stand at the start, where there are fewer than n
count_same : (v w : List ℕ) (n : ℕ) → Agree v w n → prefix_count v < n → prefix_count w ≡ prefix_count v
unfolding prefix_count is_other
count_same v w n a few = by_place v w n a (position is_other v) refl few
  where
    by_place : (v w : List ℕ) (n : ℕ) → Agree v w n → (o : Option ℕ) → position is_other v ≡ o
        → unwrap_or o (length v) < n → unwrap_or (position is_other w) (length w) ≡ unwrap_or o (length v)
    by_place v w n a None is few = let from : n ≤ length v = a.from in absurd (omega arith)
    by_place v w n a (Some p) is few =
        let to : n ≤ length w = a.to in
        let facts : (p < length v) × (is_other (get_or v p 0) ≡ true)
        × ((k : ℕ) → k < p → is_other (get_or v k 0) ≡ false) = position-Some is_other v p 0 is in
        let place : position_or_len is_other w ≡ p =
        position_or_len_is is_other w p 0 (omega arith)
        (λ k below. ap is_other (a.same k (omega arith)) ∙ facts.2 k below)
        (λ _. ap is_other (a.same p few) ∙ facts.1) in
        ap (λ k. unwrap_or (cond (nat_lt k (length w)) (Some k) None) (length w)) place
        ∙ ap (λ b. unwrap_or (cond b (Some p) None) (length w)) (le-leb (suc p) (length w) (omega arith))

-- the opcode after p bytes of prefixes, by its first byte and the byte after
abbrev pub headed : Prefixes → ℕ → ℕ → ℕ → Head
headed prefixes p b c =
    cond (b == 0x0F) (record { prefixes = prefixes; escaped = true; opcode = c; end = p + 2 })
    (record { prefixes = prefixes; escaped = false; opcode = b; end = p + 1 })

pub head_is : (w : List ℕ) (prefixes : Prefixes) (p : ℕ)
    → head_after w prefixes p ≡ headed prefixes p (byte_in w p) (byte_in w (p + 1))
unfolding head_after
head_is w prefixes p = refl

headed_ends : (t : Bool) (prefixes : Prefixes) (p b c n : ℕ) → (b == 0x0F) ≡ t → (headed prefixes p b c).end ≤ n
    → p + cond t 2 1 ≤ n
headed_ends t prefixes p b c n is fits =
    subst (λ k. k ≤ n)
    (ap (λ s.
    (cond {A = Head} s (record { prefixes = prefixes; escaped = true; opcode = c; end = p + 2 })
    (record { prefixes = prefixes; escaped = false; opcode = b; end = p + 1 })).end) is ∙ chosen_end t) fits
  where
    chosen_end : (t : Bool)
        → (cond {A = Head} t (record { prefixes = prefixes; escaped = true; opcode = c; end = p + 2 })
        (record { prefixes = prefixes; escaped = false; opcode = b; end = p + 1 })).end ≡ p + cond t 2 1
    chosen_end true = refl
    chosen_end false = refl

opcode_within : (t : Bool) (p n : ℕ) → p + cond t 2 1 ≤ n → p < n
opcode_within true p n h = omega arith
opcode_within false p n h = omega arith

opcode_same : (v w : List ℕ) (n : ℕ) (prefixes : Prefixes) (p : ℕ) → Agree v w n
    → (headed prefixes p (byte_in v p) (byte_in v (p + 1))).end ≤ n
    → headed prefixes p (byte_in w p) (byte_in w (p + 1)) ≡ headed prefixes p (byte_in v p) (byte_in v (p + 1))
opcode_same v w n prefixes p a fits =
    let b : ℕ = byte_in v p in
    let few : p < n =
    opcode_within (b == 0x0F) p n (headed_ends (b == 0x0F) prefixes p b (byte_in v (p + 1)) n refl fits) in
    ap (λ k. headed prefixes p k (byte_in w (p + 1))) (a.same p few)
    ∙ choice {A = Head} (b == 0x0F)
    (record { prefixes = prefixes; escaped = true; opcode = byte_in w (p + 1); end = p + 2 })
    (record { prefixes = prefixes; escaped = true; opcode = byte_in v (p + 1); end = p + 2 })
    (record { prefixes = prefixes; escaped = false; opcode = b; end = p + 1 })
    (record { prefixes = prefixes; escaped = false; opcode = b; end = p + 1 })
    (λ is. ap (λ (c : ℕ). let h : Head = record { prefixes = prefixes; escaped = true; opcode = c; end = p + 2 } in h)
    (a.same (p + 1) (next p n (headed_ends true prefixes p b (byte_in v (p + 1)) n is fits))))
    (λ _. refl)
  where
    next : (p n : ℕ) → p + 2 ≤ n → p + 1 < n
    next p n h = omega arith

head_same : (v w : List ℕ) (n : ℕ) → Agree v w n → (head_of v).end ≤ n → head_of w ≡ head_of v
head_same v w n a fits =
    let p : ℕ = prefix_count v in
    let prefixes : Prefixes = prefixes_of (take p v) p in
    let opcode : (headed prefixes p (byte_in v p) (byte_in v (p + 1))).end ≤ n =
    subst (λ (h : Head). h.end ≤ n) (head_is v prefixes p) fits in
    let few : p < n =
    opcode_within (byte_in v p == 0x0F) p n
    (headed_ends (byte_in v p == 0x0F) prefixes p (byte_in v p) (byte_in v (p + 1)) n refl opcode) in
    let front : take p w ≡ take p v =
    sym (take-take p n w (omega arith)) ∙ ap (take p) a.fronts ∙ take-take p n v (omega arith) in
    ap (λ k. head_after w (prefixes_of (take k w) k) k) (count_same v w n a few)
    ∙ ap (λ bytes. head_after w (prefixes_of bytes p) p) front
    ∙ head_is w prefixes p
    ∙ opcode_same v w n prefixes p a opcode
    ∙ sym (head_is v prefixes p)

pub read_front_by_line : (w : List ℕ)
    → read_front w ≡ read_line (line_of (head_of w).escaped (head_of w).opcode) w (head_of w)
unfolding read_front
read_front_by_line w = refl

front_same : (v w : List ℕ) (d : Decoded) → Agree v w d.length → read_front v ≡ Some d → read_front w ≡ Some d
front_same v w d a is =
    let line : Line = line_of (head_of v).escaped (head_of v).opcode in
    let read : read_line line v (head_of v) ≡ Some d = sym (read_front_by_line v) ∙ is in
    read_front_by_line w
    ∙ ap (λ (h : Head). read_line (line_of h.escaped h.opcode) w h)
    (head_same v w d.length a (end_within line v (head_of v) d read))
    ∙ line_same line v w (head_of v) d a read

agree_of : (window other : List ℕ) (n : ℕ) → n ≤ 15 → n ≤ length window → take n other ≡ take n window
    → Agree (front_of window) (front_of other) n
agree_of window other n short within same = record {
  same = λ i below. get_or-take 15 other i 0 (omega arith) ∙ sym (get_or-take n other i 0 below)
      ∙ ap (λ (bytes : List ℕ). get_or bytes i 0) same ∙ get_or-take n window i 0 below
      ∙ sym (get_or-take 15 window i 0 (omega arith));
  fronts = take-take n 15 other short ∙ same ∙ sym (take-take n 15 window short);
  from = omega (arith, length-take 15 window);
  to = let lengths : length (take n other) ≡ length (take n window) = ap length same in
      omega (arith, length-take 15 other, length-take n other, length-take n window, lengths);
}

-- windows that begin with the same instruction are decoded the same
pub rests : (window other : List ℕ) (d : Decoded) → decoded_from window ≡ Some d
    → take d.length other ≡ take d.length window → decoded_from other ≡ Some d
rests window other d is same =
    front_same (front_of window) (front_of other) d
    (agree_of window other d.length (short_of window (Some d) (sym is)) (within_of window (Some d) (sym is)) same)
    is

-- an instruction has at least one byte
head_starts : (w : List ℕ) (prefixes : Prefixes) (p : ℕ) → 0 < (head_after w prefixes p).end
head_starts w prefixes p =
    subst (λ (h : Head). 0 < h.end) (sym (head_is w prefixes p))
    (later (byte_in w p == 0x0F) (byte_in w p) (byte_in w (p + 1)))
  where
    later : (t : Bool) (b c : ℕ)
        → 0 <
        (cond {A = Head} t (record { prefixes = prefixes; escaped = true; opcode = c; end = p + 2 })
        (record { prefixes = prefixes; escaped = false; opcode = b; end = p + 1 })).end
    later true b c = omega arith
    later false b c = omega arith

pub some_bytes_of : (window : List ℕ) (o : Option Decoded) → o ≡ decoded_from window → IfSome o (λ d. 0 < d.length)
some_bytes_of window None is = tt
some_bytes_of window (Some d) is =
    let v : List ℕ = front_of window in
    let line : Line = line_of (head_of v).escaped (head_of v).opcode in
    let within : (head_of v).end ≤ d.length = end_within line v (head_of v) d (sym (read_front_by_line v) ∙ sym is) in
    after _ _ (head_starts v _ _) within
  where
    after : (e n : ℕ) → 0 < e → e ≤ n → 0 < n
    after e n p q = omega arith
