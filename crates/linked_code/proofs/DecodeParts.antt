-- The bytes of an instruction before its first field, and what its fields hold.
use Rattle.std.proofs.Common.{◌≡◌, ℕ, ◌+◌, ◌-◌, ◌<◌, ◌≤◌, List, [], ◌∷◌, length, take, drop, set, cond}
use Rattle.std.proofs.Common.{Option, Some, None, refl, ap, sym, subst, ◌∙◌, arith, true, false, Bool, length-take}
use Rattle.std.specs.Prelude.{◌==◌, ◌||◌, ◌&&◌, nat_le, nat_lt}
use Rattle.std.proofs.lemmas.Bool.{eqb-true, lt-leb}
use Rattle.std.proofs.lemmas.List.{get_or-take, drop-take}
use Rattle.ia32_decode.specs.declared.types.Branch.{Branch}
use Rattle.ia32_decode.specs.declared.types.Decoded.{Decoded}
use Rattle.ia32_decode.specs.declared.types.Field.{Field}
use Rattle.ia32_decode.specs.declared.types.Fields.{Fields}
use Rattle.ia32_decode.specs.declared.types.Prefixes.{Prefixes}
use Rattle.ia32_alu.specs.declared.types.Width.{Width}
use Rattle.ia32_decode.specs.Encoding.{byte_in, word_in, dword_in, extended, field_of}
use Rattle.ia32_decode.specs.Table.{shape_of, follows_width}
use Rattle.ia32_decode.specs.Decode.{front_of, number_in, value_in, fields_of}
use Rattle.ia32_decode.specs.Wide.{begin_of, is_short, wide_opcode, with_wide_mode, wide_head, wide_addressing}
use Rattle.linked_code.specs.Filled.{is_in_field, is_in_fields, DiffersInFields, SameBranch, GoesByField}
use Rattle.linked_code.proofs.DecodeTable.{Line, Addressing, LineLaws, is_address, is_signed, fields_by, with_displacement}
use Rattle.linked_code.proofs.DecodeHeads.{BeginAlike, fronts}
use Rattle.linked_code.proofs.DecodeAddressing.{Reaches}

-- a byte before a field isn't in it
before_field : (at width k : ℕ) → k < at → is_in_field (field_of at width) k ≡ false
before_field at width k below = by (width == 0)
  where
    stops : (a b c : Bool) → b ≡ false → (a && b && c) ≡ false
    stops true true c is = absurd (cc)
    stops true false c is = refl
    stops false b c is = refl

    by : (none : Bool) → is_in_field (cond none None (Some (record { offset = at; width = width }))) k ≡ false
    by true = refl
    by false = stops (width == 4) (nat_le at k) (nat_lt k (at + 4)) (lt-leb at k below)

-- where a field begins that has no byte, or some
begin_is : (at width end : ℕ) → (width ≡ 0 → end ≡ at) → begin_of (field_of at width) end ≡ at
begin_is at width end is = by (width == 0) (λ none. is (eqb-true width 0 none))
  where
    by : (b : Bool) → (b ≡ true → end ≡ at)
        → begin_of (cond b None (Some (record { offset = at; width = width }))) end ≡ at
    by true is = is refl
    by false is = refl

-- Where the first field begins: the bytes before it stand in none.
pub record Starts (begin length : ℕ) (f : Fields) : Type 0 where
  pub first : ℕ
  pub is : begin_of f.disp (begin_of f.imm length) ≡ first
  pub reached : begin ≤ first
  pub within : first ≤ length
  pub outside : (k : ℕ) → k < first → is_in_fields f k ≡ false

starts_by : (address : Bool) (at begin n end : ℕ) (r : Addressing) → Reaches at begin r
    → Starts begin (r.end + n)
    (fields_by address end r n)
starts_by true at begin n end r s =
    let ends : r.end ≡ begin + s.width = s.end in
    record {
      first = r.end;
      is = begin_is r.end n (r.end + n) (λ none. omega arith);
      reached = omega arith;
      within = omega arith;
      outside = λ k below. ap (λ b. b || false) (before_field r.end n k below);
    }
starts_by false at begin n end r s =
    let ends : r.end ≡ begin + s.width = s.end in
    record {
      first = begin;
      is = ap (begin_of r.displacement) (begin_is r.end n (r.end + n) (λ none. omega arith))
          ∙ ap (λ disp. begin_of disp r.end) s.displacement
          ∙ begin_is begin s.width r.end (λ none. omega arith);
      reached = omega arith;
      within = omega arith;
      outside = λ k below. ap (λ b. b || is_in_field (field_of r.end n) k)
          (ap (λ disp. is_in_field disp k) s.displacement ∙ before_field begin s.width k below)
          ∙ before_field r.end n k (behind begin s.width r.end k ends below);
    }
  where
    behind : (b w e k : ℕ) → e ≡ b + w → k < b → k < e
    behind b w e k is below = omega arith

pub starts : (line : Line) → LineLaws line → (at begin n end : ℕ) (r : Addressing) → Reaches at begin r
    → Starts begin (r.end + n) (fields_of (shape_of line).follows end r n)
starts line t at begin n end r s =
    subst (Starts begin (r.end + n)) (sym (t.fields end r n))
    (starts_by (is_address (shape_of line).follows) at begin n end r s)

-- two windows begin alike up to the first field
pub begin_alike : (window other : List ℕ) (d : Decoded) (begin : ℕ) (s : Starts begin d.length d.fields)
    → DiffersInFields window other d → d.length ≤ length window → BeginAlike window other s.first
begin_alike window other d begin s x inside =
    let within : s.first ≤ d.length = s.within in
    let whole : d.length ≤ length other = x.whole in
    record {
      same = λ i below. x.same i (omega arith) (s.outside i below);
      from = omega arith;
      to = omega arith;
    }

pub begin_shorter : (v w : List ℕ) (n m : ℕ) → BeginAlike v w n → m ≤ n → BeginAlike v w m
begin_shorter v w n m a few =
    let from : n ≤ length v = a.from in
    let to : n ≤ length w = a.to in
    record { same = λ i below. a.same i (omega arith); from = omega arith; to = omega arith }

pub fronts_alike : (window other : List ℕ) (n : ℕ) → BeginAlike window other n → n ≤ 15
    → BeginAlike (front_of window) (front_of other) n
fronts_alike window other n a short =
    let from : n ≤ length window = a.from in
    let to : n ≤ length other = a.to in
    record {
      same = λ i below. get_or-take 15 other i 0 (omega arith) ∙ a.same i below
          ∙ sym (get_or-take 15 window i 0 (omega arith));
      from = omega (arith, length-take 15 window);
      to = omega (arith, length-take 15 other);
    }

-- the prefixes and the opcode of the wide form
abbrev head_by : List ℕ → ℕ → ℕ → List ℕ
head_by w end count = set (take end w) count (wide_opcode (byte_in w count))

pub heads_alike : (v w : List ℕ) (d e : Decoded) (n : ℕ) → BeginAlike v w n → e.fields ≡ d.fields
    → e.prefixes ≡ d.prefixes → d.prefixes.count < d.fields.opcode_end → d.fields.opcode_end ≤ n
    → wide_head w e ≡ wide_head v d
heads_alike v w d e n a fields prefixes passes fits =
    ap (λ (f : Fields). head_by w f.opcode_end e.prefixes.count) fields
    ∙ ap (λ k. head_by w d.fields.opcode_end k) (ap (λ (p : Prefixes). p.count) prefixes)
    ∙ ap (λ bytes. set bytes d.prefixes.count (wide_opcode (byte_in w d.prefixes.count)))
    (fronts v w n d.fields.opcode_end a fits)
    ∙ ap (λ b. set (take d.fields.opcode_end v) d.prefixes.count (wide_opcode b))
    (a.same d.prefixes.count (omega arith))

-- its ModRM and SIB bytes
abbrev addressing_by : List ℕ → Fields → ℕ → List ℕ
addressing_by w f begin =
    cond (is_short f.disp) (set (take (begin - f.opcode_end) (drop f.opcode_end w)) 0
    (with_wide_mode (byte_in w f.opcode_end))) (take (begin - f.opcode_end) (drop f.opcode_end w))

bytes_alike : (v w : List ℕ) (f : Fields) (n : ℕ) → BeginAlike v w n → f.opcode_end ≤ n
    → addressing_by w f n ≡ addressing_by v f n
bytes_alike v w f n a fits =
    let e : ℕ = f.opcode_end in
    let same : take (n - e) (drop e w) ≡ take (n - e) (drop e v) =
    sym (drop-take e (n - e) w) ∙ ap (drop e) (fronts v w n (e + (n - e)) a (omega arith)) ∙ drop-take e (n - e) v in
    ap (λ bytes. cond (is_short f.disp) (set bytes 0 (with_wide_mode (byte_in w e))) bytes) same
    ∙ by (is_short f.disp) (take (n - e) (drop e v)) (with_wide_mode (byte_in w e)) (with_wide_mode (byte_in v e))
    (λ some. ap with_wide_mode (a.same e (omega (arith, length-take (n - e) (drop e v), some))))
  where
    by : (short : Bool) (bytes : List ℕ) (x y : ℕ) → (0 < length bytes → x ≡ y)
        → cond short (set bytes 0 x) bytes ≡ cond short (set bytes 0 y) bytes
    by true [] x y same = refl
    by true (b ∷ bytes) x y same = ap (λ k. k ∷ bytes) (same (omega arith))
    by false bytes x y same = refl

pub addressings_alike : (v w : List ℕ) (d e : Decoded) (begin : ℕ) (s : Starts begin d.length d.fields)
    → BeginAlike v w s.first → e.length ≡ d.length → e.fields ≡ d.fields → d.fields.opcode_end ≤ s.first
    → wide_addressing w e ≡ wide_addressing v d
addressings_alike v w d e begin s a lengths fields fits =
    ap (λ k. addressing_by w e.fields (begin_of e.fields.disp (begin_of e.fields.imm k))) lengths
    ∙ ap (λ (f : Fields). addressing_by w f (begin_of f.disp (begin_of f.imm d.length))) fields
    ∙ ap (addressing_by w d.fields) s.is
    ∙ bytes_alike v w d.fields s.first a fits
    ∙ ap (addressing_by v d.fields) (sym s.is)

-- branches that go as far as two numbers say are the same but for that
pub same_branch : (b : Option Branch) (m n : ℕ) → SameBranch (with_displacement b m) (with_displacement b n)
same_branch None m n = tt
same_branch (Some b) m n = (refl, refl)

dword_front : (window : List ℕ) (at : ℕ) → at + 4 ≤ 15 → dword_in (front_of window) at ≡ dword_in window at
unfolding dword_in word_in
dword_front window at fits =
    let a : byte_in (front_of window) at ≡ byte_in window at = get_or-take 15 window at 0 (omega arith) in
    let b : byte_in (front_of window) (at + 1) ≡ byte_in window (at + 1) =
    get_or-take 15 window (at + 1) 0 (omega arith) in
    let c : byte_in (front_of window) (at + 2) ≡ byte_in window (at + 2) =
    get_or-take 15 window (at + 2) 0 (omega arith) in
    let d : byte_in (front_of window) (at + 2 + 1) ≡ byte_in window (at + 2 + 1) =
    get_or-take 15 window (at + 2 + 1) 0 (omega arith) in
    cc

goes_none : (window : List ℕ) (field : Option Field) → GoesByField window field None
goes_none window None = tt
goes_none window (Some field) = tt

-- a number of four bytes is what its field holds
number_goes : (window : List ℕ) (at n : ℕ) (b : Option Branch) (value : ℕ)
    → (n ≡ 4 → value ≡ dword_in window at) → GoesByField window (field_of at n) (with_displacement b value)
number_goes window at n None value is = goes_none window (field_of at n)
number_goes window at n (Some b) value is = by (n == 0)
  where
    by : (none : Bool)
        → GoesByField window (cond none None (Some (record { offset = at; width = n }))) (with_displacement (Some b) value)
    by true = tt
    by false = is

goes_by : (address signed : Bool) (window : List ℕ) (end at n : ℕ) (r : Addressing) (b : Option Branch)
    → n ≡ cond signed 1 n → r.end ≡ at → at + n ≤ 15
    → GoesByField window
    (fields_by address end r n).imm
    (with_displacement b (cond signed (extended (byte_in (front_of window) at)) (number_in (front_of window) at n)))
goes_by true signed window end at n r b width ends fits = tt
goes_by false signed window end at n r b width ends fits =
    subst (λ k. GoesByField window (field_of k n) (with_displacement b
    (cond signed (extended (byte_in (front_of window) at)) (number_in (front_of window) at n)))) (sym ends)
    (number_goes window at n b _ (held signed width))
  where
    held : (signed : Bool) → n ≡ cond signed 1 n → n ≡ 4
        → cond signed (extended (byte_in (front_of window) at)) (number_in (front_of window) at n) ≡ dword_in window at
    held true width is = absurd (omega arith)
    held false width is = ap (number_in (front_of window) at) is ∙ dword_front window at (omega arith)

pub goes : (line : Line) → LineLaws line → (window : List ℕ) (end : ℕ) (r : Addressing) (width : Width) (digit : ℕ)
    (b : Option Branch) → r.end + follows_width (shape_of line).follows width digit ≤ 15
    → GoesByField window
    (fields_of (shape_of line).follows end r (follows_width (shape_of line).follows width digit)).imm
    (with_displacement b (value_in (shape_of line).follows (front_of window) r.end
    (follows_width (shape_of line).follows width digit)))
goes line t window end r width digit b fits =
    let n : ℕ = follows_width (shape_of line).follows width digit in
    subst (λ (f : Fields). GoesByField window f.imm (with_displacement b (value_in (shape_of line).follows (front_of window) r.end n)))
    (sym (t.fields end r n))
    (subst (λ k. GoesByField window
    (fields_by (is_address (shape_of line).follows) end r n).imm (with_displacement b k))
    (sym (t.value (front_of window) r.end n))
    (goes_by (is_address (shape_of line).follows) (is_signed (shape_of line).follows) window end r.end n r b
    (t.signed width digit) refl fits))
