-- What the wide form of an instruction is made of, by how its parts follow one another.
use Rattle.std.proofs.Common.{◌≡◌, ℕ, zero, suc, ◌+◌, ◌-◌, ◌<◌, ◌≤◌, List, [], ◌∷◌, ◌++◌, length, take, drop, cond}
use Rattle.std.proofs.Common.{Option, Some, None, refl, ap, sym, subst, ◌∙◌, arith, true, false, Bool, set, nat_lt}
use Rattle.std.proofs.Common.{length-take, length-drop, replicate, append_assoc}
use Rattle.std.specs.Prelude.{◌==◌, ◌||◌, IfSome}
use Rattle.std.proofs.lemmas.Bool.{eqb-true, eqb-false, ne_eqb}
use Rattle.std.proofs.lemmas.List.{length-set, set-get_or, length-append, length-replicate}
use Rattle.std.proofs.lemmas.List.{length-take-le, drop_at, drop-replicate, get_or-take, set-append_right}
use Rattle.std.proofs.Math.Seq.{take-add}
use borrow.Rule.Slice.PartMut.{put_mid}
use Rattle.ia32_decode.specs.declared.types.Decoded.{Decoded}
use Rattle.ia32_decode.specs.declared.types.Field.{Field}
use Rattle.ia32_decode.specs.declared.types.Fields.{Fields}
use Rattle.ia32_decode.specs.Encoding.{byte_in, field_of}
use Rattle.ia32_decode.specs.Decode.{decoded_from}
use Rattle.ia32_decode.specs.Wide.{widened, wide_opcode, has_wide_opcode, opcode_in, wide_head, begin_of}
use Rattle.ia32_decode.specs.Wide.{fields_begin, addressing_bytes, is_short, wide_addressing, field_bytes}
use Rattle.ia32_decode.specs.Wide.{wide_displacement, wide_immediate, has_short_number, wide_bytes, wide_fields}
use Rattle.ia32_decode.specs.declared.types.Wide.{Wide}
use Rattle.ia32_decode.specs.Wide.{wide_of, padded, with_wide_mode, displacement_begin, immediate_begin}
use Rattle.ia32_alu.specs.declared.types.Width.{Width}
use Rattle.ia32_alu.specs.declared.types.Width.TheVariants.{Byte as Width8, Word as Width16, Dword as Width32}
use Rattle.ia32_alu.specs.Widths.{byte_count}
use Rattle.ia32_decode.specs.Table.{full_width_of}
use Rattle.ia32_decode.proofs.FieldOrder.{Laid, laid}
use Rattle.ia32_decode.proofs.Readings.{short_of, within_of}

-- where a field begins that has no byte, or some
begin_is : (at width end : ℕ) → (width ≡ 0 → end ≡ at) → begin_of (field_of at width) end ≡ at
begin_is at width end is = by (width == 0) (λ none. is (eqb-true width 0 none))
  where
    by : (b : Bool) → (b ≡ true → end ≡ at)
        → begin_of (cond b None (Some (record { offset = at; width = width }))) end ≡ at
    by true is = is refl
    by false is = refl

pub fields_begin_is : (d : Decoded) (l : Laid d) → fields_begin d ≡ l.begin
fields_begin_is d l =
    ap (λ disp. begin_of disp (begin_of d.fields.imm d.length)) l.displacement
    ∙ begin_is l.begin l.displacement_width (begin_of d.fields.imm d.length)
    (λ none. ap (λ imm. begin_of imm d.length) l.immediate
    ∙ begin_is (l.begin + l.displacement_width) l.immediate_width d.length
    (λ nothing. let total : l.begin + l.displacement_width + l.immediate_width ≡ d.length = l.total in omega arith)
    ∙ behind l.begin l.displacement_width none)
  where
    behind : (a b : ℕ) → b ≡ 0 → a + b ≡ a
    behind a b is = omega arith

-- the bytes of a field
pub field_bytes_is : (w : List ℕ) (at width : ℕ) → field_bytes w (field_of at width) ≡ take width (drop at w)
field_bytes_is w at width = by (width == 0) (eqb-true width 0)
  where
    by : (b : Bool) → (b ≡ true → width ≡ 0)
        → field_bytes w (cond b None (Some (record { offset = at; width = width }))) ≡ take width (drop at w)
    by true is = sym (ap (λ n. take n (drop at w)) (is refl))
    by false is = refl

pub short_is : (at width : ℕ) → is_short (field_of at width) ≡ (width == 1)
short_is at width = by (width == 0) (eqb-true width 0)
  where
    by : (b : Bool) → (b ≡ true → width ≡ 0)
        → is_short (cond b None (Some (record { offset = at; width = width }))) ≡ (width == 1)
    by true is = sym (ap (λ n. n == 1) (is refl))
    by false is = refl

-- a number of other than one byte stays, and a byte becomes so many
pub widened_other : (count : ℕ) (bytes : List ℕ) → (length bytes == 1) ≡ false → widened count bytes ≡ bytes
widened_other count [] is = refl
widened_other count (x ∷ []) is = absurd (cc)
widened_other count (x ∷ y ∷ bytes) is = refl

pub length_widened : (count : ℕ) (bytes : List ℕ) → 0 < count
    → length (widened count bytes) ≡ cond (length bytes == 1) count (length bytes)
length_widened count [] some = refl
length_widened count (x ∷ []) some = omega (arith, length-replicate {A = ℕ} (count - 1) (cond (nat_lt x 0x80) 0 0xFF))
length_widened count (x ∷ y ∷ bytes) some =
    sym (ap (λ b. cond b count (length (x ∷ y ∷ bytes))) (ne_eqb (length (x ∷ y ∷ bytes)) 1 (many (length bytes))))
  where
    many : (n : ℕ) → suc (suc n) ≡ 1 → ⊥
    many n is = omega arith

-- The parts of an instruction lie in the window.
pub record Parts (w : List ℕ) (d : Decoded) : Type 0 where
  pub order : Laid d
  pub short : d.length ≤ 15
  pub within : d.length ≤ length w

pub parts : (w : List ℕ) (d : Decoded) → decoded_from w ≡ Some d → Parts w d
parts w d is = record {
  order = laid w d is;
  short = short_of w (Some d) (sym is);
  within = within_of w (Some d) (sym is);
}

-- the parts themselves
pub addressing_is : (w : List ℕ) (d : Decoded) (l : Laid d)
    → addressing_bytes w d ≡ take (l.begin - d.fields.opcode_end) (drop d.fields.opcode_end w)
addressing_is w d l = ap (λ k. take (k - d.fields.opcode_end) (drop d.fields.opcode_end w)) (fields_begin_is d l)

pub displacement_is : (w : List ℕ) (d : Decoded) (l : Laid d)
    → field_bytes w d.fields.disp ≡ take l.displacement_width (drop l.begin w)
displacement_is w d l = ap (field_bytes w) l.displacement ∙ field_bytes_is w l.begin l.displacement_width

pub immediate_is : (w : List ℕ) (d : Decoded) (l : Laid d)
    → field_bytes w d.fields.imm ≡ take l.immediate_width (drop (l.begin + l.displacement_width) w)
immediate_is w d l = ap (field_bytes w) l.immediate ∙ field_bytes_is w (l.begin + l.displacement_width) l.immediate_width

pub is_short_displacement : (d : Decoded) (l : Laid d) → is_short d.fields.disp ≡ (l.displacement_width == 1)
is_short_displacement d l = ap is_short l.displacement ∙ short_is l.begin l.displacement_width

length_part : (w : List ℕ) (at n : ℕ) → at + n ≤ length w → length (take n (drop at w)) ≡ n
length_part w at n fits = omega (arith, length-take n (drop at w), length-drop at w)

length_of_displacement : (w : List ℕ) (d : Decoded) (p : Parts w d)
    → length (field_bytes w d.fields.disp) ≡ p.order.displacement_width
length_of_displacement w d p =
    let l : Laid d = p.order in
    ap length (displacement_is w d l)
    ∙ length_part w l.begin l.displacement_width (bound _ _ _ _ _ l.total p.within)
  where
    bound : (b k n x y : ℕ) → b + k + n ≡ x → x ≤ y → b + k ≤ y
    bound b k n x y is fits = omega arith

length_of_immediate : (w : List ℕ) (d : Decoded) (p : Parts w d)
    → length (field_bytes w d.fields.imm) ≡ p.order.immediate_width
length_of_immediate w d p =
    let l : Laid d = p.order in
    ap length (immediate_is w d l)
    ∙ length_part w (l.begin + l.displacement_width) l.immediate_width (bound _ _ _ _ _ l.total p.within)
  where
    bound : (b k n x y : ℕ) → b + k + n ≡ x → x ≤ y → b + k + n ≤ y
    bound b k n x y is fits = omega arith

-- how long the parts of the wide form are
pub length_head : (w : List ℕ) (d : Decoded) → Parts w d → length (wide_head w d) ≡ d.fields.opcode_end
length_head w d p =
    let l : Laid d = p.order in
    length-set (take d.fields.opcode_end w) d.prefixes.count (wide_opcode (opcode_in w d))
    ∙ length_part w 0 d.fields.opcode_end (bound _ _ _ _ _ _ l.starts l.total p.within)
  where
    bound : (e b k n x y : ℕ) → e ≤ b → b + k + n ≡ x → x ≤ y → 0 + e ≤ y
    bound e b k n x y h is fits = omega arith

pub length_addressing : (w : List ℕ) (d : Decoded) (p : Parts w d)
    → length (wide_addressing w d) ≡ p.order.begin - d.fields.opcode_end
length_addressing w d p =
    let l : Laid d = p.order in
    either (is_short d.fields.disp) (addressing_bytes w d) 0 _
    ∙ ap length (addressing_is w d l)
    ∙ length_part w d.fields.opcode_end (l.begin - d.fields.opcode_end) (bound _ _ _ _ _ _ l.starts l.total p.within)
  where
    either : (b : Bool) (bytes : List ℕ) (i y : ℕ) → length (cond b (set bytes i y) bytes) ≡ length bytes
    either true bytes i y = length-set bytes i y
    either false bytes i y = refl

    bound : (e b k n x y : ℕ) → e ≤ b → b + k + n ≡ x → x ≤ y → e + (b - e) ≤ y
    bound e b k n x y h is fits = omega arith

-- how many bytes a number has, where it is widened to so many
abbrev pub wide_width : ℕ → ℕ → ℕ
wide_width count width = cond (width == 1) count width

pub length_displacement : (w : List ℕ) (d : Decoded) (p : Parts w d)
    → length (wide_displacement w d) ≡ wide_width 4 p.order.displacement_width
length_displacement w d p =
    length_widened 4 (field_bytes w d.fields.disp) (omega arith)
    ∙ ap (wide_width 4) (length_of_displacement w d p)

-- Bytes with zeros behind them stay so, where others are put over the first zeros.
pub pushed : (xs ys : List ℕ) (a k : ℕ) → length xs ≡ 24 → xs ≡ padded (take a xs) → k ≡ length ys → a + k ≤ 24
    → put_mid a k xs ys ≡ padded (take a xs ++ ys)
pushed xs ys a k whole is same fits =
    let front : List ℕ = take a xs in
    let count : length front ≡ a = length-take-le a xs (omega arith) in
    let rest : drop k (drop a xs) ≡ replicate (24 - length front - k) 0 =
    ap (λ l. drop k (drop a l)) is
    ∙ ap (drop k) (drop_at front (replicate (24 - length front) 0) a count)
    ∙ drop-replicate k (24 - length front) 0 in
    ap (λ zeros. front ++ (ys ++ zeros)) rest
    ∙ sym (append_assoc front ys (replicate (24 - length front - k) 0))
    ∙ ap (λ n. (front ++ ys) ++ replicate n 0) (left (length (front ++ ys)) (length front) (length ys) same
    (length-append front ys))
  where
    left : (n f y : ℕ) → k ≡ y → n ≡ f + y → 24 - f - k ≡ 24 - n
    left n f y is sum = omega arith

pub wide_bytes_is : (w : List ℕ) (d : Decoded)
    → wide_bytes w d ≡ wide_head w d ++ wide_addressing w d ++ wide_displacement w d ++ wide_immediate w d
unfolding wide_bytes
wide_bytes_is w d = refl

first_false : (a b : Bool) → (a || b) ≡ false → a ≡ false
first_false true b is = is
first_false false b is = refl

second_false : (a b : Bool) → (a || b) ≡ false → b ≡ false
second_false true b is = absurd (cc)
second_false false b is = is

-- where no number is short, the parts stay
opcode_stays : (opcode : ℕ) → has_wide_opcode opcode ≡ false → wide_opcode opcode ≡ opcode
opcode_stays opcode none = by (opcode == 0x83) (opcode == 0x6A) none
  where
    by : (a b : Bool) → (a || b) ≡ false → cond a 0x81 (cond b 0x68 opcode) ≡ opcode
    by true b is = absurd (cc)
    by false true is = absurd (cc)
    by false false is = refl

head_stays : (w : List ℕ) (d : Decoded) → Laid d → has_wide_opcode (opcode_in w d) ≡ false
    → wide_head w d ≡ take d.fields.opcode_end w
head_stays w d l none =
    let head : List ℕ = take d.fields.opcode_end w in
    ap (set head d.prefixes.count) (opcode_stays (opcode_in w d) none
    ∙ sym (get_or-take d.fields.opcode_end w d.prefixes.count 0 l.opcode))
    ∙ set-get_or head d.prefixes.count 0

displacement_stays : (w : List ℕ) (d : Decoded) (p : Parts w d) → is_short d.fields.disp ≡ false
    → wide_displacement w d ≡ field_bytes w d.fields.disp
displacement_stays w d p none =
    widened_other 4 (field_bytes w d.fields.disp)
    (ap (λ n. n == 1) (length_of_displacement w d p) ∙ sym (is_short_displacement d p.order) ∙ none)

-- An instruction without a short number is its own wide form.
pub unchanged : (w : List ℕ) (d : Decoded) (p : Parts w d) → has_short_number w d ≡ false
    → wide_bytes w d ≡ take d.length w
unchanged w d p none =
    let l : Laid d = p.order in
    let e : ℕ = d.fields.opcode_end in
    let b : ℕ = l.begin in
    let opcode : has_wide_opcode (opcode_in w d) ≡ false = first_false _ _ none in
    let short : is_short d.fields.disp ≡ false = second_false _ _ none in
    let head : wide_head w d ≡ take e w = head_stays w d l opcode in
    let addressing : wide_addressing w d ≡ take (b - e) (drop e w) =
    ap (λ t. cond t (set (addressing_bytes w d) 0 (with_wide_mode (byte_in w e))) (addressing_bytes w d)) short
    ∙ addressing_is w d l in
    let displacement : wide_displacement w d ≡ take l.displacement_width (drop b w) =
    displacement_stays w d p short ∙ displacement_is w d l in
    let immediate : wide_immediate w d ≡ take l.immediate_width (drop (b + l.displacement_width) w) =
    ap (λ t. cond t (widened (byte_count (full_width_of d.prefixes.operand_size)) (field_bytes w d.fields.imm))
    (field_bytes w d.fields.imm)) opcode
    ∙ immediate_is w d l in
    let first : take e w ++ take (b - e) (drop e w) ≡ take b w =
    sym (take-add e (b - e) w) ∙ ap (λ n. take n w) (back e b l.starts) in
    let second : take b w ++ take l.displacement_width (drop b w) ≡ take (b + l.displacement_width) w =
    sym (take-add b l.displacement_width w) in
    let third : take (b + l.displacement_width) w ++ take l.immediate_width (drop (b + l.displacement_width) w)
    ≡ take d.length w =
    sym (take-add (b + l.displacement_width) l.immediate_width w) ∙ ap (λ n. take n w) l.total in
    wide_bytes_is w d
    ∙ ap (λ l. l ++ wide_addressing w d ++ wide_displacement w d ++ wide_immediate w d) head
    ∙ ap (λ l. take e w ++ l ++ wide_displacement w d ++ wide_immediate w d) addressing
    ∙ ap (λ l. l ++ wide_displacement w d ++ wide_immediate w d) first
    ∙ ap (λ l. take b w ++ l ++ wide_immediate w d) displacement
    ∙ ap (λ l. l ++ wide_immediate w d) second
    ∙ ap (λ number. take (b + l.displacement_width) w ++ number) immediate
    ∙ third
  where
    back : (e b : ℕ) → e ≤ b → e + (b - e) ≡ b
    back e b h = omega arith

-- how many bytes the immediate has
count_few : (width : Width) → (0 < byte_count width) × (byte_count width ≤ 4)
count_few Width8 = (omega arith, omega arith)
count_few Width16 = (omega arith, omega arith)
count_few Width32 = (omega arith, omega arith)

-- A number is widened by three bytes at most, and to four at most.
widened_few : (count : ℕ) (bytes : List ℕ) → 0 < count → count ≤ 4 → length bytes ≤ 4
    → (length (widened count bytes) ≤ length bytes + 3) × (length (widened count bytes) ≤ 4)
widened_few count [] some few fits = (omega arith, omega arith)
widened_few count (x ∷ []) some few fits = (
  omega (arith, length-replicate {A = ℕ} (count - 1) (cond (nat_lt x 0x80) 0 0xFF)),
  omega (arith, length-replicate {A = ℕ} (count - 1) (cond (nat_lt x 0x80) 0 0xFF)),
)
widened_few count (x ∷ y ∷ bytes) some few fits = (omega arith, omega arith)

immediate_few : (w : List ℕ) (d : Decoded) (p : Parts w d)
    → (length (wide_immediate w d) ≤ p.order.immediate_width + 3) × (length (wide_immediate w d) ≤ 4)
immediate_few w d p =
    let l : Laid d = p.order in
    let width : Width = full_width_of d.prefixes.operand_size in
    by (has_wide_opcode (opcode_in w d)) (byte_count width) (field_bytes w d.fields.imm) l.immediate_width
    (count_few width).0 (count_few width).1 (length_of_immediate w d p) l.number_narrow
  where
    by : (b : Bool) (count : ℕ) (bytes : List ℕ) (n : ℕ) → 0 < count → count ≤ 4 → length bytes ≡ n → n ≤ 4
        → (length (cond b (widened count bytes) bytes) ≤ n + 3) × (length (cond b (widened count bytes) bytes) ≤ 4)
    by true count bytes n some few is fits =
        let h : (length (widened count bytes) ≤ length bytes + 3) × (length (widened count bytes) ≤ 4) =
        widened_few count bytes some few (omega arith) in
        (omega (arith, h.0), omega (arith, h.1))
    by false count bytes n some few is fits = (omega arith, omega arith)

-- the places of the fields in the wide form
pub wide_fields_are : (w : List ℕ) (d : Decoded) (p : Parts w d)
    → wide_fields w d
    ≡ record {
      opcode_end = d.fields.opcode_end;
      disp = field_of p.order.begin (wide_width 4 p.order.displacement_width);
      imm = field_of (p.order.begin + wide_width 4 p.order.displacement_width) (length (wide_immediate w d));
    }
unfolding wide_fields
wide_fields_are w d p =
    let l : Laid d = p.order in
    let n : ℕ = length (wide_immediate w d) in
    let at : displacement_begin w d ≡ l.begin =
    ap (λ k. k + length (wide_addressing w d)) (length_head w d p)
    ∙ ap (λ k. d.fields.opcode_end + k) (length_addressing w d p)
    ∙ back d.fields.opcode_end l.begin l.starts in
    ap (λ k. placed d.fields.opcode_end k (length (wide_displacement w d)) n) at
    ∙ ap (λ k. placed d.fields.opcode_end l.begin k n) (length_displacement w d p)
  where
    placed : (end begin width n : ℕ) → Fields
    placed end begin width n =
        record { opcode_end = end; disp = field_of begin width; imm = field_of (begin + width) n }

    back : (e b : ℕ) → e ≤ b → e + (b - e) ≡ b
    back e b h = omega arith

-- how long the wide form is
pub wide_length_is : (w : List ℕ) (d : Decoded) (p : Parts w d)
    → length (wide_bytes w d)
    ≡ p.order.begin + wide_width 4 p.order.displacement_width + length (wide_immediate w d)
wide_length_is w d p =
    let l : Laid d = p.order in
    ap length (wide_bytes_is w d)
    ∙ length-append (wide_head w d ++ wide_addressing w d ++ wide_displacement w d) (wide_immediate w d)
    ∙ ap (λ k. k + length (wide_immediate w d)) (
    length-append (wide_head w d ++ wide_addressing w d) (wide_displacement w d)
    ∙ ap (λ k. k + length (wide_displacement w d)) (length-append (wide_head w d) (wide_addressing w d))
    ∙ total _ _ _ _ _ _ l.starts (length_head w d p) (length_addressing w d p) (length_displacement w d p))
  where
    total : (h a x e k b : ℕ) → e ≤ b → h ≡ e → a ≡ b - e → x ≡ k → h + a + x ≡ b + k
    total h a x e k b starts p q r = omega arith

width_few : (k : ℕ) → wide_width 4 k ≤ k + 3
width_few k = by (k == 1) (eqb-true k 1)
  where
    by : (b : Bool) → (b ≡ true → k ≡ 1) → cond b 4 k ≤ k + 3
    by true is = let h : k ≡ 1 = is refl in omega arith
    by false is = omega arith

pub wide_length_few : (w : List ℕ) (d : Decoded) → Parts w d → length (wide_bytes w d) ≤ 21
wide_length_few w d p =
    let l : Laid d = p.order in
    let n : ℕ = length (wide_immediate w d) in
    subst (λ k. k ≤ 21) (sym (wide_length_is w d p))
    (bound l.begin l.displacement_width l.immediate_width d.length (wide_width 4 l.displacement_width) n l.total p.short
    (width_few l.displacement_width) (immediate_few w d p).0)
  where
    bound : (b k n x k' n' : ℕ) → b + k + n ≡ x → x ≤ 15 → k' ≤ k + 3 → n' ≤ n + 3 → b + k' + n' ≤ 21
    bound b k n x k' n' is short p q = omega arith

-- Without a short number the fields stay where they are.
pub fields_unchanged : (w : List ℕ) (d : Decoded) → Parts w d → has_short_number w d ≡ false
    → wide_fields w d ≡ d.fields
fields_unchanged w d p none =
    let l : Laid d = p.order in
    let width : wide_width 4 l.displacement_width ≡ l.displacement_width =
    ap (λ t. cond t 4 l.displacement_width) (sym (is_short_displacement d l) ∙ second_false _ _ none) in
    let number : length (wide_immediate w d) ≡ l.immediate_width =
    ap (λ t. length (cond t (widened (byte_count (full_width_of d.prefixes.operand_size)) (field_bytes w d.fields.imm))
    (field_bytes w d.fields.imm))) (first_false _ _ none)
    ∙ length_of_immediate w d p in
    let disp : d.fields.disp ≡ field_of l.begin l.displacement_width = l.displacement in
    let imm : d.fields.imm ≡ field_of (l.begin + l.displacement_width) l.immediate_width = l.immediate in
    wide_fields_are w d p
    ∙ ap (λ k. placed (field_of l.begin k) (field_of (l.begin + k) (length (wide_immediate w d)))) width
    ∙ ap (λ k. placed (field_of l.begin l.displacement_width) (field_of (l.begin + l.displacement_width) k)) number
    ∙ ap (λ f. placed f (field_of (l.begin + l.displacement_width) l.immediate_width)) (sym disp)
    ∙ ap (λ f. placed d.fields.disp f) (sym imm)
  where
    placed : Option Field → Option Field → Fields
    placed disp imm = record { opcode_end = d.fields.opcode_end; disp = disp; imm = imm }

field_within : (at width n : ℕ) → at + width ≤ n → IfSome (field_of at width) (λ (f : Field). f.offset + f.width ≤ n)
field_within at width n fits = by (width == 0)
  where
    by : (b : Bool)
        → IfSome {T = Field} (cond b None (Some (record { offset = at; width = width }))) (λ f. f.offset + f.width ≤ n)
    by true = tt
    by false = fits

-- What the code that puts the wide form together has to know.
pub record Bounds (w : List ℕ) (d : Decoded) : Type 0 where
  pub opcode : d.prefixes.count < d.fields.opcode_end
  pub begins : d.fields.opcode_end ≤ fields_begin d
  pub follows_mode : is_short d.fields.disp ≡ true → d.fields.opcode_end < fields_begin d
  pub short : fields_begin d ≤ 15
  pub within : fields_begin d ≤ length w
  pub displacement : IfSome d.fields.disp (λ f. f.offset + f.width ≤ length w)
  pub displacement_few : length (field_bytes w d.fields.disp) ≤ 4
  pub immediate : IfSome d.fields.imm (λ f. f.offset + f.width ≤ length w)
  pub immediate_few : length (field_bytes w d.fields.imm) ≤ 4
  pub head : length (wide_head w d) ≡ d.fields.opcode_end
  pub addressing : length (wide_head w d ++ wide_addressing w d) ≤ 15
  pub numbers : length (wide_head w d ++ wide_addressing w d ++ wide_displacement w d) ≤ 18

pub bounds : (w : List ℕ) (d : Decoded) → decoded_from w ≡ Some d → Bounds w d
bounds w d is =
    let p : Parts w d = parts w d is in
    let l : Laid d = p.order in
    let total : l.begin + l.displacement_width + l.immediate_width ≡ d.length = l.total in
    let short : d.length ≤ 15 = p.short in
    let within : d.length ≤ length w = p.within in
    let begin : fields_begin d ≡ l.begin = fields_begin_is d l in
    let starts : d.fields.opcode_end ≤ l.begin = l.starts in
    let addressing : length (wide_head w d ++ wide_addressing w d) ≡ l.begin =
    length-append (wide_head w d) (wide_addressing w d)
    ∙ joined _ _ _ _ starts (length_head w d p) (length_addressing w d p) in
    record {
      opcode = l.opcode;
      begins = omega arith;
      follows_mode = λ h. subst (λ k. d.fields.opcode_end < k) (sym begin)
          (l.follows_mode (eqb-true l.displacement_width 1 (sym (is_short_displacement d l) ∙ h)));
      short = omega arith;
      within = omega arith;
      displacement = subst (λ f. IfSome f (λ (x : Field). x.offset + x.width ≤ length w)) (sym l.displacement)
          (field_within l.begin l.displacement_width (length w) (omega arith));
      displacement_few = subst (λ k. k ≤ 4) (sym (length_of_displacement w d p)) l.narrow;
      immediate = subst (λ f. IfSome f (λ (x : Field). x.offset + x.width ≤ length w)) (sym l.immediate)
          (field_within (l.begin + l.displacement_width) l.immediate_width (length w) (omega arith));
      immediate_few = subst (λ k. k ≤ 4) (sym (length_of_immediate w d p)) l.number_narrow;
      head = length_head w d p;
      addressing = omega arith;
      numbers = subst (λ k. k ≤ 18)
          (sym (length-append (wide_head w d ++ wide_addressing w d) (wide_displacement w d)))
          (sum _ _ _ _ _ _ addressing (length_displacement w d p) (width_few l.displacement_width) total short);
    }
  where
    joined : (e b h a : ℕ) → e ≤ b → h ≡ e → a ≡ b - e → h + a ≡ b
    joined e b h a starts p q = omega arith

    sum : (h x b k n y : ℕ) → h ≡ b → x ≡ wide_width 4 k → wide_width 4 k ≤ k + 3 → b + k + n ≡ y → y ≤ 15
        → h + x ≤ 18
    sum h x b k n y p q r total short = omega arith

-- what the code leaves, by what it puts where
pub short_addressing : (w : List ℕ) (d : Decoded) (b : Bounds w d) (new longer old part : List ℕ) (y : ℕ)
    → new ≡ set longer d.fields.opcode_end y → longer ≡ old ++ part → old ≡ wide_head w d
    → part ≡ addressing_bytes w d → y ≡ with_wide_mode (byte_in w d.fields.opcode_end)
    → is_short d.fields.disp ≡ true → new ≡ wide_head w d ++ wide_addressing w d
short_addressing w d b new longer old part y changed put before is byte short =
    let e : ℕ = d.fields.opcode_end in
    let head : List ℕ = wide_head w d in
    changed
    ∙ ap (λ l. set l e y) (put ∙ ap (λ l. l ++ part) before ∙ ap (λ l. head ++ l) is)
    ∙ set-append_right head (addressing_bytes w d) e e y b.head (omega arith)
    ∙ ap (λ n. head ++ set (addressing_bytes w d) n y) (nothing e)
    ∙ ap (λ x. head ++ set (addressing_bytes w d) 0 x) byte
    ∙ ap (λ t. head ++ cond t (set (addressing_bytes w d) 0 (with_wide_mode (byte_in w e))) (addressing_bytes w d))
    (sym short)
  where
    nothing : (e : ℕ) → e - e ≡ 0
    nothing e = omega arith

pub long_addressing : (w : List ℕ) (d : Decoded) (longer old part : List ℕ) → longer ≡ old ++ part
    → old ≡ wide_head w d → part ≡ addressing_bytes w d → is_short d.fields.disp ≡ false
    → longer ≡ wide_head w d ++ wide_addressing w d
long_addressing w d longer old part put before is short =
    put
    ∙ ap (λ l. l ++ part) before
    ∙ ap (λ l. wide_head w d ++ l) is
    ∙ ap (λ t. wide_head w d
    ++ cond t (set (addressing_bytes w d) 0 (with_wide_mode (byte_in w d.fields.opcode_end))) (addressing_bytes w d))
    (sym short)

pub finished : (w : List ℕ) (d : Decoded) (b : Bool) (new old part : List ℕ)
    → new ≡ old ++ cond b (widened (byte_count (full_width_of d.prefixes.operand_size)) part) part
    → old ≡ wide_head w d ++ wide_addressing w d ++ wide_displacement w d → part ≡ field_bytes w d.fields.imm
    → b ≡ has_wide_opcode (opcode_in w d) → new ≡ wide_bytes w d
finished w d b new old part put before is opcode =
    let number : Bool → List ℕ → List ℕ =
    λ t l. cond t (widened (byte_count (full_width_of d.prefixes.operand_size)) l) l in
    put
    ∙ ap (λ l. l ++ number b part) before
    ∙ ap (λ l. (wide_head w d ++ wide_addressing w d ++ wide_displacement w d) ++ number b l) is
    ∙ ap (λ t. (wide_head w d ++ wide_addressing w d ++ wide_displacement w d) ++ number t (field_bytes w d.fields.imm))
    opcode
    ∙ sym (wide_bytes_is w d)

-- the wide form by its bytes, their number and the fields
wide_of_is : (w : List ℕ) (d : Decoded) (bytes : List ℕ) (n : ℕ) (fields : Fields) → bytes ≡ padded (wide_bytes w d)
    → n ≡ length (wide_bytes w d) → fields ≡ wide_fields w d
    → record { bytes = bytes; length = n; fields = fields } ≡ wide_of w d
wide_of_is w d bytes n fields p q r =
    ap (λ b. form b n fields) p
    ∙ ap (λ k. form (padded (wide_bytes w d)) k fields) q
    ∙ ap (λ f. form (padded (wide_bytes w d)) (length (wide_bytes w d)) f) r
  where
    form : List ℕ → ℕ → Fields → Wide
    form bytes n fields = record { bytes = bytes; length = n; fields = fields }

-- an instruction without a short number is its wide form
pub same_form : (w : List ℕ) (d : Decoded) → decoded_from w ≡ Some d → has_short_number w d ≡ false
    → (bytes : List ℕ) → bytes ≡ padded (take d.length w)
    → record { bytes = bytes; length = d.length; fields = d.fields } ≡ wide_of w d
same_form w d is none bytes same =
    let p : Parts w d = parts w d is in
    let form : wide_bytes w d ≡ take d.length w = unchanged w d p none in
    wide_of_is w d bytes d.length d.fields (same ∙ ap padded (sym form))
    (sym (ap length form ∙ length-take-le d.length w p.within)) (sym (fields_unchanged w d p none))

pub fields_is : (w : List ℕ) (d : Decoded)
    → wide_fields w d
    ≡ record {
      opcode_end = d.fields.opcode_end;
      disp = field_of (displacement_begin w d) (length (wide_displacement w d));
      imm = field_of (immediate_begin w d) (length (wide_immediate w d));
    }
unfolding wide_fields
fields_is w d = refl

-- the wide form whose parts were put together one after another
pub put_together : (w : List ℕ) (d : Decoded) (bytes : List ℕ) (front middle whole : List ℕ) (a b n : ℕ)
    → front ≡ wide_head w d ++ wide_addressing w d → middle ≡ wide_head w d ++ wide_addressing w d ++ wide_displacement w d
    → whole ≡ wide_bytes w d → a ≡ length front → b ≡ length middle → n ≡ length whole → bytes ≡ padded whole
    → (disp imm : Option Field) → disp ≡ field_of a (b - a) → imm ≡ field_of b (n - b)
    → record {
      bytes = bytes;
      length = n;
      fields = record { opcode_end = d.fields.opcode_end; disp = disp; imm = imm };
    } ≡ wide_of w d
put_together w d bytes front middle whole a b n p q r a_is b_is n_is same disp imm disp_is imm_is =
    let form : wide_bytes w d ≡ wide_head w d ++ wide_addressing w d ++ wide_displacement w d ++ wide_immediate w d =
    wide_bytes_is w d in
    let begin : a ≡ displacement_begin w d = a_is ∙ ap length p ∙ length-append (wide_head w d) (wide_addressing w d) in
    let middle_is : b ≡ length (wide_head w d ++ wide_addressing w d) + length (wide_displacement w d) =
    b_is ∙ ap length q ∙ length-append (wide_head w d ++ wide_addressing w d) (wide_displacement w d) in
    let next : b ≡ immediate_begin w d =
    middle_is ∙ ap (λ k. k + length (wide_displacement w d)) (length-append (wide_head w d) (wide_addressing w d)) in
    let total : n ≡ length (wide_head w d ++ wide_addressing w d ++ wide_displacement w d) + length (wide_immediate w d) =
    n_is ∙ ap length r ∙ ap length form
    ∙ length-append (wide_head w d ++ wide_addressing w d ++ wide_displacement w d) (wide_immediate w d) in
    let last : n ≡ b + length (wide_immediate w d) =
    total ∙ ap (λ k. k + length (wide_immediate w d)) (sym (b_is ∙ ap length q)) in
    wide_of_is w d bytes n (record { opcode_end = d.fields.opcode_end; disp = disp; imm = imm })
    (same ∙ ap padded r) (n_is ∙ ap length r)
    (ap (λ f. fields f imm) (disp_is ∙ ap (λ k. field_of a k) (left _ _ _ _ begin next)
    ∙ ap (λ k. field_of k (length (wide_displacement w d))) begin)
    ∙ ap (λ f. fields (field_of (displacement_begin w d) (length (wide_displacement w d))) f)
    (imm_is ∙ ap (λ k. field_of b k) (rest _ _ _ last) ∙ ap (λ k. field_of k (length (wide_immediate w d))) next)
    ∙ sym (fields_is w d))
  where
    fields : Option Field → Option Field → Fields
    fields disp imm = record { opcode_end = d.fields.opcode_end; disp = disp; imm = imm }

    left : (a b x y : ℕ) → a ≡ x → b ≡ x + y → b - a ≡ y
    left a b x y p q = omega arith

    rest : (n b y : ℕ) → n ≡ b + y → n - b ≡ y
    rest n b y p = omega arith

pub longer : (w : List ℕ) (d : Decoded)
    → length (wide_head w d ++ wide_addressing w d ++ wide_displacement w d) ≤ length (wide_bytes w d)
longer w d =
    omega (
      arith,
      ap length (wide_bytes_is w d),
      length-append (wide_head w d ++ wide_addressing w d ++ wide_displacement w d) (wide_immediate w d),
    )

width_more : (k : ℕ) → k ≤ wide_width 4 k
width_more k = by (k == 1) (eqb-true k 1)
  where
    by : (b : Bool) → (b ≡ true → k ≡ 1) → k ≤ cond b 4 k
    by true is = let h : k ≡ 1 = is refl in omega arith
    by false is = omega arith

immediate_more : (w : List ℕ) (d : Decoded) (p : Parts w d) → p.order.immediate_width ≤ length (wide_immediate w d)
immediate_more w d p =
    let width : Width = full_width_of d.prefixes.operand_size in
    by (has_wide_opcode (opcode_in w d)) (byte_count width) (field_bytes w d.fields.imm) p.order.immediate_width
    (count_few width).0 (length_of_immediate w d p)
  where
    more : (count : ℕ) (bytes : List ℕ) → 0 < count → length bytes ≤ length (widened count bytes)
    more count [] some = omega arith
    more count (x ∷ []) some = omega arith
    more count (x ∷ y ∷ bytes) some = omega arith

    by : (b : Bool) (count : ℕ) (bytes : List ℕ) (n : ℕ) → 0 < count → length bytes ≡ n
        → n ≤ length (cond b (widened count bytes) bytes)
    by true count bytes n some is = omega (arith, more count bytes some)
    by false count bytes n some is = omega arith

-- What a wide form has more than its instruction, and where its parts lie.
pub record WideBounds (w : List ℕ) (d : Decoded) : Type 0 where
  pub longer : d.length ≤ length (wide_bytes w d)
  pub opcode : (wide_fields w d).opcode_end ≤ length (wide_bytes w d)
  pub displacement : IfSome (wide_fields w d).disp (λ (f : Field). f.offset + f.width ≤ length (wide_bytes w d))
  pub full : IfSome (wide_fields w d).disp (λ (f : Field). f.width ≡ 4)
  pub immediate : IfSome (wide_fields w d).imm (λ (f : Field). f.offset + f.width ≤ length (wide_bytes w d))

pub wide_bounds : (w : List ℕ) (d : Decoded) → decoded_from w ≡ Some d → WideBounds w d
wide_bounds w d is =
    let p : Parts w d = parts w d is in
    let l : Laid d = p.order in
    let k : ℕ = wide_width 4 l.displacement_width in
    let n : ℕ = length (wide_immediate w d) in
    let total : length (wide_bytes w d) ≡ l.begin + k + n = wide_length_is w d p in
    let fields : wide_fields w d
    ≡ record { opcode_end = d.fields.opcode_end; disp = field_of l.begin k; imm = field_of (l.begin + k) n } =
    wide_fields_are w d p in
    let disp : (wide_fields w d).disp ≡ field_of l.begin k = ap (λ (f : Fields). f.disp) fields in
    let imm : (wide_fields w d).imm ≡ field_of (l.begin + k) n = ap (λ (f : Fields). f.imm) fields in
    record {
      longer = bound _ _ _ _ _ _ _ l.total total (width_more l.displacement_width) (immediate_more w d p);
      opcode = subst (λ (f : Fields). f.opcode_end ≤ length (wide_bytes w d)) (sym fields)
          (before _ _ _ _ _ l.starts total);
      displacement = subst (λ f. IfSome f (λ (x : Field). x.offset + x.width ≤ length (wide_bytes w d))) (sym disp)
          (field_within l.begin k (length (wide_bytes w d)) (first _ _ _ _ total));
      full = subst (λ f. IfSome f (λ (x : Field). x.width ≡ 4)) (sym disp)
          (field_full l.begin k (λ some. l.full (positive l.displacement_width (λ none. some (ap (wide_width 4) none)))));
      immediate = subst (λ f. IfSome f (λ (x : Field). x.offset + x.width ≤ length (wide_bytes w d))) (sym imm)
          (field_within (l.begin + k) n (length (wide_bytes w d)) (second _ _ _ _ total));
    }
  where
    bound : (b k n k' n' x y : ℕ) → b + k + n ≡ x → y ≡ b + k' + n' → k ≤ k' → n ≤ n' → x ≤ y
    bound b k n k' n' x y p q r s = omega arith

    before : (e b k n y : ℕ) → e ≤ b → y ≡ b + k + n → e ≤ y
    before e b k n y p q = omega arith

    first : (b k n y : ℕ) → y ≡ b + k + n → b + k ≤ y
    first b k n y p = omega arith

    second : (b k n y : ℕ) → y ≡ b + k + n → b + k + n ≤ y
    second b k n y p = omega arith

    positive : (k : ℕ) → (k ≡ 0 → ⊥) → 0 < k
    positive zero some = absurd (some refl)
    positive (suc k) some = omega arith

    field_full : (at width : ℕ) → ((width ≡ 0 → ⊥) → width ≡ 4)
        → IfSome (field_of at width) (λ (f : Field). f.width ≡ 4)
    field_full at width full = by (width == 0) (λ is. full (eqb-false width 0 is))
      where
        by : (b : Bool) → (b ≡ false → width ≡ 4)
            → IfSome {T = Field} (cond b None (Some (record { offset = at; width = width }))) (λ f. f.width ≡ 4)
        by true is = tt
        by false is = is refl
