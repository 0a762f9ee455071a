-- An instruction of a section and the running one with its fields filled agree, and its references hold what stands in
-- the fields.
use Rattle.std.proofs.Common.{◌≡◌, ℕ, ◌+◌, ◌<◌, ◌≤◌, Bool, true, false, not, ◌&&◌, ◌||◌, cond}
use Rattle.std.proofs.Common.{List, [], ◌∷◌, ◌++◌, length, take, drop, nat_le, Option, Some, None}
use Rattle.std.proofs.Common.{All, IsTrue, refl, sym, ap, ◌∙◌, arith, length-append}
use Rattle.std.specs.Prelude.{◌==◌}
use Rattle.std.specs.List.{list_any, list_all, AllByRecursion}
use Rattle.std.proofs.lemmas.Bool.{and_parts, eqb-true, lt-ltb, le-leb, le-ltb, lt-leb}
use Rattle.std.proofs.lemmas.List.{length-take, length-set, take_at, ext_get_or, get_or-take, append_assoc, map-id}
use Rattle.std.proofs.lemmas.List.Elements.{All-from_recursion}
use Rattle.i386_reloc.specs.declared.types.Ref.{Ref}
use Rattle.ia32_decode.specs.declared.types.Decoded.{Decoded}
use Rattle.ia32_decode.specs.declared.types.Field.{Field}
use Rattle.ia32_decode.specs.declared.types.Fields.{Fields}
use Rattle.ia32_decode.specs.declared.types.Prefixes.{Prefixes}
use Rattle.ia32_decode.specs.Encoding.{byte_in, field_of}
use Rattle.ia32_alu.specs.Widths.{byte_count}
use Rattle.ia32_decode.specs.Table.{full_width_of}
use Rattle.ia32_decode.specs.Wide.{wide_head, wide_addressing, wide_displacement, wide_immediate, wide_bytes, wide_fields}
use Rattle.ia32_decode.specs.Wide.{has_wide_opcode, opcode_in, displacement_begin, immediate_begin, field_bytes, widened}
use Rattle.match_instructions.specs.Instructions.{Instruction}
use Rattle.match_instructions.specs.PreCode.{is_field_at, stands_on_field, may_stand, may_all_stand}
use Rattle.match_constants.specs.Constants.{covers}
use Rattle.run_pre_match.specs.WideForms.{form_bytes, form_fields, offset_in, moved, moved_references, has_four}
use Rattle.run_pre_match.specs.WideForms.{is_full}
use Rattle.run_pre_match.specs.Differences.{opcode_bytes, blanked}
use Rattle.linked_code.specs.Filled.{IsFilled}
use Rattle.linked_code.proofs.Layouts.{Laid, field_is}
use Rattle.linked_code.proofs.Blanking.{is_within, covered_by, number, number_four, length_part, blanked_parts}
use Rattle.linked_code.proofs.Blanking.{blanked_nowhere, blanked_number}

-- An instruction of an object and one that runs have the same bytes outside the fields of references, where the object
-- has zeros, and the second is the first with its fields filled.
pub record RunsAs (i run : Instruction) : Type 0 where
  pub laid : Laid i.decoded
  pub size : length i.bytes ≡ i.decoded.length
  pub run_size : length run.bytes ≡ i.decoded.length
  pub filled : IsFilled i.bytes run.bytes i.decoded run.decoded
  pub stands : may_all_stand i ≡ true
  pub same : (k : ℕ) → k < i.decoded.length → list_any (covers (i.place + k)) i.references ≡ false
      → byte_in run.bytes k ≡ byte_in i.bytes k
  pub blank : (k : ℕ) → k < i.decoded.length → list_any (covers (i.place + k)) i.references ≡ true
      → byte_in i.bytes k ≡ 0

-- ---- where references stand
-- whether a reference stands on the displacement
abbrev pub on_displacement : Instruction → Ref → Bool
on_displacement i r = is_field_at i.place r.offset i.decoded.fields.disp

field_stands : (begin at : ℕ) (o : Option Field) (place width : ℕ) → o ≡ field_of place width →
    is_field_at begin at o ≡ true → (at ≡ begin + place) × (width ≡ 4)
field_stands begin at None place width is stands = absurd (cc)
field_stands begin at (Some f) place width is stands =
    let parts = and_parts (begin + f.offset == at) (f.width == 4) stands in
    let a : begin + f.offset ≡ at = eqb-true (begin + f.offset) at parts.0 in
    let b : f.width ≡ 4 = eqb-true f.width 4 parts.1 in
    let here = field_is place width f (sym is) in
    (omega (arith, a, here.offset), omega (arith, b, here.width))

-- A reference stands on the displacement or on the immediate, which have four bytes there.
pub record StandsIn (i : Instruction) (l : Laid i.decoded) (r : Ref) : Type 0 where
  pub at : r.offset ≡ i.place + cond (on_displacement i r) l.begin (l.begin + l.first)
  pub four : cond (on_displacement i r) l.first l.second ≡ 4

pub stands_in : (i : Instruction) (l : Laid i.decoded) (r : Ref) → stands_on_field i.place i.decoded r ≡ true →
    StandsIn i l r
stands_in i l r stands = either (on_displacement i r) refl stands
  where
    either : (b : Bool) → on_displacement i r ≡ b →
        (b || is_field_at i.place r.offset i.decoded.fields.imm) ≡ true → StandsIn i l r
    either true is stands =
        let here = field_stands i.place r.offset i.decoded.fields.disp l.begin l.first l.displacement is in
        record {
          at = here.0 ∙ sym (ap (λ b. i.place + cond b l.begin (l.begin + l.first)) is);
          four = ap (λ b. cond b l.first l.second) is ∙ here.1;
        }
    either false is stands =
        let here = field_stands i.place r.offset i.decoded.fields.imm (l.begin + l.first) l.second l.immediate stands in
        record {
          at = here.0 ∙ sym (ap (λ b. i.place + cond b l.begin (l.begin + l.first)) is);
          four = ap (λ b. cond b l.first l.second) is ∙ here.1;
        }

-- all of an instruction's references do
pub all_stand : (i : Instruction) (l : Laid i.decoded) (refs : List Ref) → list_all (may_stand i) refs ≡ true →
    AllByRecursion (StandsIn i l) refs
all_stand i l [] all = tt
all_stand i l (r ∷ rs) all =
    let parts = and_parts (may_stand i r) (list_all (may_stand i) rs) all in
    (stands_in i l r (and_parts _ _ parts.0).0, all_stand i l rs parts.1)

weaker : {P Q : Ref → Type 0} → ((r : Ref) → P r → Q r) → (refs : List Ref) → AllByRecursion P refs →
    AllByRecursion Q refs
weaker f [] all = tt
weaker f (r ∷ rs) all = (f r all.0, weaker f rs all.1)

-- where one stands on a field, it has four bytes
has_one : (i : Instruction) (l : Laid i.decoded) (refs : List Ref) → AllByRecursion (StandsIn i l) refs →
    list_any (on_displacement i) refs ≡ true → l.first ≡ 4
has_one i l [] all some = absurd (cc)
has_one i l (r ∷ rs) all some = either (on_displacement i r) refl (has_one i l rs all.1) some
  where
    either : (b : Bool) → on_displacement i r ≡ b → (list_any (on_displacement i) rs ≡ true → l.first ≡ 4) →
        (b || list_any (on_displacement i) rs) ≡ true → l.first ≡ 4
    either true is later some = sym (ap (λ b. cond b l.first l.second) is) ∙ all.0.four
    either false is later some = later some

has_other : (i : Instruction) (l : Laid i.decoded) (refs : List Ref) → AllByRecursion (StandsIn i l) refs →
    list_any (λ r. not (on_displacement i r)) refs ≡ true → l.second ≡ 4
has_other i l [] all some = absurd (cc)
has_other i l (r ∷ rs) all some = either (on_displacement i r) refl (has_other i l rs all.1) some
  where
    either : (b : Bool) → on_displacement i r ≡ b →
        (list_any (λ r. not (on_displacement i r)) rs ≡ true → l.second ≡ 4) →
        (not b || list_any (λ r. not (on_displacement i r)) rs) ≡ true → l.second ≡ 4
    either true is later some = later some
    either false is later some = sym (ap (λ b. cond b l.first l.second) is) ∙ all.0.four

within_at : (at k : ℕ) → k < 4 → is_within at (at + k) ≡ true
within_at at k lt = rw (le-leb at (at + k) (omega arith), lt-ltb (at + k) (at + 4) (omega arith)) refl

within_below : (at k : ℕ) → k < at → is_within at k ≡ false
within_below at k lt = rw (lt-leb at k lt) refl

within_above : (at k : ℕ) → at + 4 ≤ k → is_within at k ≡ false
within_above at k le = rw (le-ltb k (at + 4) le) (none (nat_le at k))
  where
    none : (b : Bool) → (b && false) ≡ false
    none true = refl
    none false = refl

hits : (a b x y : Bool) → x ≡ false → y ≡ false → ((a && x) || (b && y)) ≡ false
hits true true x y p q = cc
hits true false x y p q = cc
hits false true x y p q = cc
hits false false x y p q = refl

-- Of two fields, the second behind the first: what stands on the first, on the second, and before both.
abbrev covers_field : (a b : Bool) → ℕ → ℕ → ℕ → Bool
covers_field a b x y k = (a && is_within x k) || (b && is_within y k)

on_first : (a b : Bool) (x n k : ℕ) → (a ≡ true → n ≡ 4) → k < n → covers_field a b x (x + n) (x + k) ≡ a
on_first true b x n k four lt =
    let n4 : n ≡ 4 = four refl in
    rw (within_at x k (omega arith)) refl
on_first false b x n k four lt = rw (within_below (x + n) (x + k) (omega arith)) (none b)
  where
    none : (b : Bool) → (b && false) ≡ false
    none true = refl
    none false = refl

on_second : (a b : Bool) (x n m k : ℕ) → (a ≡ true → n ≡ 4) → (b ≡ true → m ≡ 4) → k < m →
    covers_field a b x (x + n) (x + n + k) ≡ b
on_second true b x n m k four other lt =
    let n4 : n ≡ 4 = four refl in
    rw (within_above x (x + n + k) (omega arith)) (rest b other)
  where
    rest : (b : Bool) → (b ≡ true → m ≡ 4) → (b && is_within (x + n) (x + n + k)) ≡ b
    rest true other = let m4 : m ≡ 4 = other refl in within_at (x + n) k (omega arith)
    rest false other = refl
on_second false true x n m k four other lt =
    let m4 : m ≡ 4 = other refl in within_at (x + n) k (omega arith)
on_second false false x n m k four other lt = refl

before_both : (a b : Bool) (x n k : ℕ) → k < x → covers_field a b x (x + n) k ≡ false
before_both a b x n k lt = hits a b (is_within x k) (is_within (x + n) k) (within_below x k lt)
    (within_below (x + n) k (omega arith))

-- ---- the parts of wide forms
pub offset_four : (at n : ℕ) → n ≡ 4 → offset_in (field_of at n) ≡ at
offset_four at n four = rw four refl

field_bytes_are : (w : List ℕ) (at n : ℕ) → field_bytes w (field_of at n) ≡ take n (drop at w)
field_bytes_are w at n = either (n == 0) refl
  where
    either : (b : Bool) → (n == 0) ≡ b →
        field_bytes w (cond b None (Some (record { offset = at; width = n }))) ≡ take n (drop at w)
    either true is = let none : n ≡ 0 = eqb-true n 0 is in rw none refl
    either false is = refl

displacement_is : (w : List ℕ) (d : Decoded) (at n : ℕ) → d.fields.disp ≡ field_of at n →
    wide_displacement w d ≡ number w true 4 at n
displacement_is w d at n is =
    ap (λ o. widened 4 (field_bytes w o)) is ∙ ap (widened 4) (field_bytes_are w at n)

abbrev count_in : Decoded → ℕ
count_in d = byte_count (full_width_of d.prefixes.operand_size)

immediate_is : (w : List ℕ) (d : Decoded) (at n : ℕ) → d.fields.imm ≡ field_of at n →
    wide_immediate w d ≡ number w (has_wide_opcode (opcode_in w d)) (count_in d) at n
immediate_is w d at n is =
    ap (λ (xs : List ℕ). cond (has_wide_opcode (opcode_in w d)) (widened (count_in d) xs) xs)
    (ap (field_bytes w) is ∙ field_bytes_are w at n)

form_is : (w : List ℕ) (d : Decoded) →
    wide_bytes w d ≡ wide_head w d ++ wide_addressing w d ++ wide_displacement w d ++ wide_immediate w d
unfolding wide_bytes
form_is w d = refl

displacement_field : (w : List ℕ) (d : Decoded) →
    (wide_fields w d).disp ≡ field_of (displacement_begin w d) (length (wide_displacement w d))
unfolding wide_fields
displacement_field w d = refl

immediate_field : (w : List ℕ) (d : Decoded) →
    (wide_fields w d).imm ≡ field_of (immediate_begin w d) (length (wide_immediate w d))
unfolding wide_fields
immediate_field w d = refl

-- the opcode bytes are those of the wide form's head
opcode_is : (w : List ℕ) (d : Decoded) → d.fields.opcode_end ≤ length w →
    take d.fields.opcode_end (wide_bytes w d) ≡ wide_head w d
opcode_is w d fits =
    ap (take d.fields.opcode_end) (form_is w d
    ∙ append_assoc (wide_head w d ++ wide_addressing w d) (wide_displacement w d) (wide_immediate w d)
    ∙ append_assoc (wide_head w d) (wide_addressing w d) (wide_displacement w d ++ wide_immediate w d))
    ∙ take_at (wide_head w d) (wide_addressing w d ++ (wide_displacement w d ++ wide_immediate w d))
    d.fields.opcode_end (omega (
      arith,
      length-take d.fields.opcode_end w,
      length-set (take d.fields.opcode_end w) d.prefixes.count,
    ))

-- ---- an instruction and the running one
module _ (i run : Instruction) (x : RunsAs i run) where
  abbrev l : Laid i.decoded
  l = x.laid

  abbrev on_one : Bool
  on_one = list_any (on_displacement i) i.references

  abbrev on_other : Bool
  on_other = list_any (λ r. not (on_displacement i r)) i.references

  all_in : AllByRecursion (StandsIn i x.laid) i.references
  all_in = all_stand i x.laid i.references x.stands

  four_one : on_one ≡ true → l.first ≡ 4
  four_one = has_one i x.laid i.references all_in

  four_other : on_other ≡ true → l.second ≡ 4
  four_other = has_other i x.laid i.references all_in

  -- the bytes of the object that are covered
  covered : (k : ℕ) → list_any (covers (i.place + k)) i.references
      ≡ covers_field on_one on_other l.begin (l.begin + l.first) k
  covered k =
      ap (list_any (covers (i.place + k))) (sym (map-id i.references))
      ∙ covered_by (on_displacement i) (λ r. r) i.place l.begin (l.begin + l.first) k i.references
      (weaker (λ r s. s.at) i.references all_in)

  same_at : (k : ℕ) → k < i.decoded.length → covers_field on_one on_other l.begin (l.begin + l.first) k ≡ false →
      byte_in run.bytes k ≡ byte_in i.bytes k
  same_at k lt none = x.same k lt (covered k ∙ none)

  blank_at : (k : ℕ) → k < i.decoded.length → covers_field on_one on_other l.begin (l.begin + l.first) k ≡ true →
      byte_in i.bytes k ≡ 0
  blank_at k lt some = x.blank k lt (covered k ∙ some)

  before_same : (k : ℕ) → k < l.begin → byte_in run.bytes k ≡ byte_in i.bytes k
  before_same k lt =
      same_at k (omega (arith, l.total)) (before_both on_one on_other l.begin l.first k lt)

  pub prefixes_same : take i.decoded.prefixes.count i.bytes ≡ take run.decoded.prefixes.count run.bytes
  prefixes_same =
      let n : ℕ = i.decoded.prefixes.count in
      let short : n < l.begin = omega (arith, l.opcode, l.starts) in
      let a : length (take n i.bytes) ≡ n = omega (arith, length-take n i.bytes, x.size, l.total) in
      let b : length (take n run.bytes) ≡ n = omega (arith, length-take n run.bytes, x.run_size, l.total) in
      ext_get_or 0 (take n i.bytes) (take n run.bytes) (a ∙ sym b) (λ k lt.
      get_or-take n i.bytes k 0 (omega arith) ∙ sym (before_same k (omega arith))
      ∙ sym (get_or-take n run.bytes k 0 (omega arith)))
      ∙ ap (λ (p : Prefixes). take p.count run.bytes) (sym x.filled.prefixes)

  -- ---- the wide form
  abbrev head : List ℕ
  head = wide_head i.bytes i.decoded

  abbrev addressing : List ℕ
  addressing = wide_addressing i.bytes i.decoded

  abbrev one : List ℕ
  one = wide_displacement i.bytes i.decoded

  abbrev other : List ℕ
  other = wide_immediate i.bytes i.decoded

  abbrev is_wide : Bool
  is_wide = has_wide_opcode (opcode_in i.bytes i.decoded)

  one_is : one ≡ number i.bytes true 4 l.begin l.first
  one_is = displacement_is i.bytes i.decoded l.begin l.first l.displacement

  other_is : other ≡ number i.bytes is_wide (count_in i.decoded) (l.begin + l.first) l.second
  other_is = immediate_is i.bytes i.decoded (l.begin + l.first) l.second l.immediate

  run_one : wide_displacement run.bytes run.decoded ≡ number run.bytes true 4 l.begin l.first
  run_one = displacement_is run.bytes run.decoded l.begin l.first
      (ap (λ (f : Fields). f.disp) x.filled.fields ∙ l.displacement)

  opcode_same : opcode_in run.bytes run.decoded ≡ opcode_in i.bytes i.decoded
  opcode_same =
      ap (λ (p : Prefixes). byte_in run.bytes p.count) x.filled.prefixes
      ∙ before_same i.decoded.prefixes.count (omega (arith, l.opcode, l.starts))

  run_other : wide_immediate run.bytes run.decoded
      ≡ number run.bytes is_wide (count_in i.decoded) (l.begin + l.first) l.second
  run_other =
      immediate_is run.bytes run.decoded (l.begin + l.first) l.second
      (ap (λ (f : Fields). f.imm) x.filled.fields ∙ l.immediate)
      ∙ ap (λ k. number run.bytes (has_wide_opcode k) (count_in run.decoded) (l.begin + l.first) l.second) opcode_same
      ∙ ap (λ (p : Prefixes). number run.bytes is_wide (byte_count (full_width_of p.operand_size)) (l.begin + l.first)
      l.second) x.filled.prefixes

  one_long : l.first ≡ 4 → length one ≡ 4
  one_long n4 =
      ap length (one_is ∙ number_four i.bytes true 4 l.begin l.first (omega (arith, x.size, l.total)) n4)
      ∙ length_part i.bytes l.begin l.first (omega (arith, x.size, l.total)) ∙ n4

  other_long : l.second ≡ 4 → length other ≡ 4
  other_long n4 =
      ap length (other_is ∙ number_four i.bytes is_wide (count_in i.decoded) (l.begin + l.first) l.second
      (omega (arith, x.size, l.total)) n4)
      ∙ length_part i.bytes (l.begin + l.first) l.second (omega (arith, x.size, l.total)) ∙ n4

  abbrev one_begin : ℕ
  one_begin = displacement_begin i.bytes i.decoded

  -- where a reference stands in the wide form
  moved_at : (r : Ref) → StandsIn i x.laid r →
      (moved i r).offset ≡ i.place + cond (on_displacement i r) one_begin (one_begin + length one)
  moved_at r s = either (on_displacement i r) s.four
    where
      either : (b : Bool) → cond b l.first l.second ≡ 4 →
          i.place + offset_in (cond b (form_fields i).disp (form_fields i).imm)
          ≡ i.place + cond b one_begin (one_begin + length one)
      either true four =
          ap (λ o. i.place + offset_in o) (displacement_field i.bytes i.decoded)
          ∙ ap (λ k. i.place + k) (offset_four one_begin (length one) (one_long four))
      either false four =
          ap (λ o. i.place + offset_in o) (immediate_field i.bytes i.decoded)
          ∙ ap (λ k. i.place + k) (offset_four (one_begin + length one) (length other) (other_long four))

  moved_covered : (k : ℕ) → list_any (covers (i.place + k)) (moved_references i)
      ≡ covers_field on_one on_other one_begin (one_begin + length one) k
  moved_covered k =
      covered_by (on_displacement i) (moved i) i.place one_begin (one_begin + length one) k i.references
      (weaker (λ r s. moved_at r s) i.references all_in)

  covered_from : (q at k : ℕ) → q ≡ i.place + at → list_any (covers (q + k)) (moved_references i)
      ≡ covers_field on_one on_other one_begin (one_begin + length one) (at + k)
  covered_from q at k is =
      ap (λ n. list_any (covers n) (moved_references i)) (the_sum q at k is) ∙ moved_covered (at + k)
    where
      the_sum : (q at k : ℕ) → q ≡ i.place + at → q + k ≡ i.place + (at + k)
      the_sum q at k is = omega arith

  unblanked : (q at : ℕ) (xs : List ℕ) → q ≡ i.place + at → at + length xs ≤ one_begin →
      blanked (moved_references i) q xs ≡ xs
  unblanked q at xs is fits =
      blanked_nowhere (moved_references i) q xs (λ k lt.
      covered_from q at k is ∙ before_both on_one on_other one_begin (length one) (at + k) (omega (arith, fits, lt)))

  one_blanked : (q : ℕ) → q ≡ i.place + one_begin →
      blanked (moved_references i) q (wide_displacement run.bytes run.decoded) ≡ one
  one_blanked q is =
      ap (blanked (moved_references i) q) run_one
      ∙ blanked_number (moved_references i) q i.bytes run.bytes true 4 l.begin l.first on_one
      (omega (arith, x.size, l.total)) (x.run_size ∙ sym x.size) four_one
      (λ k lt. covered_from q one_begin k is
      ∙ on_first on_one on_other one_begin (length one) k (λ on. one_long (four_one on))
      (omega (arith, lt, ap length one_is)))
      (λ k lt none. same_at (l.begin + k) (omega (arith, l.total, lt))
      (on_first on_one on_other l.begin l.first k four_one lt ∙ none))
      (λ k lt some. blank_at (l.begin + k) (omega (arith, l.total, lt))
      (on_first on_one on_other l.begin l.first k four_one lt ∙ some))
      ∙ sym one_is

  other_blanked : (q : ℕ) → q ≡ i.place + (one_begin + length one) →
      blanked (moved_references i) q (wide_immediate run.bytes run.decoded) ≡ other
  other_blanked q is =
      ap (blanked (moved_references i) q) run_other
      ∙ blanked_number (moved_references i) q i.bytes run.bytes is_wide (count_in i.decoded) (l.begin + l.first)
      l.second on_other (omega (arith, x.size, l.total)) (x.run_size ∙ sym x.size) four_other
      (λ k lt. covered_from q (one_begin + length one) k is
      ∙ on_second on_one on_other one_begin (length one) (length other) k (λ on. one_long (four_one on))
      (λ on. other_long (four_other on)) (omega (arith, lt, ap length other_is)))
      (λ k lt none. same_at (l.begin + l.first + k) (omega (arith, l.total, lt))
      (on_second on_one on_other l.begin l.first l.second k four_one four_other lt ∙ none))
      (λ k lt some. blank_at (l.begin + l.first + k) (omega (arith, l.total, lt))
      (on_second on_one on_other l.begin l.first l.second k four_one four_other lt ∙ some))
      ∙ sym other_is

  pub form_same : blanked (moved_references i) i.place (form_bytes run) ≡ form_bytes i
  form_same =
      let m : List Ref = moved_references i in
      ap (blanked m i.place) (form_is run.bytes run.decoded)
      ∙ blanked_parts m i.place
      (wide_head run.bytes run.decoded ++ wide_addressing run.bytes run.decoded
      ++ wide_displacement run.bytes run.decoded)
      (wide_immediate run.bytes run.decoded) (head ++ addressing ++ one) other
      (blanked_parts m i.place (wide_head run.bytes run.decoded ++ wide_addressing run.bytes run.decoded)
      (wide_displacement run.bytes run.decoded) (head ++ addressing) one
      (blanked_parts m i.place (wide_head run.bytes run.decoded) (wide_addressing run.bytes run.decoded) head addressing
      (ap (blanked m i.place) x.filled.head ∙ unblanked i.place 0 head (omega arith) (omega arith))
      (ap (blanked m (i.place + length head)) x.filled.addressing
      ∙ unblanked (i.place + length head) (length head) addressing refl (omega arith)))
      (one_blanked (i.place + length (head ++ addressing)) (omega (arith, length-append head addressing))))
      (other_blanked (i.place + length (head ++ addressing ++ one))
      (omega (arith, length-append head addressing, length-append (head ++ addressing) one)))
      ∙ sym (form_is i.bytes i.decoded)

  pub opcode_bytes_same : opcode_bytes i ≡ opcode_bytes run
  opcode_bytes_same =
      opcode_is i.bytes i.decoded (omega (arith, x.size, l.total, l.starts))
      ∙ sym x.filled.head
      ∙ sym (opcode_is run.bytes run.decoded (omega (
        arith,
        x.run_size,
        l.total,
        l.starts,
        ap (λ (f : Fields). f.opcode_end) x.filled.fields,
      )))

  four_there : (at n : ℕ) → n ≡ 4 → has_four (field_of at n) ≡ true
  four_there at n is = rw is refl

  full_at : (r : Ref) → StandsIn i x.laid r → is_full i run r ≡ true
  full_at r s = either (on_displacement i r) s.four
    where
      either : (b : Bool) → cond b l.first l.second ≡ 4 →
          has_four (cond b run.decoded.fields.disp run.decoded.fields.imm) ≡ true
      either true four =
          ap (λ (f : Fields). has_four f.disp) x.filled.fields ∙ ap has_four l.displacement
          ∙ four_there l.begin l.first four
      either false four =
          ap (λ (f : Fields). has_four f.imm) x.filled.fields ∙ ap has_four l.immediate
          ∙ four_there (l.begin + l.first) l.second four

  pub all_full : All (λ r. IsTrue (is_full i run r)) i.references
  all_full =
      All-from_recursion (λ r. IsTrue (is_full i run r)) i.references (weaker (λ r s. full_at r s) i.references all_in)
