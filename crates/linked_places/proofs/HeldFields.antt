-- The fields of a section's references stand whole in its bytes and apart, where nothing is wrong with an object.
use Rattle.std.proofs.Common.{◌≡◌, ◌≢◌, ℕ, zero, suc, ◌+◌, ◌<◌, ◌≤◌, ◌⊎◌, Bool, true, false, not, ◌&&◌, ◌==◌, cond}
use Rattle.std.proofs.Common.{List, [], ◌∷◌, ◌++◌, map, None, refl, sym, ap, subst, ◌∙◌, inl, inr, arith}
use Rattle.std.specs.Prelude.{Ok, Some}
use Rattle.std.specs.List.{AllZip, filter}
use Rattle.std.specs.Cmp.Lexicographic.{bytes_decides}
use Rattle.std.proofs.lemmas.Bool.{eq-eqb, eqb-true, lt-ltb}
use Rattle.std.proofs.lemmas.Bool.Decides.{nat_tests}
use Rattle.std.proofs.lemmas.Map.Made.{AllPairs-from_IsDistinct}
use Rattle.i386_reloc.specs.Numbers.{SHT_NOBITS}
use Rattle.i386_reloc.specs.SectionHeader.{SectionHeader}
use Rattle.i386_reloc.specs.Reloc.{Reloc}
use Rattle.i386_reloc.specs.Below.{all_below, any_below, each_below, first_below}
use Rattle.i386_reloc.specs.Fields.{changes, entry_count, patches_loaded, relocation, section_count, section_header}
use Rattle.i386_reloc.specs.Fields.{is_loaded}
use Rattle.i386_reloc.specs.Rules.{has_field, is_met_before, is_met_by, is_placed, meets, object_fault}
use Rattle.i386_reloc.specs.Rules.{relocation_fault, relocations_fault}
use Rattle.i386_reloc.specs.BelowLaws.{none_below, none_first, none_second}
use Rattle.i386_reloc.specs.declared.types.Class.TheVariants.{Zero, Code, Writable, Strings, ReadOnly}
use Rattle.i386_reloc.specs.declared.types.NormalSection.{NormalSection}
use Rattle.i386_reloc.specs.declared.types.Ref.{Ref}
use Rattle.i386_reloc.specs.declared.types.Target.{Target}
use Rattle.i386_reloc.specs.Classes.{class_of, is_strings}
use Rattle.i386_reloc.specs.Normal.{loaded_below, loaded_sections, name_of, normal_section, section_named}
use Rattle.i386_reloc.specs.Refused.{normal_fault}
use Rattle.i386_reloc.specs.References.{by_offset, changes_at, fields_of, is_outside, is_section_symbol, reference_of}
use Rattle.i386_reloc.specs.References.{reference_to, references_of, relocations_of, symbol_of}
use Rattle.i386_reloc.specs.Sections.{sections_of}
use Rattle.i386_reloc.specs.Whole.{IsWhole}
use Rattle.i386_reloc.specs.laws.NameLaws.{distinct_names, all_named}
use Rattle.linked_places.proofs.HeldLists.{Pairs}
use Rattle.linked_places.proofs.Members.{Has, all_has, each_has, filter_has, has_either, map_has}
use Rattle.linked_places.proofs.HeldLists.{map_pairs, pairs_filter, pairs_of, two_of}
use Rattle.linked_places.proofs.ReadObjects.{SectionsAreWhole, is_file}
use Rattle.linked_places.proofs.HeldWords.{IsApart, none_first as no_first, none_later as no_second}

-- ---- members of what numbers below a bound have
below_has : {X : Type 0} (f : ℕ → List X) (n : ℕ) (x : X) → Has (all_below f n) x → (i : ℕ) × (i < n) × Has (f i) x
below_has f zero x has = absurd has
below_has f (suc n) x has =
    elim (has_either (all_below f n) (f n) x has) [
      | inl before ↦ let (i, lt, inner) = below_has f n x before in (i, omega (arith, lt), inner)
      | inr last ↦ (n, omega arith, last)
    ]

each_below_has : {X : Type 0} (f : ℕ → X) (n : ℕ) (x : X) → Has (each_below f n) x → (i : ℕ) × (i < n) × (f i ≡ x)
each_below_has f zero x has = absurd has
each_below_has f (suc n) x has =
    elim (has_either (each_below f n) (f n ∷ []) x has) [
      | inl before ↦ let (i, lt, is) = each_below_has f n x before in (i, omega (arith, lt), is)
      | inr last ↦ elim last [ inl is ↦ (n, omega arith, is) | inr none ↦ absurd none ]
    ]

and_left : (a b : Bool) → a && b ≡ true → a ≡ true
and_left true b both = refl
and_left false b both = both

and_right : (a b : Bool) → a && b ≡ true → b ≡ true
and_right true b both = both
and_right false b both = absurd cc

-- ---- what holds of each two, the earlier one first, of lists that are joined
pairs_append : {X : Type 0} (R : X → X → Type 0) (xs ys : List X) → Pairs R xs → Pairs R ys
    → ((x y : X) → Has xs x → Has ys y → R x y) → Pairs R (xs ++ ys)
pairs_append R [] ys one other both = other
pairs_append R (x ∷ xs) ys one other both = (
  λ z has. elim (has_either xs ys z has) [
    | inl first ↦ one.0 z first
    | inr second ↦ both x z (inl refl) second
  ],
  pairs_append R xs ys one.1 other (λ a b has_a has_b. both a b (inr has_a) has_b),
)

pairs_below : {X : Type 0} (R : X → X → Type 0) (f : ℕ → List X) (n : ℕ)
    → ((i : ℕ) → i < n → Pairs R (f i))
    → ((i j : ℕ) (x y : X) → i < j → j < n → Has (f i) x → Has (f j) y → R x y)
    → Pairs R (all_below f n)
pairs_below R f zero each both = tt
pairs_below R f (suc n) each both =
    pairs_append R (all_below f n) (f n)
    (pairs_below R f n (λ i lt. each i (omega (arith, lt))) (λ i j x y lt low. both i j x y lt (omega (arith, low))))
    (each n (omega arith))
    (λ x y has_x has_y. let (i, low, inner) = below_has f n x has_x in both i n x y low (omega arith) inner has_y)

pairs_each_below : {X : Type 0} (R : X → X → Type 0) (f : ℕ → X) (n : ℕ)
    → ((i j : ℕ) → i < j → j < n → R (f i) (f j)) → Pairs R (each_below f n)
pairs_each_below R f zero both = tt
pairs_each_below R f (suc n) both =
    pairs_append R (each_below f n) (f n ∷ [])
    (pairs_each_below R f n (λ i j lt low. both i j lt (omega (arith, low))))
    (λ z has. absurd has, tt)
    (λ x y has_x has_y.
    let (i, low, is) = each_below_has f n x has_x in
    elim has_y [
      | inl same ↦ subst (λ v. R x v) same (subst (λ v. R v (f n)) is (both i n low (omega arith)))
      | inr none ↦ absurd none
    ])

-- ---- what a file that is read well says of each relocation
relocations_kept : (bytes : List ℕ) → object_fault bytes ≡ None
    → first_below (relocations_fault bytes) (section_count bytes) ≡ None
unfolding object_fault
relocations_kept bytes e = grind (arith, none_first, none_second)

relocation_kept : (bytes : List ℕ) (j k : ℕ) → object_fault bytes ≡ None → j < section_count bytes
    → k < entry_count bytes j → relocation_fault bytes j k ≡ None
unfolding relocations_fault
relocation_kept bytes j k e table entry =
    none_below (relocation_fault bytes j) (entry_count bytes j)
    (none_below (relocations_fault bytes) (section_count bytes) (relocations_kept bytes e) j table) k entry

stored : (bytes : List ℕ) (j k : ℕ) → relocation_fault bytes j k ≡ None
    → ((section_header bytes (section_header bytes j).info).kind == SHT_NOBITS) ≡ false
unfolding relocation_fault
stored bytes j k e = grind arith

placed : (bytes : List ℕ) (j k : ℕ) → relocation_fault bytes j k ≡ None → is_placed bytes j k ≡ true
unfolding relocation_fault
placed bytes j k e = grind arith

field_low : (bytes : List ℕ) (j k : ℕ) → is_placed bytes j k ≡ true → has_field (relocation bytes j k) ≡ true
    → (relocation bytes j k).offset + 4 ≤ (section_header bytes (section_header bytes j).info).size
unfolding is_placed
field_low bytes j k e field = grind (arith, nat_tests)

not_true : (b : Bool) → not b ≡ true → b ≡ false
not_true true e = absurd cc
not_true false e = refl

unmet : (bytes : List ℕ) (j k : ℕ) → is_placed bytes j k ≡ true → has_field (relocation bytes j k) ≡ true
    → is_met_before bytes (section_header bytes j).info (relocation bytes j k).offset j k ≡ false
unfolding is_placed
unmet bytes j k e field =
    not_true (is_met_before bytes (section_header bytes j).info (relocation bytes j k).offset j k)
    (and_right _ _ (rw field at e))

changed_section : (bytes : List ℕ) (i j : ℕ) → changes bytes i j ≡ true → (section_header bytes j).info ≡ i
unfolding changes
changed_section bytes i j e =
    eqb-true (section_header bytes j).info i (and_right (patches_loaded bytes j) ((section_header bytes j).info == i) e)

-- ---- no entry before one meets its field
any_below_none : (test : ℕ → Bool) (n k : ℕ) → any_below test n ≡ false → k < n → test k ≡ false
any_below_none test zero k none low = absurd (omega (arith, low))
any_below_none test (suc n) k none low =
    elim (last_or_before k n low) [
      | inl same ↦ ap test same ∙ no_second (any_below test n) (test n) none
      | inr before ↦ any_below_none test n k (no_first (any_below test n) (test n) none) before
    ]
  where
    last_or_before : (k n : ℕ) → k < suc n → (k ≡ n) ⊎ (k < n)
    last_or_before k n low = grind arith

-- relocations whose fields share no byte, where both have one
abbrev AreClear : Reloc → Reloc → Type 0
AreClear a b = has_field a ≡ true → has_field b ≡ true → meets b.offset a.offset ≡ false

and_third : (a b c : Bool) → a ≡ true → b ≡ true → a && b && c ≡ false → c ≡ false
and_third true true c one two none = none
and_third false b c one two none = absurd cc
and_third true false c one two none = absurd cc

clear_of : (bytes : List ℕ) (i offset j k : ℕ) → (section_header bytes j).info ≡ i
    → is_met_by bytes i offset j k ≡ false → has_field (relocation bytes j k) ≡ true
    → meets offset (relocation bytes j k).offset ≡ false
clear_of bytes i offset j k at none field =
    and_third ((section_header bytes j).info == i) (has_field (relocation bytes j k))
    (meets offset (relocation bytes j k).offset) (eq-eqb (section_header bytes j).info i at) field none

module _ (bytes : List ℕ) (i : ℕ) (whole : object_fault bytes ≡ None) where
  later_clear : (j k l m : ℕ) → changes bytes i j ≡ true → changes bytes i l ≡ true → l < section_count bytes
      → m < entry_count bytes l → k < entry_count bytes j
      → (j < l) ⊎ ((j ≡ l) × (k < m)) → AreClear (relocation bytes j k) (relocation bytes l m)
  unfolding is_met_before
  later_clear j k l m here there table entry own before field_a field_b =
      let offset = (relocation bytes l m).offset in
      let at_j : (section_header bytes j).info ≡ i = changed_section bytes i j here in
      let at_l : (section_header bytes l).info ≡ i = changed_section bytes i l there in
      let none = unmet bytes l m (placed bytes l m (relocation_kept bytes l m whole table entry)) field_b in
      let of_i : is_met_before bytes i offset l m ≡ false =
      subst (λ n. is_met_before bytes n offset l m ≡ false) at_l none in
      elim before [
        | inl earlier ↦
            let row = any_below_none (λ j. any_below (is_met_by bytes i offset j) (entry_count bytes j)) l j
            (no_first _ _ of_i) earlier in
            clear_of bytes i offset j k at_j
            (any_below_none (is_met_by bytes i offset j) (entry_count bytes j) k row own) field_a
        | inr same ↦
            let e = same.0 in
            let lower = same.1 in
            let row : is_met_by bytes i offset l k ≡ false =
            any_below_none (is_met_by bytes i offset l) m k (no_second _ _ of_i) lower in
            clear_of bytes i offset j k at_j (subst (λ n. is_met_by bytes i offset n k ≡ false) (sym e) row) field_a
      ]

  abbrev entries : ℕ → List Reloc
  entries j = cond (changes bytes i j) (each_below (relocation bytes j) (entry_count bytes j)) []

  record IsEntryOf (j : ℕ) (r : Reloc) : Type 0 where
    entry : ℕ
    low : entry < entry_count bytes j
    changed : changes bytes i j ≡ true
    is : relocation bytes j entry ≡ r

  entry_of : (j : ℕ) (r : Reloc) (b : Bool) → changes bytes i j ≡ b
      → Has (cond b (each_below (relocation bytes j) (entry_count bytes j)) []) r → IsEntryOf j r
  entry_of j r false is has = absurd has
  entry_of j r true is has =
      let (k, lt, same) = each_below_has (relocation bytes j) (entry_count bytes j) r has in
      record { entry = k; low = lt; changed = is; is = same }

  entries_clear : (j : ℕ) → j < section_count bytes → (b : Bool) → changes bytes i j ≡ b
      → Pairs AreClear (cond b (each_below (relocation bytes j) (entry_count bytes j)) [])
  entries_clear j table false is = tt
  entries_clear j table true is =
      pairs_each_below AreClear (relocation bytes j) (entry_count bytes j)
      (λ k m lt low. later_clear j k j m is is table low (omega (arith, lt, low)) (inr (refl, lt)))

  all_clear : Pairs AreClear (relocations_of bytes i)
  unfolding relocations_of
  all_clear =
      pairs_below AreClear entries (section_count bytes)
      (λ j table. entries_clear j table (changes bytes i j) refl)
      (λ j l x y lt table has_x has_y.
      let a = entry_of j x (changes bytes i j) refl has_x in
      let b = entry_of l y (changes bytes i l) refl has_y in
      subst (λ v. AreClear v y) a.is (subst (λ v. AreClear (relocation bytes j a.entry) v) b.is
      (later_clear j a.entry l b.entry a.changed b.changed table b.low a.low (inl lt))))

-- ---- the fields of a section, by offset
offset_changed : (offset : ℕ) (r : Reloc) → changes_at offset r ≡ true → r.offset ≡ offset
offset_changed offset r e = eqb-true r.offset offset (and_right (has_field r) (r.offset == offset) e)

field_changed : (offset : ℕ) (r : Reloc) → changes_at offset r ≡ true → has_field r ≡ true
field_changed offset r e = and_left (has_field r) (r.offset == offset) e

apart_offsets : (a b : ℕ) → meets a b ≡ false → (a + 4 ≤ b) ⊎ (b + 4 ≤ a)
apart_offsets a b none = elim (cases a b) [
  | inl low ↦ inl low
  | inr rest ↦ elim rest [
    | inl high ↦ inr high
    | inr both ↦ absurd (let x = lt-ltb a (b + 4) both.0 in let y = lt-ltb b (a + 4) both.1 in
        let c : true ≡ false = rw (x, y) at none in cc)
  ]
]
  where
    cases : (a b : ℕ) → (a + 4 ≤ b) ⊎ ((b + 4 ≤ a) ⊎ ((a < b + 4) × (b < a + 4)))
    cases a b = grind arith

abbrev ApartAt : ℕ → ℕ → Type 0
ApartAt a b = (a + 4 ≤ b) ⊎ (b + 4 ≤ a)

turned : (a b : ℕ) → ApartAt a b → ApartAt b a
turned a b (inl low) = inr low
turned a b (inr high) = inl high

abbrev AreApartFields : Reloc → Reloc → Type 0
AreApartFields a b = ApartAt a.offset b.offset

clear_apart : (a b : Reloc) → has_field a ≡ true → has_field b ≡ true → AreClear a b → AreApartFields a b
clear_apart a b field_a field_b clear =
    turned b.offset a.offset (apart_offsets b.offset a.offset (clear field_a field_b))

-- two at one offset aren't apart
never_same : (a b : ℕ) → a ≡ b → ApartAt a b → ⊥
never_same a b same (inl low) = absurd (omega (arith, same, low))
never_same a b same (inr high) = absurd (omega (arith, same, high))

only_one : (offset : ℕ) (rs : List Reloc) → Pairs AreClear (filter (changes_at offset) rs)
    → ((r : Reloc) → Has (filter (changes_at offset) rs) r → changes_at offset r ≡ true)
    → Pairs AreApartFields (filter (changes_at offset) rs)
only_one offset rs pairs all = go (filter (changes_at offset) rs) pairs all
  where
    go : (xs : List Reloc) → Pairs AreClear xs → ((r : Reloc) → Has xs r → changes_at offset r ≡ true)
        → Pairs AreApartFields xs
    go [] pairs all = tt
    go (x ∷ xs) pairs all = (
      λ y has.
          let at_x = all x (inl refl) in
          let at_y = all y (inr has) in
          clear_apart x y (field_changed offset x at_x) (field_changed offset y at_y) (pairs.0 y has),
      go xs pairs.1 (λ r has. all r (inr has)),
    )

of_two : (rs : List Reloc) (a b : ℕ) (x y : Reloc) → Pairs AreClear rs → a < b → Has (filter (changes_at a) rs) x
    → Has (filter (changes_at b) rs) y → AreApartFields x y
of_two rs a b x y pairs lt has_x has_y =
    let (in_x, at_x) = filter_has (changes_at a) rs x has_x in
    let (in_y, at_y) = filter_has (changes_at b) rs y has_y in
    let offset_x = offset_changed a x at_x in
    let offset_y = offset_changed b y at_y in
    let field_x = field_changed a x at_x in
    let field_y = field_changed b y at_y in
    elim (two_of AreClear rs x y pairs in_x in_y) [
      | inl same ↦ absurd (let e = ap (λ (r : Reloc). r.offset) same in omega (arith, e, offset_x, offset_y, lt))
      | inr either ↦ elim either [
        | inl first ↦ clear_apart x y field_x field_y first
        | inr second ↦ turned y.offset x.offset (clear_apart y x field_y field_x second)
      ]
    ]

fields_apart : (rs : List Reloc) (n : ℕ) → Pairs AreClear rs → Pairs AreApartFields (by_offset rs n)
unfolding by_offset
fields_apart rs n pairs =
    pairs_below AreApartFields (λ offset. filter (changes_at offset) rs) n
    (λ offset low. only_one offset rs (pairs_filter (changes_at offset) AreClear rs pairs)
    (λ r has. (filter_has (changes_at offset) rs r has).1))
    (λ a b x y lt low has_x has_y. of_two rs a b x y pairs lt has_x has_y)

-- ---- where a reference stands
offset_by : (r : Reloc) (outside texts named : Bool) (out by_addend by_value inside : Target) (a b c d : ℕ)
    → (cond outside (reference_to r out a)
    (cond (texts && named) (reference_to r by_addend b)
    (cond texts (reference_to r by_value c) (reference_to r inside d)))).offset ≡ r.offset
offset_by r true texts named out by_addend by_value inside a b c d = refl
offset_by r false true true out by_addend by_value inside a b c d = refl
offset_by r false true false out by_addend by_value inside a b c d = refl
offset_by r false false named out by_addend by_value inside a b c d = refl

offset_is : (bytes : List ℕ) (i : ℕ) (r : Reloc) → (reference_of bytes i r).offset ≡ r.offset
unfolding reference_of
offset_is bytes i r =
    let symbol = symbol_of bytes r in
    offset_by r (is_outside symbol) (is_strings bytes symbol.section) (is_section_symbol symbol) _ _ _ _ _ _ _ _

pairs_over : {X Y : Type 0} (f : X → Y) (R : X → X → Type 0) (S : Y → Y → Type 0)
    → ((a b : X) → R a b → S (f a) (f b)) → (xs : List X) → Pairs R xs → Pairs S (map f xs)
pairs_over f R S keeps [] pairs = tt
pairs_over f R S keeps (a ∷ xs) pairs = (
  λ y has. let (x, has_x, is) = map_has f xs y has in subst (S (f a)) is (keeps a x (pairs.0 x has_x)),
  pairs_over f R S keeps xs pairs.1,
)

references_apart : (bytes : List ℕ) (i : ℕ) → object_fault bytes ≡ None → Pairs IsApart (references_of bytes i)
unfolding references_of fields_of
references_apart bytes i whole =
    pairs_over (reference_of bytes i) AreApartFields IsApart
    (λ a b apart. subst (λ n. ApartAt n (reference_of bytes i b).offset) (sym (offset_is bytes i a))
    (subst (λ n. ApartAt a.offset n) (sym (offset_is bytes i b)) apart))
    (fields_of bytes i) (fields_apart (relocations_of bytes i) (section_header bytes i).size (all_clear bytes i whole))

-- ---- inside the bytes, of a section that the file holds
record IsInside (bytes : List ℕ) (i : ℕ) (r : Reloc) : Type 0 where
  some : ((section_header bytes i).kind == SHT_NOBITS) ≡ false
  low : r.offset + 4 ≤ (section_header bytes i).size

inside_entry : (bytes : List ℕ) (i j k : ℕ) → relocation_fault bytes j k ≡ None → (section_header bytes j).info ≡ i
    → has_field (relocation bytes j k) ≡ true → IsInside bytes i (relocation bytes j k)
inside_entry bytes i j k e at field =
    subst (λ n. IsInside bytes n (relocation bytes j k)) at
    (record { some = stored bytes j k e; low = field_low bytes j k (placed bytes j k e) field })

inside_field : (bytes : List ℕ) (i : ℕ) (r : Reloc) → object_fault bytes ≡ None → Has (fields_of bytes i) r
    → IsInside bytes i r
unfolding fields_of by_offset relocations_of
inside_field bytes i r whole has =
    let (offset, low, inner) = below_has (λ offset. filter (changes_at offset) (relocations_of bytes i))
    (section_header bytes i).size r has in
    let (listed, changed) = filter_has (changes_at offset) (relocations_of bytes i) r inner in
    let (j, table, entry) = below_has (entries bytes i whole) (section_count bytes) r listed in
    let it = entry_of bytes i whole j r (changes bytes i j) refl entry in
    subst (IsInside bytes i) it.is
    (inside_entry bytes i j it.entry (relocation_kept bytes j it.entry whole table it.low)
    (changed_section bytes i j it.changed) (ap has_field it.is ∙ field_changed offset r changed))

not_zero : (code write texts : Bool) → cond code Code (cond write Writable (cond texts Strings ReadOnly)) ≡ Zero → ⊥
not_zero true write texts is = absurd cc
not_zero false true texts is = absurd cc
not_zero false false true is = absurd cc
not_zero false false false is = absurd cc

zero_by : (b code write texts : Bool) → b ≡ false
    → cond b Zero (cond code Code (cond write Writable (cond texts Strings ReadOnly))) ≡ Zero → ⊥
zero_by true code write texts some is = absurd cc
zero_by false code write texts some is = not_zero code write texts is

filled : (header : SectionHeader) → (header.kind == SHT_NOBITS) ≡ false → class_of header ≡ Zero → ⊥
filled header some is = zero_by (header.kind == SHT_NOBITS) _ _ _ some is

-- ---- what holds of each section of an object
pub record FieldsAreGood (section : NormalSection) : Type 0 where
  pub stored : (r : Ref) → Has section.refs r → section.class ≢ Zero
  pub inside : (r : Ref) → Has section.refs r → r.offset + 4 ≤ section.size
  pub apart : Pairs IsApart section.refs

pub record IsGood (object : List NormalSection) (section : NormalSection) : Type 0 where
  pub named : section_named object section.name ≡ Some section
  pub whole : IsWhole section
  pub fields : FieldsAreGood section

pub record IsGoodObject (object : List NormalSection) : Type 0 where
  pub differ : Pairs (λ (a b : NormalSection). a.name ≢ b.name) object
  pub each : (section : NormalSection) → Has object section → IsGood object section

stored_inside : (bytes : List ℕ) (i : ℕ) → object_fault bytes ≡ None → (r : Ref) → Has (references_of bytes i) r
    → (class_of (section_header bytes i) ≢ Zero) × (r.offset + 4 ≤ (section_header bytes i).size)
unfolding references_of
stored_inside bytes i whole ref has =
    let (r, has_r, is) = map_has (reference_of bytes i) (fields_of bytes i) ref has in
    let it = inside_field bytes i r whole has_r in
    let at = sym (ap (λ (x : Ref). x.offset) is) ∙ offset_is bytes i r in
    let low = it.low in
    (λ zero. filled (section_header bytes i) it.some zero, omega (arith, at, low))

fields_good : (bytes : List ℕ) (i : ℕ) → object_fault bytes ≡ None → FieldsAreGood (normal_section bytes i)
unfolding normal_section
fields_good bytes i whole = record {
  stored = λ r has. (stored_inside bytes i whole r has).0;
  inside = λ r has. (stored_inside bytes i whole r has).1;
  apart = references_apart bytes i whole;
}

loaded_by : (bytes : List ℕ) (n : ℕ) (section : NormalSection) (b : Bool)
    → (Has (loaded_below bytes n) section → (i : ℕ) × (normal_section bytes i ≡ section))
    → Has (cond b (loaded_below bytes n ++ normal_section bytes n ∷ []) (loaded_below bytes n)) section
    → (i : ℕ) × (normal_section bytes i ≡ section)
loaded_by bytes n section false before has = before has
loaded_by bytes n section true before has =
    elim (has_either (loaded_below bytes n) (normal_section bytes n ∷ []) section has) [
      | inl earlier ↦ before earlier
      | inr last ↦ elim last [ inl is ↦ (n, is) | inr none ↦ absurd none ]
    ]

loaded_is : (bytes : List ℕ) (n : ℕ) (section : NormalSection) → Has (loaded_below bytes n) section
    → (i : ℕ) × (normal_section bytes i ≡ section)
loaded_is bytes zero section has = absurd has
loaded_is bytes (suc n) section has =
    loaded_by bytes n section (is_loaded bytes n) (loaded_is bytes n section) has

section_is : (bytes : List ℕ) (section : NormalSection) → Has (loaded_sections bytes) section
    → (i : ℕ) × (normal_section bytes i ≡ section)
unfolding loaded_sections
section_is bytes section has = loaded_is bytes (section_count bytes) section has

-- ---- an object that was read
names_differ : (bytes : List ℕ) → normal_fault bytes ≡ None
    → Pairs (λ (a b : NormalSection). a.name ≢ b.name) (loaded_sections bytes)
names_differ bytes none =
    map_pairs name_of (λ a b. a ≢ b) (loaded_sections bytes)
    (pairs_of (λ a b. a ≢ b) (map name_of (loaded_sections bytes))
    (AllPairs-from_IsDistinct bytes_decides (map name_of (loaded_sections bytes)) (distinct_names bytes none)))

loaded_good : SectionsAreWhole → (bytes : List ℕ) → object_fault bytes ≡ None → normal_fault bytes ≡ None
    → IsGoodObject (loaded_sections bytes)
loaded_good whole bytes object normal = record {
  differ = names_differ bytes normal;
  each = λ section has.
      let (i, same) = section_is bytes section has in
      record {
        named =
            all_has (λ (s : NormalSection). section_named (loaded_sections bytes) s.name ≡ Some s)
            (loaded_sections bytes) section (all_named bytes normal) has;
        whole = each_has IsWhole (loaded_sections bytes) section (whole bytes object) has;
        fields = subst FieldsAreGood same (fields_good bytes i object);
      };
}

pub is_good : SectionsAreWhole → (file : List ℕ) (object : List NormalSection) → sections_of file ≡ Ok object
    → IsGoodObject object
is_good whole file object is =
    let it = is_file file object is in
    subst IsGoodObject it.is (loaded_good whole file it.object it.normal)

pub objects_good : SectionsAreWhole → (files : List (List ℕ)) (objects : List (List NormalSection))
    → AllZip (λ file object. sections_of file ≡ Ok object) files objects → (object : List NormalSection)
    → Has objects object → IsGoodObject object
objects_good whole [] [] read object has = absurd has
objects_good whole [] (o ∷ objects) read object has = absurd read
objects_good whole (f ∷ files) [] read object has = absurd read
objects_good whole (f ∷ files) (o ∷ objects) read object (inl is) =
    subst IsGoodObject is (is_good whole f o read.0)
objects_good whole (f ∷ files) (o ∷ objects) read object (inr rest) =
    objects_good whole files objects read.1 object rest
