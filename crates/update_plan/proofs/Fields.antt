-- The fields of a section's references stand whole in its bytes, where nothing is wrong with an object.
use Rattle.std.proofs.Common.{◌≡◌, ℕ, zero, suc, ◌+◌, ◌<◌, ◌≤◌, Bool, true, false, ◌&&◌, ◌==◌, cond, List}
use Rattle.std.proofs.Common.{[], ◌∷◌, ◌++◌, length, map, None, refl, sym, ap, subst, ◌∙◌, inl, inr, arith, All}
use Rattle.std.specs.Prelude.{Ok}
use Rattle.std.specs.List.{filter}
use Rattle.std.proofs.lemmas.Bool.{eqb-true}
use Rattle.std.proofs.lemmas.Bool.Decides.{nat_tests}
use Rattle.i386_reloc.specs.Numbers.{SHT_NOBITS}
use Rattle.i386_reloc.specs.SectionHeader.{SectionHeader}
use Rattle.i386_reloc.specs.Reloc.{Reloc}
use Rattle.i386_reloc.specs.Below.{all_below, each_below, first_below}
use Rattle.i386_reloc.specs.Fields.{changes, entry_count, is_loaded, patches_loaded, relocation, section_count}
use Rattle.i386_reloc.specs.Fields.{section_header}
use Rattle.i386_reloc.specs.Rules.{has_field, is_placed, object_fault, relocation_fault}
use Rattle.i386_reloc.specs.Rules.{relocations_fault}
use Rattle.i386_reloc.specs.BelowLaws.{none_below, none_first, none_second}
use Rattle.i386_reloc.specs.declared.types.Class.TheVariants.{Zero, Code, Writable, Strings, ReadOnly}
use Rattle.i386_reloc.specs.declared.types.NormalSection.{NormalSection}
use Rattle.i386_reloc.specs.declared.types.Ref.{Ref}
use Rattle.i386_reloc.specs.declared.types.Target.{Target}
use Rattle.i386_reloc.specs.Classes.{class_of, is_strings}
use Rattle.i386_reloc.specs.Normal.{loaded_below, loaded_sections, normal_section}
use Rattle.i386_reloc.specs.References.{by_offset, changes_at, fields_of, is_outside, is_section_symbol, reference_of}
use Rattle.i386_reloc.specs.References.{reference_to, references_of, relocations_of, symbol_of}
use Rattle.i386_reloc.specs.Sections.{sections_of}
use Rattle.symbol_solve.specs.MatchAlike.{HasFieldsInside}
use Rattle.i386_reloc.specs.Whole.{AreWhole, IsWhole}
use Rattle.update_plan.proofs.SoundLists.{Has, all_of, each_has, filter_has, has_either, map_has}
use Rattle.update_plan.proofs.SoundFile.{is_file}

-- ---- members of what numbers below a bound have
below_has : {X : Type 0} (f : ℕ → List X) (n : ℕ) (x : X) → Has (all_below f n) x → (i : ℕ) × (i < n) × Has (f i) x
below_has f zero x has = absurd has
below_has f (suc n) x has =
    elim (has_either (all_below f n) (f n) x has) [
      | inl before ↦ let (i, lt, inner) = below_has f n x before in (i, omega (arith, lt), inner)
      | inr last ↦ (n, omega arith, last)
    ]

each_below_has : {X : Type 0} (f : ℕ → X) (n : ℕ) (x : X) → Has (each_below f n) x → (i : ℕ) × (i < n) × (f i ≡ x)
each_below_has f zero x has = absurd has
each_below_has f (suc n) x has =
    elim (has_either (each_below f n) (f n ∷ []) x has) [
      | inl before ↦ let (i, lt, is) = each_below_has f n x before in (i, omega (arith, lt), is)
      | inr last ↦ elim last [ inl is ↦ (n, omega arith, is) | inr none ↦ absurd none ]
    ]

pub and_left : (a b : Bool) → a && b ≡ true → a ≡ true
and_left true b both = refl
and_left false b both = both

pub and_right : (a b : Bool) → a && b ≡ true → b ≡ true
and_right true b both = both
and_right false b both = absurd cc

-- ---- the relocations of a section, and what a file that is read well says of each
record IsEntry (bytes : List ℕ) (i : ℕ) (r : Reloc) : Type 0 where
  table : ℕ
  entry : ℕ
  table_low : table < section_count bytes
  entry_low : entry < entry_count bytes table
  changes : changes bytes i table ≡ true
  is : relocation bytes table entry ≡ r

entry_by : (bytes : List ℕ) (i j : ℕ) (r : Reloc) (b : Bool) → changes bytes i j ≡ b → j < section_count bytes
    → Has (cond b (each_below (relocation bytes j) (entry_count bytes j)) []) r → IsEntry bytes i r
entry_by bytes i j r false is low has = absurd has
entry_by bytes i j r true is low has =
    let (k, lt, same) = each_below_has (relocation bytes j) (entry_count bytes j) r has in
    record { table = j; entry = k; table_low = low; entry_low = lt; changes = is; is = same }

is_entry : (bytes : List ℕ) (i : ℕ) (r : Reloc) → Has (relocations_of bytes i) r → IsEntry bytes i r
unfolding relocations_of
is_entry bytes i r has =
    let (j, low, inner) = below_has
    (λ j. cond (changes bytes i j) (each_below (relocation bytes j) (entry_count bytes j)) []) (section_count bytes) r
    has in
    entry_by bytes i j r (changes bytes i j) refl low inner

pub field_has : (bytes : List ℕ) (i : ℕ) (r : Reloc) → Has (fields_of bytes i) r
    → Has (relocations_of bytes i) r × (has_field r ≡ true)
unfolding fields_of by_offset
field_has bytes i r has =
    let (offset, low, inner) = below_has (λ offset. filter (changes_at offset) (relocations_of bytes i))
    (section_header bytes i).size r has in
    let both = filter_has (changes_at offset) (relocations_of bytes i) r inner in
    (both.0, and_left (has_field r) (r.offset == offset) both.1)

relocations_kept : (bytes : List ℕ) → object_fault bytes ≡ None
    → first_below (relocations_fault bytes) (section_count bytes) ≡ None
unfolding object_fault
relocations_kept bytes e = grind (arith, none_first, none_second)

relocation_kept : (bytes : List ℕ) (j k : ℕ) → object_fault bytes ≡ None → j < section_count bytes
    → k < entry_count bytes j → relocation_fault bytes j k ≡ None
unfolding relocations_fault
relocation_kept bytes j k e table entry =
    none_below (relocation_fault bytes j) (entry_count bytes j)
    (none_below (relocations_fault bytes) (section_count bytes) (relocations_kept bytes e) j table) k entry

stored : (bytes : List ℕ) (j k : ℕ) → relocation_fault bytes j k ≡ None
    → ((section_header bytes (section_header bytes j).info).kind == SHT_NOBITS) ≡ false
unfolding relocation_fault
stored bytes j k e = grind arith

placed : (bytes : List ℕ) (j k : ℕ) → relocation_fault bytes j k ≡ None → is_placed bytes j k ≡ true
unfolding relocation_fault
placed bytes j k e = grind arith

field_low : (bytes : List ℕ) (j k : ℕ) → is_placed bytes j k ≡ true → has_field (relocation bytes j k) ≡ true
    → (relocation bytes j k).offset + 4 ≤ (section_header bytes (section_header bytes j).info).size
unfolding is_placed
field_low bytes j k e field = grind (arith, nat_tests)

changed_section : (bytes : List ℕ) (i j : ℕ) → changes bytes i j ≡ true → (section_header bytes j).info ≡ i
unfolding changes
changed_section bytes i j e =
    eqb-true (section_header bytes j).info i (and_right (patches_loaded bytes j) ((section_header bytes j).info == i) e)

record IsInside (bytes : List ℕ) (i : ℕ) (r : Reloc) : Type 0 where
  some : ((section_header bytes i).kind == SHT_NOBITS) ≡ false
  low : r.offset + 4 ≤ (section_header bytes i).size

inside_entry : (bytes : List ℕ) (i j k : ℕ) → relocation_fault bytes j k ≡ None → (section_header bytes j).info ≡ i
    → has_field (relocation bytes j k) ≡ true → IsInside bytes i (relocation bytes j k)
inside_entry bytes i j k e at field =
    subst (λ n. IsInside bytes n (relocation bytes j k)) at
    (record { some = stored bytes j k e; low = field_low bytes j k (placed bytes j k e) field })

inside_field : (bytes : List ℕ) (i : ℕ) (r : Reloc) → object_fault bytes ≡ None → Has (fields_of bytes i) r
    → IsInside bytes i r
inside_field bytes i r e has =
    let (listed, field) = field_has bytes i r has in
    let it = is_entry bytes i r listed in
    subst (IsInside bytes i) it.is
    (inside_entry bytes i it.table it.entry (relocation_kept bytes it.table it.entry e it.table_low it.entry_low)
    (changed_section bytes i it.table it.changes) (ap has_field it.is ∙ field))

-- ---- where a reference stands
offset_by : (r : Reloc) (outside texts named : Bool) (out by_addend by_value inside : Target) (a b c d : ℕ)
    → (cond outside (reference_to r out a)
    (cond (texts && named) (reference_to r by_addend b)
    (cond texts (reference_to r by_value c) (reference_to r inside d)))).offset ≡ r.offset
offset_by r true texts named out by_addend by_value inside a b c d = refl
offset_by r false true true out by_addend by_value inside a b c d = refl
offset_by r false true false out by_addend by_value inside a b c d = refl
offset_by r false false named out by_addend by_value inside a b c d = refl

offset_is : (bytes : List ℕ) (i : ℕ) (r : Reloc) → (reference_of bytes i r).offset ≡ r.offset
unfolding reference_of
offset_is bytes i r =
    let symbol = symbol_of bytes r in
    offset_by r (is_outside symbol) (is_strings bytes symbol.section) (is_section_symbol symbol) _ _ _ _ _ _ _ _

-- ---- a section that isn't all zeros in memory has its bytes in the file
not_zero : (code write texts : Bool) → cond code Code (cond write Writable (cond texts Strings ReadOnly)) ≡ Zero → ⊥
not_zero true write texts is = absurd cc
not_zero false true texts is = absurd cc
not_zero false false true is = absurd cc
not_zero false false false is = absurd cc

zero_by : (b code write texts : Bool) → b ≡ false
    → cond b Zero (cond code Code (cond write Writable (cond texts Strings ReadOnly))) ≡ Zero → ⊥
zero_by true code write texts some is = absurd cc
zero_by false code write texts some is = not_zero code write texts is

filled : (header : SectionHeader) → (header.kind == SHT_NOBITS) ≡ false → class_of header ≡ Zero → ⊥
filled header some is = zero_by (header.kind == SHT_NOBITS) _ _ _ some is

section_inside : (bytes : List ℕ) (i : ℕ) → object_fault bytes ≡ None → IsWhole (normal_section bytes i)
    → HasFieldsInside (normal_section bytes i)
unfolding normal_section references_of
section_inside bytes i e whole =
    record {
      inside = all_of (λ (r : Ref). r.offset + 4 ≤ length (normal_section bytes i).bytes)
          (map (reference_of bytes i) (fields_of bytes i)) (λ ref has.
          let (r, has_r, is) = map_has (reference_of bytes i) (fields_of bytes i) ref has in
          let it = inside_field bytes i r e has_r in
          let at = sym (ap (λ (x : Ref). x.offset) is) ∙ offset_is bytes i r in
          let all = whole.all (λ zero. filled (section_header bytes i) it.some zero) in
          let low = it.low in
          omega (arith, at, all, low));
    }

-- ---- the loaded sections
loaded_by : (bytes : List ℕ) (n : ℕ) (section : NormalSection) (b : Bool)
    → (Has (loaded_below bytes n) section → (i : ℕ) × (normal_section bytes i ≡ section))
    → Has (cond b (loaded_below bytes n ++ normal_section bytes n ∷ []) (loaded_below bytes n)) section
    → (i : ℕ) × (normal_section bytes i ≡ section)
loaded_by bytes n section false before has = before has
loaded_by bytes n section true before has =
    elim (has_either (loaded_below bytes n) (normal_section bytes n ∷ []) section has) [
      | inl earlier ↦ before earlier
      | inr last ↦ elim last [ inl is ↦ (n, is) | inr none ↦ absurd none ]
    ]

loaded_is : (bytes : List ℕ) (n : ℕ) (section : NormalSection) → Has (loaded_below bytes n) section
    → (i : ℕ) × (normal_section bytes i ≡ section)
loaded_is bytes zero section has = absurd has
loaded_is bytes (suc n) section has =
    loaded_by bytes n section (is_loaded bytes n) (loaded_is bytes n section) has

section_is : (bytes : List ℕ) (section : NormalSection) → Has (loaded_sections bytes) section
    → (i : ℕ) × (normal_section bytes i ≡ section)
unfolding loaded_sections
section_is bytes section has = loaded_is bytes (section_count bytes) section has

abbrev pub SectionsAreWhole : Type 0
SectionsAreWhole = (bytes : List ℕ) → object_fault bytes ≡ None → AreWhole (loaded_sections bytes)

pub all_inside : SectionsAreWhole → (file : List ℕ) (sections : List NormalSection) → sections_of file ≡ Ok sections
    → All HasFieldsInside sections
all_inside whole file sections is =
    let it = is_file file sections is in
    subst (λ (ss : List NormalSection). All HasFieldsInside ss) it.is
    (all_of HasFieldsInside (loaded_sections file) (λ section has.
    let (i, same) = section_is file section has in
    let own : IsWhole section = each_has IsWhole (loaded_sections file) section (whole file it.object) has in
    subst HasFieldsInside same (section_inside file i it.object (subst IsWhole (sym same) own))))
