-- What is known of the sections of an object file that isn't refused, and of their references.
use Rattle.std.proofs.Common.{◌≡◌, ℕ, zero, suc, ◌+◌, ◌<◌, ◌≤◌, ◌^◌, ◌%◌, ◌==◌, nat_lt, Bool, true, false, not, ◌&&◌}
use Rattle.std.proofs.Common.{◌||◌, cond, List, [], ◌∷◌, ◌++◌, length, map, take, drop, get_or, Option, Some, None, refl}
use Rattle.std.proofs.Common.{sym, ap, subst, ◌∙◌, inl, inr, arith, length-drop}
use Rattle.std.specs.Prelude.{Ok, slice_index}
use Rattle.std.specs.List.{All, IsDistinct, filter, list_any, position_or_len, slice_get}
use Rattle.std.proofs.lemmas.Bool.{cases_lt, eqb-true, le-ltb}
use Rattle.std.proofs.lemmas.Bool.Decides.{nat_tests}
use Rattle.std.proofs.lemmas.List.{get_or-drop, take_more, length-take-le}
use Rattle.std.proofs.lemmas.List.Sums.{passes_at_first}
use Rattle.ks_base.specs.declared.refusals.Refusal.{Refusal}
use Rattle.i386_reloc.specs.Numbers.{R_386_NONE}
use Rattle.i386_reloc.specs.ObjectFault.{ObjectFault}
use Rattle.i386_reloc.specs.Reloc.{Reloc}
use Rattle.i386_reloc.specs.Below.{all_below, each_below, first_below, first_of}
use Rattle.i386_reloc.specs.Fields.{changes, entry_count, is_loaded, is_section, patches_loaded, relocation, word_at}
use Rattle.i386_reloc.specs.Fields.{section_bytes, section_count, section_header, section_name, symbol_name, ends_in}
use Rattle.i386_reloc.specs.Fields.{bytes_named, has_no_bytes, is_zero}
use Rattle.i386_reloc.specs.Rules.{has_field, is_placed, object_fault, relocation_fault as entry_fault}
use Rattle.i386_reloc.specs.Rules.{relocations_fault}
use Rattle.i386_reloc.specs.BelowLaws.{none_below, none_first, none_second}
use Rattle.i386_reloc.specs.declared.types.Class.{Class}
use Rattle.i386_reloc.specs.declared.types.Class.TheVariants.{Zero, Code, Writable, Strings, ReadOnly}
use Rattle.i386_reloc.specs.declared.types.Form.TheVariants.{Absolute, Relative}
use Rattle.i386_reloc.specs.declared.types.NormalSection.{NormalSection}
use Rattle.i386_reloc.specs.declared.types.Ref.{Ref}
use Rattle.i386_reloc.specs.declared.types.Target.{Target}
use Rattle.i386_reloc.specs.declared.types.Target.TheVariants as to
use Rattle.i386_reloc.specs.Classes.{class_of, is_code, is_code_class, is_strings, is_strings_class}
use Rattle.i386_reloc.specs.Normal.{loaded_below, loaded_sections, normal_section, name_of, same_bytes, section_named}
use Rattle.i386_reloc.specs.Places.{place_named, at_place}
use Rattle.i386_reloc.specs.References.{by_offset, changes_at, fields_of, is_outside, is_section_symbol, is_absolute}
use Rattle.i386_reloc.specs.References.{form_of, addend_in, text_offset, text_through, text_target, blanked_from}
use Rattle.i386_reloc.specs.References.{blanked_bytes, reference_of, reference_to, references_of, relocations_of}
use Rattle.i386_reloc.specs.References.{symbol_of}
use Rattle.i386_reloc.specs.Refused.{normal_fault, relocation_fault, relocation_fault_at, relocation_fault_of}
use Rattle.i386_reloc.specs.Refused.{kind_fault, target_fault, text_fault, names_end}
use Rattle.i386_reloc.specs.Sections.{sections_of, sections_unless}
use Rattle.i386_reloc.specs.Texts.{StandsAt}
use Rattle.i386_reloc.specs.Whole.{AreWhole, IsWhole}
use Rattle.i386_reloc.specs.laws.NameLaws.{distinct_names, all_named}
use Rattle.i386_reloc.specs.laws.PlaceLaws.{section_named_at}
use Rattle.linked_code.specs.Standing.{HasBlankFields}
use Rattle.linked_places.proofs.Members.{Has, all_has, each_has, filter_has, has_either, has_left}
use Rattle.linked_places.proofs.Members.{has_right, map_has, none_has}

-- ---- what is known
pub record IsSectionThere (object : List NormalSection) (name : List ℕ) : Type 0 where
  pub place : ℕ
  pub section : NormalSection
  pub named : place_named object name ≡ Some place
  pub at : slice_get object place ≡ Some section

pub record IsTextThere (object : List NormalSection) (name : List ℕ) (offset : ℕ) (text : List ℕ) : Type 0 where
  pub place : ℕ
  pub section : NormalSection
  pub named : place_named object name ≡ Some place
  pub at : slice_get object place ≡ Some section
  pub texts : section.class ≡ Strings
  pub plain : section.refs ≡ []
  pub stands : StandsAt section offset text

-- what a reference goes to is there
abbrev pub IsThere : List NormalSection → Target → Type 0
IsThere object (to.Outside name) = Unit {0}
IsThere object (to.Section name) = IsSectionThere object name
IsThere object (to.Text name offset text) = IsTextThere object name offset text

pub record IsReadRef (object : List NormalSection) (section : NormalSection) (r : Ref) : Type 0 where
  pub there : IsThere object r.target
  pub form : is_code_class section.class ≡ false → r.form ≡ Absolute
  pub addend : r.addend < 2 ^ 32
  pub inside : r.offset + 4 ≤ section.size

pub record IsReadObject (object : List NormalSection) : Type 0 where
  pub distinct : IsDistinct same_bytes (map name_of object)
  pub named : (section : NormalSection) → Has object section → section_named object section.name ≡ Some section
  pub whole : (section : NormalSection) → Has object section → IsWhole section
  pub blank : (section : NormalSection) → Has object section → HasBlankFields section
  pub refs : (section : NormalSection) (r : Ref) → Has object section → Has section.refs r
      → IsReadRef object section r

-- each byte is below 256
abbrev pub AreSmall : List ℕ → Type 0
AreSmall bytes = (i : ℕ) → slice_index bytes i < 256

-- ---- members of what numbers below a bound have
below_has : {X : Type 0} (f : ℕ → List X) (n : ℕ) (x : X) → Has (all_below f n) x → (i : ℕ) × (i < n) × Has (f i) x
below_has f zero x has = absurd has
below_has f (suc n) x has =
    elim (has_either (all_below f n) (f n) x has) [
      | inl before ↦ let (i, lt, inner) = below_has f n x before in (i, omega (arith, lt), inner)
      | inr last ↦ (n, omega arith, last)
    ]

each_below_has : {X : Type 0} (f : ℕ → X) (n : ℕ) (x : X) → Has (each_below f n) x → (i : ℕ) × (i < n) × (f i ≡ x)
each_below_has f zero x has = absurd has
each_below_has f (suc n) x has =
    elim (has_either (each_below f n) (f n ∷ []) x has) [
      | inl before ↦ let (i, lt, is) = each_below_has f n x before in (i, omega (arith, lt), is)
      | inr last ↦ elim last [ inl is ↦ (n, omega arith, is) | inr none ↦ absurd none ]
    ]

and_left : (a b : Bool) → a && b ≡ true → a ≡ true
and_left true b both = refl
and_left false b both = both

and_right : (a b : Bool) → a && b ≡ true → b ≡ true
and_right true b both = both
and_right false b both = absurd cc

or_second : (a b : Bool) → (a || b) ≡ true → a ≡ false → b ≡ true
or_second true b either none = absurd cc
or_second false b either none = either

not_second : (a b : Bool) → (not a || b) ≡ true → a ≡ true → b ≡ true
not_second true b either here = either
not_second false b either here = absurd cc

-- ---- small bytes
small_drop : (n : ℕ) (bytes : List ℕ) → AreSmall bytes → AreSmall (drop n bytes)
small_drop n bytes small i = rw (get_or-drop n bytes i 0) (small (n + i))

small_take : (n : ℕ) (bytes : List ℕ) → AreSmall bytes → AreSmall (take n bytes)
small_take zero bytes small i = omega arith
small_take (suc n) [] small i = omega arith
small_take (suc n) (b ∷ bytes) small zero = small zero
small_take (suc n) (b ∷ bytes) small (suc i) = small_take n bytes (λ k. small (suc k)) i

small_by : (b : Bool) (bytes : List ℕ) → AreSmall bytes → AreSmall (cond b [] bytes)
small_by true bytes small i = omega arith
small_by false bytes small i = small i

small_section : (bytes : List ℕ) (i : ℕ) → AreSmall bytes → AreSmall (section_bytes bytes i)
unfolding section_bytes
small_section bytes i small =
    small_by (has_no_bytes (section_header bytes i)) (bytes_named bytes (section_header bytes i))
    (small_take (section_header bytes i).size (drop (section_header bytes i).offset bytes)
    (small_drop (section_header bytes i).offset bytes small))

word_low : (bytes : List ℕ) (place : ℕ) → AreSmall bytes → word_at bytes place < 2 ^ 32
unfolding word_at
word_low bytes place small =
    let here = small_drop place bytes small in
    omega (arith, here 0, here 1, here 2, here 3)

addend_low : (bytes : List ℕ) (i : ℕ) (r : Reloc) → AreSmall bytes → addend_in bytes i r < 2 ^ 32
unfolding addend_in
addend_low bytes i r small = word_low (section_bytes bytes i) r.offset (small_section bytes i small)

-- ---- the relocations of a section, and what a file that is read well says of each
record IsEntry (bytes : List ℕ) (i : ℕ) (r : Reloc) : Type 0 where
  table : ℕ
  entry : ℕ
  table_low : table < section_count bytes
  entry_low : entry < entry_count bytes table
  changes : changes bytes i table ≡ true
  is : relocation bytes table entry ≡ r

entry_by : (bytes : List ℕ) (i j : ℕ) (r : Reloc) (b : Bool) → changes bytes i j ≡ b → j < section_count bytes
    → Has (cond b (each_below (relocation bytes j) (entry_count bytes j)) []) r → IsEntry bytes i r
entry_by bytes i j r false is low has = absurd has
entry_by bytes i j r true is low has =
    let (k, lt, same) = each_below_has (relocation bytes j) (entry_count bytes j) r has in
    record { table = j; entry = k; table_low = low; entry_low = lt; changes = is; is = same }

is_entry : (bytes : List ℕ) (i : ℕ) (r : Reloc) → Has (relocations_of bytes i) r → IsEntry bytes i r
unfolding relocations_of
is_entry bytes i r has =
    let (j, low, inner) = below_has
    (λ j. cond (changes bytes i j) (each_below (relocation bytes j) (entry_count bytes j)) []) (section_count bytes) r
    has in
    entry_by bytes i j r (changes bytes i j) refl low inner

field_has : (bytes : List ℕ) (i : ℕ) (r : Reloc) → Has (fields_of bytes i) r
    → Has (relocations_of bytes i) r × (has_field r ≡ true)
unfolding fields_of by_offset
field_has bytes i r has =
    let (offset, low, inner) = below_has (λ offset. filter (changes_at offset) (relocations_of bytes i))
    (section_header bytes i).size r has in
    let both = filter_has (changes_at offset) (relocations_of bytes i) r inner in
    (both.0, and_left (has_field r) (r.offset == offset) both.1)

relocations_kept : (bytes : List ℕ) → object_fault bytes ≡ None
    → first_below (relocations_fault bytes) (section_count bytes) ≡ None
unfolding object_fault
relocations_kept bytes e = grind (arith, none_first, none_second)

relocation_kept : (bytes : List ℕ) (j k : ℕ) → object_fault bytes ≡ None → j < section_count bytes
    → k < entry_count bytes j → entry_fault bytes j k ≡ None
unfolding relocations_fault
relocation_kept bytes j k e table entry =
    none_below (entry_fault bytes j) (entry_count bytes j)
    (none_below (relocations_fault bytes) (section_count bytes) (relocations_kept bytes e) j table) k entry

placed : (bytes : List ℕ) (j k : ℕ) → entry_fault bytes j k ≡ None → is_placed bytes j k ≡ true
unfolding entry_fault
placed bytes j k e = grind arith

field_low : (bytes : List ℕ) (j k : ℕ) → is_placed bytes j k ≡ true → has_field (relocation bytes j k) ≡ true
    → (relocation bytes j k).offset + 4 ≤ (section_header bytes (section_header bytes j).info).size
unfolding is_placed
field_low bytes j k e field = grind (arith, nat_tests)

changed_section : (bytes : List ℕ) (i j : ℕ) → changes bytes i j ≡ true → (section_header bytes j).info ≡ i
unfolding changes
changed_section bytes i j e =
    eqb-true (section_header bytes j).info i (and_right (patches_loaded bytes j) ((section_header bytes j).info == i) e)

inside_field : (bytes : List ℕ) (i : ℕ) (r : Reloc) → object_fault bytes ≡ None → Has (fields_of bytes i) r
    → r.offset + 4 ≤ (section_header bytes i).size
inside_field bytes i r e has =
    let (listed, field) = field_has bytes i r has in
    let it = is_entry bytes i r listed in
    let low = field_low bytes it.table it.entry
    (placed bytes it.table it.entry (relocation_kept bytes it.table it.entry e it.table_low it.entry_low))
    (ap has_field it.is ∙ field) in
    let at_section : (relocation bytes it.table it.entry).offset + 4 ≤ (section_header bytes i).size =
    subst (λ (n : ℕ). (relocation bytes it.table it.entry).offset + 4 ≤ (section_header bytes n).size)
    (changed_section bytes i it.table it.changes) low in
    subst (λ (x : Reloc). x.offset + 4 ≤ (section_header bytes i).size) it.is at_section

-- ---- what is not wrong with a field's relocation
and_false : (a : Bool) → a && false ≡ false
and_false true = refl
and_false false = refl

unloaded_beyond : (bytes : List ℕ) (j : ℕ) → section_count bytes ≤ j → is_loaded bytes j ≡ false
unfolding is_loaded is_section
unloaded_beyond bytes j beyond = rw (le-ltb j (section_count bytes) beyond, and_false (nat_lt 0 j)) refl

loaded_within : (bytes : List ℕ) (j : ℕ) → is_loaded bytes j ≡ true → j < section_count bytes
loaded_within bytes j loaded =
    elim (cases_lt j (section_count bytes)) [
      | inl lt ↦ lt
      | inr le ↦ let unloaded = unloaded_beyond bytes j le in absurd (let no : true ≡ false = sym loaded ∙ unloaded in cc)
    ]

no_relocation_fault : (bytes : List ℕ) → normal_fault bytes ≡ None → relocation_fault bytes ≡ None
unfolding normal_fault
no_relocation_fault bytes none = none_second _ _ (none_second _ _ none)

fault_by : (bytes : List ℕ) (i : ℕ) (r : Reloc) → is_loaded bytes i ≡ true → normal_fault bytes ≡ None
    → Has (relocations_of bytes i) r → relocation_fault_of bytes i r ≡ None
unfolding relocation_fault relocation_fault_at
fault_by bytes i r loaded none has =
    let here = none_below (relocation_fault_at bytes) (section_count bytes) (no_relocation_fault bytes none) i
    (loaded_within bytes i loaded) in
    none_has (relocation_fault_of bytes i) (relocations_of bytes i) r (rw loaded at here) has

typed_by : (r : Reloc) → has_field r ≡ true → (r.kind == R_386_NONE) ≡ false
typed_by r has = grind (arith, nat_tests)

parts_by : (null : Bool) (a b c : Option Refusal) → null ≡ false → cond null None (first_of a (first_of b c)) ≡ None
    → (a ≡ None) × (b ≡ None) × (c ≡ None)
parts_by true a b c typed none = absurd cc
parts_by false a b c typed none = (
  none_first a (first_of b c) none,
  none_first b c (none_second a (first_of b c) none),
  none_second b c (none_second a (first_of b c) none),
)

record IsFine (bytes : List ℕ) (i : ℕ) (r : Reloc) : Type 0 where
  kind : kind_fault bytes i r ≡ None
  target : target_fault bytes i r ≡ None
  text : text_fault bytes i r ≡ None

fine_by : (bytes : List ℕ) (i : ℕ) (r : Reloc) → has_field r ≡ true → relocation_fault_of bytes i r ≡ None
    → IsFine bytes i r
unfolding relocation_fault_of
fine_by bytes i r has none =
    let (kind, target, text) = parts_by (r.kind == R_386_NONE) (kind_fault bytes i r) (target_fault bytes i r)
    (text_fault bytes i r) (typed_by r has) none in
    record { kind = kind; target = target; text = text }

fine : (bytes : List ℕ) (i : ℕ) (r : Reloc) → is_loaded bytes i ≡ true → normal_fault bytes ≡ None
    → Has (fields_of bytes i) r → IsFine bytes i r
fine bytes i r loaded none has =
    let (listed, field) = field_has bytes i r has in
    fine_by bytes i r field (fault_by bytes i r loaded none listed)

target_leads : (bytes : List ℕ) (i : ℕ) (r : Reloc) → target_fault bytes i r ≡ None
    → (is_outside (symbol_of bytes r) || is_loaded bytes (symbol_of bytes r).section) ≡ true
unfolding target_fault
target_leads bytes i r none = grind arith

text_ends : (bytes : List ℕ) (i : ℕ) (r : Reloc) → text_fault bytes i r ≡ None
    → (not (is_strings bytes (symbol_of bytes r).section) || names_end bytes i r) ≡ true
unfolding text_fault
text_ends bytes i r none = grind arith

kind_strings : (bytes : List ℕ) (i : ℕ) (r : Reloc) → kind_fault bytes i r ≡ None → is_strings bytes i ≡ false
unfolding kind_fault
kind_strings bytes i r none = grind arith

kind_form : (bytes : List ℕ) (i : ℕ) (r : Reloc) → kind_fault bytes i r ≡ None
    → (is_absolute r || is_code bytes i) ≡ true
unfolding kind_fault
kind_form bytes i r none = grind arith

-- ---- a section of texts has no fields
nothing_in : (rs : List Reloc) → ((r : Reloc) → Has rs r → ⊥) → rs ≡ []
nothing_in [] none = refl
nothing_in (r ∷ rs) none = absurd (none r (inl refl))

strings_loaded : (bytes : List ℕ) (i : ℕ) → is_strings bytes i ≡ true → is_loaded bytes i ≡ true
unfolding is_strings
strings_loaded bytes i texts = and_left (is_loaded bytes i) _ texts

no_fields : (bytes : List ℕ) (i : ℕ) → is_strings bytes i ≡ true → normal_fault bytes ≡ None → fields_of bytes i ≡ []
no_fields bytes i texts none =
    nothing_in (fields_of bytes i) (λ r has.
    let apart = kind_strings bytes i r (fine bytes i r (strings_loaded bytes i texts) none has).kind in
    let no : true ≡ false = sym texts ∙ apart in absurd cc)

blanked_none : (place : ℕ) (bytes : List ℕ) → blanked_from place [] bytes ≡ bytes
blanked_none place [] = refl
blanked_none place (byte ∷ bytes) = ap (λ bs. byte ∷ bs) (blanked_none (suc place) bytes)

-- ---- a text that ends stands in its section's bytes
first_by : (xs : List ℕ) (b : Bool) → (list_any is_zero xs ≡ true → position_or_len is_zero xs < length xs)
    → (b || list_any is_zero xs) ≡ true → cond (not b) (1 + position_or_len is_zero xs) 0 < suc (length xs)
first_by xs true later here = omega arith
first_by xs false later here = let rest = later here in omega (arith, rest)

first_within : (xs : List ℕ) → list_any is_zero xs ≡ true → position_or_len is_zero xs < length xs
first_within [] some = absurd cc
first_within (x ∷ xs) some = first_by xs (is_zero x) (first_within xs) some

text_stands : (bytes : List ℕ) (offset : ℕ) → ends_in bytes offset ≡ true
    → (offset + length (text_through bytes offset) ≤ length bytes)
    × (text_through bytes offset ≡ take (length (text_through bytes offset)) (drop offset bytes))
unfolding text_through
text_stands bytes offset ends =
    let rest : List ℕ = drop offset bytes in
    let n : ℕ = position_or_len is_zero rest in
    let within : n < length rest = first_within rest ends in
    let last : get_or rest n 0 ≡ 0 = eqb-true (get_or rest n 0) 0 (passes_at_first is_zero rest 0 within) in
    let same : take (n + 1) rest ≡ take n rest ++ 0 ∷ [] =
    take_more rest n 0 within ∙ ap (λ x. take n rest ++ x ∷ []) last in
    let size : length (take n rest ++ 0 ∷ []) ≡ n + 1 =
    sym (ap length same) ∙ length-take-le (n + 1) rest (omega arith) in (
      omega (arith, size, within, length-drop offset bytes),
      sym same ∙ sym (ap (λ m. take m rest) size),
    )

stands_at : (bytes : List ℕ) (j offset : ℕ) → is_strings bytes j ≡ true → normal_fault bytes ≡ None
    → ends_in (section_bytes bytes j) offset ≡ true → StandsAt (normal_section bytes j) offset
    (text_through (section_bytes bytes j) offset)
unfolding normal_section blanked_bytes
stands_at bytes j offset texts none ends =
    let whole : blanked_from 0 (fields_of bytes j) (section_bytes bytes j) ≡ section_bytes bytes j =
    ap (λ fs. blanked_from 0 fs (section_bytes bytes j)) (no_fields bytes j texts none)
    ∙ blanked_none 0 (section_bytes bytes j) in
    let text = text_stands (section_bytes bytes j) offset ends in
    record { within = rw whole text.0; is = rw whole text.1 }

class_strings : (class : Class) → is_strings_class class ≡ true → class ≡ Strings
class_strings Zero is = absurd cc
class_strings Code is = absurd cc
class_strings Writable is = absurd cc
class_strings Strings is = refl
class_strings ReadOnly is = absurd cc

texts_class : (bytes : List ℕ) (j : ℕ) → is_strings bytes j ≡ true → (normal_section bytes j).class ≡ Strings
unfolding is_strings normal_section
texts_class bytes j texts = class_strings (class_of (section_header bytes j)) (and_right (is_loaded bytes j) _ texts)

texts_plain : (bytes : List ℕ) (j : ℕ) → is_strings bytes j ≡ true → normal_fault bytes ≡ None
    → (normal_section bytes j).refs ≡ []
unfolding normal_section references_of
texts_plain bytes j texts none = ap (map (reference_of bytes j)) (no_fields bytes j texts none)

-- ---- the loaded sections
loaded_by : (bytes : List ℕ) (n : ℕ) (section : NormalSection) (b : Bool) → is_loaded bytes n ≡ b
    → (Has (loaded_below bytes n) section → (i : ℕ) × (is_loaded bytes i ≡ true) × (normal_section bytes i ≡ section))
    → Has (cond b (loaded_below bytes n ++ normal_section bytes n ∷ []) (loaded_below bytes n)) section
    → (i : ℕ) × (is_loaded bytes i ≡ true) × (normal_section bytes i ≡ section)
loaded_by bytes n section false loaded before has = before has
loaded_by bytes n section true loaded before has =
    elim (has_either (loaded_below bytes n) (normal_section bytes n ∷ []) section has) [
      | inl earlier ↦ before earlier
      | inr last ↦ elim last [ inl is ↦ (n, loaded, is) | inr none ↦ absurd none ]
    ]

loaded_is : (bytes : List ℕ) (n : ℕ) (section : NormalSection) → Has (loaded_below bytes n) section
    → (i : ℕ) × (is_loaded bytes i ≡ true) × (normal_section bytes i ≡ section)
loaded_is bytes zero section has = absurd has
loaded_is bytes (suc n) section has =
    loaded_by bytes n section (is_loaded bytes n) refl (loaded_is bytes n section) has

section_is : (bytes : List ℕ) (section : NormalSection) → Has (loaded_sections bytes) section
    → (i : ℕ) × (is_loaded bytes i ≡ true) × (normal_section bytes i ≡ section)
unfolding loaded_sections
section_is bytes section has = loaded_is bytes (section_count bytes) section has

listed_last : (bytes : List ℕ) (n : ℕ) (b : Bool) → b ≡ true
    → Has (cond b (loaded_below bytes n ++ normal_section bytes n ∷ []) (loaded_below bytes n)) (normal_section bytes n)
listed_last bytes n true loaded = has_right (loaded_below bytes n) (normal_section bytes n ∷ []) _ (inl refl)
listed_last bytes n false loaded = absurd cc

listed_before : (bytes : List ℕ) (n : ℕ) (section : NormalSection) (b : Bool) → Has (loaded_below bytes n) section
    → Has (cond b (loaded_below bytes n ++ normal_section bytes n ∷ []) (loaded_below bytes n)) section
listed_before bytes n section true has = has_left (loaded_below bytes n) (normal_section bytes n ∷ []) section has
listed_before bytes n section false has = has

listed : (bytes : List ℕ) (n j : ℕ) → is_loaded bytes j ≡ true → j < n
    → Has (loaded_below bytes n) (normal_section bytes j)
listed bytes zero j loaded low = absurd (omega arith)
listed bytes (suc n) j loaded low =
    elim (cases_lt j n) [
      | inl lt ↦ listed_before bytes n (normal_section bytes j) (is_loaded bytes n) (listed bytes n j loaded lt)
      | inr le ↦
          let e : n ≡ j = omega arith in
          subst (λ (m : ℕ). Has (loaded_below bytes (suc n)) (normal_section bytes m)) e
          (listed_last bytes n (is_loaded bytes n) (ap (is_loaded bytes) e ∙ loaded))
    ]

is_listed : (bytes : List ℕ) (j : ℕ) → is_loaded bytes j ≡ true → Has (loaded_sections bytes) (normal_section bytes j)
unfolding loaded_sections
is_listed bytes j loaded = listed bytes (section_count bytes) j loaded (loaded_within bytes j loaded)

name_is : (bytes : List ℕ) (j : ℕ) → (normal_section bytes j).name ≡ section_name bytes j
unfolding normal_section
name_is bytes j = refl

named_place : (object : List NormalSection) (section : NormalSection) (place : Option ℕ)
    → at_place object place ≡ Some section
    → (p : ℕ) × (place ≡ Some p) × (slice_get object p ≡ Some section)
named_place object section None at = absurd cc
named_place object section (Some p) at = (p, refl, at)

-- where a section stands that is found by its name
pub found_place : (object : List NormalSection) (section : NormalSection) (name : List ℕ)
    → section_named object name ≡ Some section
    → (p : ℕ) × (place_named object name ≡ Some p) × (slice_get object p ≡ Some section)
found_place object section name found =
    named_place object section (place_named object name) (sym (section_named_at object name) ∙ found)

named_itself : (bytes : List ℕ) (section : NormalSection) → normal_fault bytes ≡ None
    → Has (loaded_sections bytes) section → section_named (loaded_sections bytes) section.name ≡ Some section
named_itself bytes section none has =
    all_has (λ (s : NormalSection). section_named (loaded_sections bytes) s.name ≡ Some s) (loaded_sections bytes)
    section (all_named bytes none) has

place_of_loaded : (bytes : List ℕ) (j : ℕ) → normal_fault bytes ≡ None → is_loaded bytes j ≡ true
    → (p : ℕ) × (place_named (loaded_sections bytes) (section_name bytes j) ≡ Some p)
    × (slice_get (loaded_sections bytes) p ≡ Some (normal_section bytes j))
place_of_loaded bytes j none loaded =
    found_place (loaded_sections bytes) (normal_section bytes j) (section_name bytes j)
    (ap (section_named (loaded_sections bytes)) (sym (name_is bytes j))
    ∙ named_itself bytes (normal_section bytes j) none (is_listed bytes j loaded))

-- ---- what a reference has
target_by : (r : Reloc) (outside strings named : Bool) (out name bytes : List ℕ) (a v sum : ℕ) →
    (cond outside (reference_to r (to.Outside out) a)
    (cond (strings && named) (reference_to r (to.Text name a (text_through bytes a)) 0)
    (cond strings (reference_to r (to.Text name v (text_through bytes v)) a)
    (reference_to r (to.Section name) sum)))).target
    ≡ cond outside (to.Outside out)
    (cond strings (to.Text name (cond named a v) (text_through bytes (cond named a v))) (to.Section name))
target_by r true strings named out name bytes a v sum = refl
target_by r false true true out name bytes a v sum = refl
target_by r false true false out name bytes a v sum = refl
target_by r false false named out name bytes a v sum = refl

target_is : (bytes : List ℕ) (i : ℕ) (r : Reloc) →
    (reference_of bytes i r).target
    ≡ cond (is_outside (symbol_of bytes r)) (to.Outside (symbol_name bytes r.symbol))
    (cond (is_strings bytes (symbol_of bytes r).section)
    (text_target bytes (symbol_of bytes r).section (text_offset (symbol_of bytes r) (addend_in bytes i r)))
    (to.Section (section_name bytes (symbol_of bytes r).section)))
unfolding reference_of
target_is bytes i r =
    let symbol = symbol_of bytes r in
    target_by r (is_outside symbol) (is_strings bytes symbol.section) (is_section_symbol symbol)
    (symbol_name bytes r.symbol) (section_name bytes symbol.section) (section_bytes bytes symbol.section)
    (addend_in bytes i r) symbol.value ((addend_in bytes i r + symbol.value) % 2 ^ 32)

-- what holds of a reference in each row of the table of targets
row_by : (P : Ref → Type 0) (r : Reloc) (outside texts named : Bool) (out by_addend by_value inside : Target)
    (a sum : ℕ) → P (reference_to r out a) → P (reference_to r by_addend 0) → P (reference_to r by_value a)
    → P (reference_to r inside sum) → P (cond outside (reference_to r out a)
    (cond (texts && named) (reference_to r by_addend 0)
    (cond texts (reference_to r by_value a) (reference_to r inside sum))))
row_by P r true texts named out by_addend by_value inside a sum w x y z = w
row_by P r false true true out by_addend by_value inside a sum w x y z = x
row_by P r false true false out by_addend by_value inside a sum w x y z = y
row_by P r false false named out by_addend by_value inside a sum w x y z = z

row_low : (n : ℕ) → n % 2 ^ 32 < 2 ^ 32
row_low n = omega arith

offset_is : (bytes : List ℕ) (i : ℕ) (r : Reloc) → (reference_of bytes i r).offset ≡ r.offset
unfolding reference_of
offset_is bytes i r =
    let symbol = symbol_of bytes r in
    row_by (λ (x : Ref). x.offset ≡ r.offset) r (is_outside symbol) (is_strings bytes symbol.section)
    (is_section_symbol symbol) _ _ _ _ _ _ refl refl refl refl

form_is : (bytes : List ℕ) (i : ℕ) (r : Reloc) → (reference_of bytes i r).form ≡ form_of r
unfolding reference_of
form_is bytes i r =
    let symbol = symbol_of bytes r in
    row_by (λ (x : Ref). x.form ≡ form_of r) r (is_outside symbol) (is_strings bytes symbol.section)
    (is_section_symbol symbol) _ _ _ _ _ _ refl refl refl refl

addend_is_low : (bytes : List ℕ) (i : ℕ) (r : Reloc) → AreSmall bytes → (reference_of bytes i r).addend < 2 ^ 32
unfolding reference_of
addend_is_low bytes i r small =
    let symbol = symbol_of bytes r in
    let low = addend_low bytes i r small in
    row_by (λ (x : Ref). x.addend < 2 ^ 32) r (is_outside symbol) (is_strings bytes symbol.section)
    (is_section_symbol symbol) _ _ _ _ _ _ low (omega arith) low (row_low (addend_in bytes i r + symbol.value))

there_by : (object : List NormalSection) (outside strings : Bool) (out name : List ℕ) (offset : ℕ) (text : List ℕ)
    → (outside ≡ false → strings ≡ true → IsTextThere object name offset text)
    → (outside ≡ false → IsSectionThere object name) → IsThere object
    (cond outside (to.Outside out) (cond strings (to.Text name offset text) (to.Section name)))
there_by object true strings out name offset text in_text in_section = tt
there_by object false true out name offset text in_text in_section = in_text refl refl
there_by object false false out name offset text in_text in_section = in_section refl

target_there : (bytes : List ℕ) (i : ℕ) (r : Reloc) → normal_fault bytes ≡ None → IsFine bytes i r
    → IsThere (loaded_sections bytes) (reference_of bytes i r).target
target_there bytes i r none fine =
    let symbol = symbol_of bytes r in
    let j = symbol.section in
    let offset = text_offset symbol (addend_in bytes i r) in
    rw (target_is bytes i r)
    (there_by (loaded_sections bytes) (is_outside symbol) (is_strings bytes j) (symbol_name bytes r.symbol)
    (section_name bytes j) offset (text_through (section_bytes bytes j) offset)
    (λ inside texts.
    let it = place_of_loaded bytes j none (strings_loaded bytes j texts) in
    record {
      place = it.0;
      section = normal_section bytes j;
      named = it.1;
      at = it.2;
      texts = texts_class bytes j texts;
      plain = texts_plain bytes j texts none;
      stands = stands_at bytes j offset texts none (not_second _ _ (text_ends bytes i r fine.text) texts);
    })
    (λ inside.
    let it = place_of_loaded bytes j none (or_second _ _ (target_leads bytes i r fine.target) inside) in
    record { place = it.0; section = normal_section bytes j; named = it.1; at = it.2 }))

absolute_by : (r : Reloc) (code : Bool) → (is_absolute r || code) ≡ true → code ≡ false → form_of r ≡ Absolute
absolute_by r code either none = by (is_absolute r) either
  where
    by : (b : Bool) → (b || code) ≡ true → cond b Absolute Relative ≡ Absolute
    by true here = refl
    by false later = absurd (let no : false ≡ true = sym none ∙ later in cc)

code_by : (bytes : List ℕ) (i : ℕ) → is_code_class (normal_section bytes i).class ≡ false → is_code bytes i ≡ false
unfolding is_code normal_section
code_by bytes i plain = rw plain (by (is_loaded bytes i))
  where
    by : (b : Bool) → b && false ≡ false
    by true = refl
    by false = refl

size_is : (bytes : List ℕ) (i : ℕ) → (normal_section bytes i).size ≡ (section_header bytes i).size
unfolding normal_section
size_is bytes i = refl

refs_are : (bytes : List ℕ) (i : ℕ) → (normal_section bytes i).refs ≡ map (reference_of bytes i) (fields_of bytes i)
unfolding normal_section references_of
refs_are bytes i = refl

ref_of : (bytes : List ℕ) (i : ℕ) (r : Reloc) → AreSmall bytes → object_fault bytes ≡ None
    → normal_fault bytes ≡ None → is_loaded bytes i ≡ true → Has (fields_of bytes i) r
    → IsReadRef (loaded_sections bytes) (normal_section bytes i) (reference_of bytes i r)
ref_of bytes i r small object none loaded has =
    let it = fine bytes i r loaded none has in
    let low = inside_field bytes i r object has in
    record {
      there = target_there bytes i r none it;
      form = λ plain. form_is bytes i r ∙ absolute_by r (is_code bytes i) (kind_form bytes i r it.kind)
          (code_by bytes i plain);
      addend = addend_is_low bytes i r small;
      inside = omega (arith, low, offset_is bytes i r, size_is bytes i);
    }

ref_in : (bytes : List ℕ) (section : NormalSection) (r : Ref) → AreSmall bytes → object_fault bytes ≡ None
    → normal_fault bytes ≡ None → Has (loaded_sections bytes) section → Has section.refs r
    → IsReadRef (loaded_sections bytes) section r
ref_in bytes section r small object none has_section has =
    let (i, loaded, is) = section_is bytes section has_section in
    let here : Has (normal_section bytes i).refs r = subst (λ (s : NormalSection). Has s.refs r) (sym is) has in
    let (field, has_field, same) = map_has (reference_of bytes i) (fields_of bytes i) r
    (subst (λ (rs : List Ref). Has rs r) (refs_are bytes i) here) in
    subst (λ (s : NormalSection). IsReadRef (loaded_sections bytes) s r) is
    (subst (λ (x : Ref). IsReadRef (loaded_sections bytes) (normal_section bytes i) x) same
    (ref_of bytes i field small object none loaded has_field))

-- ---- a file that isn't refused
abbrev pub SectionsAreWhole : Type 0
SectionsAreWhole = (bytes : List ℕ) → object_fault bytes ≡ None → AreWhole (loaded_sections bytes)

abbrev pub SectionsAreBlank : Type 0
SectionsAreBlank = (bytes : List ℕ) → All HasBlankFields (loaded_sections bytes)

-- what is known of the sections of each file
pub record AreSections : Type 0 where
  pub whole : SectionsAreWhole
  pub blank : SectionsAreBlank

pub record IsFile (bytes : List ℕ) (sections : List NormalSection) : Type 0 where
  pub object : object_fault bytes ≡ None
  pub normal : normal_fault bytes ≡ None
  pub is : loaded_sections bytes ≡ sections

file_by : (bytes : List ℕ) (fault : Option ObjectFault) (refusal : Option Refusal) (sections : List NormalSection) →
    object_fault bytes ≡ fault → normal_fault bytes ≡ refusal →
    sections_unless fault refusal (loaded_sections bytes) ≡ Ok sections → IsFile bytes sections
file_by bytes (Some f) refusal sections object normal is = absurd cc
file_by bytes None (Some r) sections object normal is = absurd cc
file_by bytes None None sections object normal is = record { object = object; normal = normal; is = cc }

pub is_file : (bytes : List ℕ) (sections : List NormalSection) → sections_of bytes ≡ Ok sections → IsFile bytes sections
unfolding sections_of
is_file bytes sections is = file_by bytes (object_fault bytes) (normal_fault bytes) sections refl refl is

loaded_object : AreSections → (bytes : List ℕ) → AreSmall bytes → object_fault bytes ≡ None
    → normal_fault bytes ≡ None → IsReadObject (loaded_sections bytes)
loaded_object are bytes small object none = record {
  distinct = distinct_names bytes none;
  named = λ section has. named_itself bytes section none has;
  whole = λ section has. each_has IsWhole (loaded_sections bytes) section (are.whole bytes object) has;
  blank = λ section has. all_has HasBlankFields (loaded_sections bytes) section (are.blank bytes) has;
  refs = λ section r has_section has. ref_in bytes section r small object none has_section has;
}

pub read_object : AreSections → (bytes : List ℕ) (object : List NormalSection) → AreSmall bytes
    → sections_of bytes ≡ Ok object → IsReadObject object
read_object are bytes object small is =
    let file = is_file bytes object is in
    subst IsReadObject file.is (loaded_object are bytes small file.object file.normal)
