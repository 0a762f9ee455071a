-- Where the references of an object's sections go, where nothing is wrong with the object: each to a section that is
-- there, or to an outside name. Sections of texts refer to nothing.
use Rattle.std.proofs.Common.{◌≡◌, ℕ, zero, suc, ◌<◌, Bool, true, false, ◌&&◌, ◌||◌, ◌==◌, cond, List, [], ◌∷◌}
use Rattle.std.proofs.Common.{◌++◌, ◌+◌, ◌%◌, ◌^◌, Some, None, refl, sym, ap, subst, ◌∙◌, inl, inr}
use Rattle.std.proofs.Common.{arith}
use Rattle.std.proofs.lemmas.Bool.{cases_eq, false≢true, ne_eqb}
use Rattle.std.proofs.lemmas.Bool.Decides.{nat_tests}
use Rattle.i386_reloc.specs.Below.{first_of}
use Rattle.i386_reloc.specs.Reloc.{Reloc}
use Rattle.i386_reloc.specs.Fields.{is_loaded, is_section, section_count, section_header, section_name, symbol_name}
use Rattle.i386_reloc.specs.Rules.{has_field}
use Rattle.i386_reloc.specs.BelowLaws.{none_below, none_first, none_second}
use Rattle.i386_reloc.specs.declared.types.Class.{Class}
use Rattle.i386_reloc.specs.declared.types.Class.TheVariants.{Zero, Code, Writable, Strings, ReadOnly}
use Rattle.i386_reloc.specs.declared.types.NormalSection.{NormalSection}
use Rattle.i386_reloc.specs.declared.types.Ref.{Ref}
use Rattle.i386_reloc.specs.declared.types.Target.{Target}
use Rattle.i386_reloc.specs.declared.types.Target.TheVariants.{Section, Outside, Text}
use Rattle.i386_reloc.specs.Classes.{class_of, is_strings, is_strings_class}
use Rattle.i386_reloc.specs.Normal.{loaded_below, loaded_sections, normal_section, section_named}
use Rattle.i386_reloc.specs.References.{addend_in, fields_of, is_outside, is_section_symbol, reference_of}
use Rattle.i386_reloc.specs.References.{reference_to, references_of, relocations_of, symbol_of, text_target}
use Rattle.i386_reloc.specs.Refused.{first_among, kind_fault, normal_fault, relocation_fault, relocation_fault_at}
use Rattle.i386_reloc.specs.Refused.{relocation_fault_of, target_fault, text_fault}
use Rattle.update_plan.proofs.Fields.{and_left, and_right, field_has}
use Rattle.update_plan.proofs.SoundFile.{IsFile, named_itself}
use Rattle.update_plan.proofs.SoundLists.{Has, has_either, map_has, none_has}

-- ---- loaded sections by their indices
pub record IsLoadedAt (bytes : List ℕ) (section : NormalSection) : Type 0 where
  pub index : ℕ
  pub low : index < section_count bytes
  pub loaded : is_loaded bytes index ≡ true
  pub is : normal_section bytes index ≡ section

loaded_by : (bytes : List ℕ) (n : ℕ) (section : NormalSection) (b : Bool) → is_loaded bytes n ≡ b
    → (Has (loaded_below bytes n) section
    → (i : ℕ) × (i < n) × (is_loaded bytes i ≡ true) × (normal_section bytes i ≡ section))
    → Has (cond b (loaded_below bytes n ++ normal_section bytes n ∷ []) (loaded_below bytes n)) section
    → (i : ℕ) × (i < suc n) × (is_loaded bytes i ≡ true) × (normal_section bytes i ≡ section)
loaded_by bytes n section false at before has =
    let it = before has in
    (it.0, (let low = it.1 in omega (arith, low)), it.2, it.3)
loaded_by bytes n section true at before has =
    elim (has_either (loaded_below bytes n) (normal_section bytes n ∷ []) section has) [
      | inl earlier ↦
          let it = before earlier in
          (it.0, (let low = it.1 in omega (arith, low)), it.2, it.3)
      | inr last ↦ elim last [ inl is ↦ (n, omega arith, at, is) | inr none ↦ absurd none ]
    ]

loaded_is : (bytes : List ℕ) (n : ℕ) (section : NormalSection) → Has (loaded_below bytes n) section
    → (i : ℕ) × (i < n) × (is_loaded bytes i ≡ true) × (normal_section bytes i ≡ section)
loaded_is bytes zero section has = absurd has
loaded_is bytes (suc n) section has =
    loaded_by bytes n section (is_loaded bytes n) refl (loaded_is bytes n section) has

pub loaded_at : (bytes : List ℕ) (section : NormalSection) → Has (loaded_sections bytes) section
    → IsLoadedAt bytes section
unfolding loaded_sections
loaded_at bytes section has =
    let it = loaded_is bytes (section_count bytes) section has in
    record { index = it.0; low = it.1; loaded = it.2; is = it.3 }

has_before : (xs ys : List NormalSection) (section : NormalSection) → Has xs section → Has (xs ++ ys) section
has_before [] ys section has = absurd has
has_before (x ∷ xs) ys section (inl is) = inl is
has_before (x ∷ xs) ys section (inr rest) = inr (has_before xs ys section rest)

has_last : (xs : List NormalSection) (section : NormalSection) → Has (xs ++ section ∷ []) section
has_last [] section = inl refl
has_last (x ∷ xs) section = inr (has_last xs section)

more : (bytes : List ℕ) (n : ℕ) (section : NormalSection) (b : Bool) → Has (loaded_below bytes n) section
    → Has (cond b (loaded_below bytes n ++ normal_section bytes n ∷ []) (loaded_below bytes n)) section
more bytes n section true has = has_before (loaded_below bytes n) (normal_section bytes n ∷ []) section has
more bytes n section false has = has

here : (bytes : List ℕ) (n : ℕ) (b : Bool) → b ≡ true
    → Has (cond b (loaded_below bytes n ++ normal_section bytes n ∷ []) (loaded_below bytes n)) (normal_section bytes n)
here bytes n true is = has_last (loaded_below bytes n) (normal_section bytes n)
here bytes n false is = absurd cc

listed_below : (bytes : List ℕ) (n j : ℕ) → j < n → is_loaded bytes j ≡ true
    → Has (loaded_below bytes n) (normal_section bytes j)
listed_below bytes zero j low loaded = absurd (omega (arith, low))
listed_below bytes (suc n) j low loaded =
    elim (cases_eq j n) [
      | inl same ↦
          subst (λ k. Has (loaded_below bytes (suc n)) (normal_section bytes k)) (sym same)
          (here bytes n (is_loaded bytes n) (ap (is_loaded bytes) (sym same) ∙ loaded))
      | inr other ↦
          more bytes n (normal_section bytes j) (is_loaded bytes n)
          (listed_below bytes n j (omega (arith, low, other)) loaded)
    ]

section_low : (bytes : List ℕ) (j : ℕ) → is_loaded bytes j ≡ true → j < section_count bytes
unfolding is_loaded is_section
section_low bytes j loaded = grind (arith, nat_tests)

listed : (bytes : List ℕ) (j : ℕ) → is_loaded bytes j ≡ true → Has (loaded_sections bytes) (normal_section bytes j)
unfolding loaded_sections
listed bytes j loaded = listed_below bytes (section_count bytes) j (section_low bytes j loaded) loaded

-- ---- what isn't refused of a relocation
relocation_right : (bytes : List ℕ) (i : ℕ) (r : Reloc) → normal_fault bytes ≡ None → i < section_count bytes
    → is_loaded bytes i ≡ true → Has (relocations_of bytes i) r → relocation_fault_of bytes i r ≡ None
unfolding normal_fault relocation_fault relocation_fault_at
relocation_right bytes i r none low loaded has =
    let all = none_second _ _ (none_second _ _ none) in
    let own = none_below (relocation_fault_at bytes) (section_count bytes) all i low in
    none_has (relocation_fault_of bytes i) (relocations_of bytes i) r
    (by (is_loaded bytes i) loaded own) has
  where
    by : (b : Bool) → b ≡ true → cond b (first_among (relocation_fault_of bytes i) (relocations_of bytes i)) None ≡ None
        → first_among (relocation_fault_of bytes i) (relocations_of bytes i) ≡ None
    by true is own = own
    by false is own = absurd cc

record IsRight (bytes : List ℕ) (i : ℕ) (r : Reloc) : Type 0 where
  kind : kind_fault bytes i r ≡ None
  target : target_fault bytes i r ≡ None

some_kind : (kind : ℕ) → (kind == 1 || kind == 2 || kind == 4) ≡ true → (kind == 0) ≡ false
some_kind kind is =
    elim (cases_eq kind 0) [
      | inl none ↦
          let never : false ≡ true = sym (ap (λ k. k == 1 || k == 2 || k == 4) none) ∙ is in
          absurd (false≢true never)
      | inr some ↦ ne_eqb kind 0 some
    ]

right : (bytes : List ℕ) (i : ℕ) (r : Reloc) → relocation_fault_of bytes i r ≡ None → has_field r ≡ true
    → IsRight bytes i r
unfolding relocation_fault_of
right bytes i r none field = by (r.kind == 0) (some_kind r.kind field) none
  where
    by : (b : Bool) → b ≡ false
        → cond b None (first_of (kind_fault bytes i r) (first_of (target_fault bytes i r) (text_fault bytes i r))) ≡ None
        → IsRight bytes i r
    by true is all = absurd cc
    by false is all = record {
      kind = none_first _ _ all;
      target = none_first _ _ (none_second _ _ all);
    }

no_texts : (bytes : List ℕ) (i : ℕ) (r : Reloc) → kind_fault bytes i r ≡ None → is_strings bytes i ≡ false
unfolding kind_fault
no_texts bytes i r none = grind arith

inside_loaded : (bytes : List ℕ) (i : ℕ) (r : Reloc) → target_fault bytes i r ≡ None
    → is_outside (symbol_of bytes r) ≡ false → is_loaded bytes (symbol_of bytes r).section ≡ true
unfolding target_fault
inside_loaded bytes i r none inside = grind arith

-- ---- where a reference goes
-- A target's section is there, and it is one of texts where the target is a text.
abbrev pub GoesThere : List NormalSection → Target → Type 0
GoesThere sections (Section name) = (s : NormalSection) × (section_named sections name ≡ Some s)
GoesThere sections (Outside name) = Unit {0}
GoesThere sections (Text name offset text) =
    (s : NormalSection) × (section_named sections name ≡ Some s) × (s.class ≡ Strings)

named_at : (bytes : List ℕ) (file : IsFile bytes (loaded_sections bytes)) (j : ℕ) → is_loaded bytes j ≡ true
    → section_named (loaded_sections bytes) (section_name bytes j) ≡ Some (normal_section bytes j)
unfolding normal_section
named_at bytes file j loaded =
    named_itself bytes (loaded_sections bytes) file (normal_section bytes j) (listed bytes j loaded)

strings_class : (bytes : List ℕ) (j : ℕ) → is_strings bytes j ≡ true → (normal_section bytes j).class ≡ Strings
unfolding is_strings normal_section
strings_class bytes j is = by (class_of (section_header bytes j)) (and_right (is_loaded bytes j) _ is)
  where
    by : (c : Class) → is_strings_class c ≡ true → c ≡ Strings
    by Strings is = refl
    by Zero is = absurd cc
    by Code is = absurd cc
    by Writable is = absurd cc
    by ReadOnly is = absurd cc

strings_loaded : (bytes : List ℕ) (j : ℕ) → is_strings bytes j ≡ true → is_loaded bytes j ≡ true
unfolding is_strings
strings_loaded bytes j is = and_left (is_loaded bytes j) _ is

goes_by : (bytes : List ℕ) (file : IsFile bytes (loaded_sections bytes)) (r : Reloc) (a : ℕ)
    (outside texts named : Bool) → is_strings bytes (symbol_of bytes r).section ≡ texts
    → (outside ≡ false → is_loaded bytes (symbol_of bytes r).section ≡ true)
    → GoesThere (loaded_sections bytes)
    (cond outside (reference_to r (Outside (symbol_name bytes r.symbol)) a)
    (cond (texts && named) (reference_to r (text_target bytes (symbol_of bytes r).section a) 0)
    (cond texts (reference_to r (text_target bytes (symbol_of bytes r).section (symbol_of bytes r).value) a)
    (reference_to r (Section (section_name bytes (symbol_of bytes r).section))
    ((a + (symbol_of bytes r).value) % 2 ^ 32))))).target
goes_by bytes file r a true texts named is inside = tt
goes_by bytes file r a false true true is inside = (
  normal_section bytes (symbol_of bytes r).section,
  named_at bytes file (symbol_of bytes r).section (strings_loaded bytes (symbol_of bytes r).section is),
  strings_class bytes (symbol_of bytes r).section is,
)
goes_by bytes file r a false true false is inside = (
  normal_section bytes (symbol_of bytes r).section,
  named_at bytes file (symbol_of bytes r).section (strings_loaded bytes (symbol_of bytes r).section is),
  strings_class bytes (symbol_of bytes r).section is,
)
goes_by bytes file r a false false named is inside = (
  normal_section bytes (symbol_of bytes r).section,
  named_at bytes file (symbol_of bytes r).section (inside refl),
)

reference_goes : (bytes : List ℕ) (file : IsFile bytes (loaded_sections bytes)) (i : ℕ) (r : Reloc)
    → target_fault bytes i r ≡ None → GoesThere (loaded_sections bytes) (reference_of bytes i r).target
unfolding reference_of
reference_goes bytes file i r none =
    goes_by bytes file r (addend_in bytes i r) (is_outside (symbol_of bytes r))
    (is_strings bytes (symbol_of bytes r).section) (is_section_symbol (symbol_of bytes r)) refl
    (inside_loaded bytes i r none)

-- a field's relocation, and that it isn't refused
record IsOfField (bytes : List ℕ) (i : ℕ) (ref : Ref) : Type 0 where
  relocation : Reloc
  right : IsRight bytes i relocation
  is : reference_of bytes i relocation ≡ ref

of_field : (bytes : List ℕ) (i : ℕ) (ref : Ref) → normal_fault bytes ≡ None → i < section_count bytes
    → is_loaded bytes i ≡ true → Has (normal_section bytes i).refs ref → IsOfField bytes i ref
unfolding normal_section references_of
of_field bytes i ref none low loaded has =
    let it = map_has (reference_of bytes i) (fields_of bytes i) ref has in
    let both = field_has bytes i it.0 it.1 in
    record {
      relocation = it.0;
      right = right bytes i it.0 (relocation_right bytes i it.0 none low loaded both.0) both.1;
      is = it.2;
    }

module _ (bytes : List ℕ) (file : IsFile bytes (loaded_sections bytes)) where
  goes_there : (section : NormalSection) (ref : Ref) → Has (loaded_sections bytes) section → Has section.refs ref
      → GoesThere (loaded_sections bytes) ref.target
  goes_there section ref has has_ref =
      let at = loaded_at bytes section has in
      let own = of_field bytes at.index ref file.normal at.low at.loaded
      (subst (λ (s : NormalSection). Has s.refs ref) (sym at.is) has_ref) in
      subst (λ (r : Ref). GoesThere (loaded_sections bytes) r.target) own.is
      (reference_goes bytes file at.index own.relocation own.right.target)

  texts_refer_nowhere : (section : NormalSection) (ref : Ref) → Has (loaded_sections bytes) section
      → Has section.refs ref → section.class ≡ Strings → ⊥
  unfolding normal_section is_strings
  texts_refer_nowhere section ref has has_ref class =
      let at = loaded_at bytes section has in
      let own = of_field bytes at.index ref file.normal at.low at.loaded
      (subst (λ (s : NormalSection). Has s.refs ref) (sym at.is) has_ref) in
      let none = no_texts bytes at.index own.relocation own.right.kind in
      let texts : class_of (section_header bytes at.index) ≡ Strings =
      ap (λ (s : NormalSection). s.class) at.is ∙ class in
      by (is_loaded bytes at.index) (class_of (section_header bytes at.index)) at.loaded texts none
    where
      by : (loaded : Bool) (c : Class) → loaded ≡ true → c ≡ Strings → (loaded && is_strings_class c) ≡ false → ⊥
      by true Strings on is none = absurd cc
      by true Zero on is none = absurd cc
      by true Code on is none = absurd cc
      by true Writable on is none = absurd cc
      by true ReadOnly on is none = absurd cc
      by false c on is none = absurd cc

-- the same of the sections of a file
pub references_go_there : (bytes : List ℕ) (sections : List NormalSection) → IsFile bytes sections
    → (section : NormalSection) (ref : Ref) → Has sections section → Has section.refs ref → GoesThere sections ref.target
references_go_there bytes sections file section ref has has_ref =
    let same = file.is in
    subst (λ (ss : List NormalSection). GoesThere ss ref.target) same
    (goes_there bytes (record { object = file.object; normal = file.normal; is = refl }) section ref
    (subst (λ (ss : List NormalSection). Has ss section) (sym same) has) has_ref)

pub texts_have_no_references : (bytes : List ℕ) (sections : List NormalSection) → IsFile bytes sections
    → (section : NormalSection) (ref : Ref) → Has sections section → Has section.refs ref → section.class ≡ Strings → ⊥
texts_have_no_references bytes sections file section ref has has_ref class =
    texts_refer_nowhere bytes (record { object = file.object; normal = file.normal; is = refl }) section ref
    (subst (λ (ss : List NormalSection). Has ss section) (sym file.is) has) has_ref class
