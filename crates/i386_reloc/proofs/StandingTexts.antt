-- The texts and the sections to which references go, where nothing is wrong with an object.
use Rattle.std.proofs.Common.{◌≡◌, ℕ, zero, suc, ◌+◌, ◌<◌, ◌≤◌, Bool, true, false, cond, List}
use Rattle.std.proofs.Common.{[], ◌∷◌, ◌++◌, length, take, drop, get_or, Some, None, IsSomeAnd}
use Rattle.std.proofs.Common.{refl, ap, sym, ◌∙◌, inl, inr, arith, All, length-drop}
use Rattle.std.specs.List.{position_or_len, list_any}
use Rattle.std.proofs.lemmas.Bool.{cases_lt, eqb-true}
use Rattle.std.proofs.lemmas.List.{take_more, length-take-le}
use Rattle.std.proofs.lemmas.List.Elements.{All-nil, All-push, All-map, All-weaker}
use Rattle.std.proofs.lemmas.List.Sums.{passes_at_first, fails_before_first}
use Rattle.elf32_object.specs.declared.types.Reloc.{Reloc}
use Rattle.elf32_object.specs.Fields.{section_count, section_name, section_bytes}
use Rattle.elf32_object.specs.Fields.{symbol_name, is_loaded, is_zero, ends_in}
use Rattle.i386_reloc.specs.declared.types.NormalSection.{NormalSection}
use Rattle.i386_reloc.specs.declared.types.Ref.{Ref}
use Rattle.i386_reloc.specs.declared.types.Target.TheVariants as to
use Rattle.i386_reloc.specs.Classes.{is_strings}
use Rattle.i386_reloc.specs.Normal.{section_named, loaded_below, loaded_sections, normal_section}
use Rattle.i386_reloc.specs.References.{symbol_of, is_outside, text_offset, text_through, addend_in}
use Rattle.i386_reloc.specs.References.{reference_of, references_of, fields_of, blanked_from, blanked_bytes}
use Rattle.i386_reloc.specs.Refused.{name_fault, relocation_fault}
use Rattle.i386_reloc.specs.Texts.{StandsAt, StandsIn, HasTexts}
use Rattle.i386_reloc.proofs.Blanks.{blanked_none}
use Rattle.i386_reloc.proofs.LoadedPlaces.{is_at}
use Rattle.i386_reloc.specs.inside.Fields.{IsRight}
use Rattle.i386_reloc.proofs.Going.{target_is}
use Rattle.i386_reloc.proofs.RightFields.{all_right, no_fields, strings_loaded, loaded_within}
use Rattle.i386_reloc.proofs.ZeroPlaces.{none_from, is_zero_true}

-- a text that ends stands in its section's bytes
first_within : (xs : List ℕ) → list_any is_zero xs ≡ true → position_or_len is_zero xs < length xs
first_within xs some =
    elim (cases_lt (position_or_len is_zero xs) (length xs)) [
      | inl lt ↦ lt
      | inr le ↦
          let none : list_any is_zero xs ≡ false = none_from xs
          (λ k within here.
          let fails = fails_before_first is_zero xs k 0 (omega (arith, le, within)) in
          let passes = is_zero_true (get_or xs k 0) here in
          absurd cc) in
          absurd cc
    ]

text_stands : (bytes : List ℕ) (offset : ℕ) → ends_in bytes offset ≡ true
    → (offset + length (text_through bytes offset) ≤ length bytes)
    × (text_through bytes offset ≡ take (length (text_through bytes offset)) (drop offset bytes))
unfolding text_through
text_stands bytes offset ends =
    let rest : List ℕ = drop offset bytes in
    let n : ℕ = position_or_len is_zero rest in
    let within : n < length rest = first_within rest ends in
    let last : get_or rest n 0 ≡ 0 = eqb-true (get_or rest n 0) 0 (passes_at_first is_zero rest 0 within) in
    let same : take (n + 1) rest ≡ take n rest ++ 0 ∷ [] =
    take_more rest n 0 within ∙ ap (λ x. take n rest ++ x ∷ []) last in
    let size : length (take n rest ++ 0 ∷ []) ≡ n + 1 =
    sym (ap length same) ∙ length-take-le (n + 1) rest (omega arith) in (
      omega (arith, size, within, length-drop offset bytes),
      sym same ∙ sym (ap (λ m. take m rest) size),
    )

stands_at : (bytes : List ℕ) (j offset : ℕ) → is_strings bytes j ≡ true → relocation_fault bytes ≡ None
    → ends_in (section_bytes bytes j) offset ≡ true → StandsAt (normal_section bytes j) offset
    (text_through (section_bytes bytes j) offset)
unfolding normal_section blanked_bytes
stands_at bytes j offset texts none ends =
    let whole : blanked_from 0 (fields_of bytes j) (section_bytes bytes j) ≡ section_bytes bytes j =
    ap (λ fs. blanked_from 0 fs (section_bytes bytes j)) (no_fields bytes j texts none)
    ∙ blanked_none 0 (section_bytes bytes j) in
    let text = text_stands (section_bytes bytes j) offset ends in
    record {
      within = rw whole text.0;
      is = rw whole text.1;
    }

-- what a reference goes to
stands_by : (sections : List NormalSection) (outside strings : Bool) (out name : List ℕ) (offset : ℕ) (text : List ℕ)
    → (outside ≡ false → strings ≡ true → IsSomeAnd (section_named sections name)
    (λ section. StandsAt section offset text)) → StandsIn sections
    (cond outside (to.Outside out) (cond strings (to.Text name offset text) (to.Section name)))
stands_by sections true strings out name offset text held = tt
stands_by sections false true out name offset text held = held refl refl
stands_by sections false false out name offset text held = tt

held_in : (sections : List NormalSection) (name : List ℕ) (section : NormalSection) (offset : ℕ) (text : List ℕ)
    → section_named sections name ≡ Some section → StandsAt section offset text
    → IsSomeAnd (section_named sections name) (λ s. StandsAt s offset text)
held_in sections name section offset text found stands = rw found stands

target_stands : (bytes : List ℕ) (i : ℕ) (r : Reloc) → name_fault bytes ≡ None → relocation_fault bytes ≡ None
    → IsRight bytes i r → StandsIn (loaded_sections bytes) (reference_of bytes i r).target
unfolding loaded_sections name_fault
target_stands bytes i r names none right =
    let symbol = symbol_of bytes r in
    let j = symbol.section in
    let offset = text_offset symbol (addend_in bytes i r) in
    rw (target_is bytes i r)
    (stands_by (loaded_below bytes (section_count bytes)) (is_outside symbol) (is_strings bytes j)
    (symbol_name bytes r.symbol) (section_name bytes j) offset (text_through (section_bytes bytes j) offset)
    (λ inside texts.
    let loaded = strings_loaded bytes j texts in
    held_in (loaded_below bytes (section_count bytes)) (section_name bytes j) (normal_section bytes j) offset
    (text_through (section_bytes bytes j) offset)
    (is_at bytes j (section_count bytes) loaded (loaded_within bytes j loaded) names).1
    (stands_at bytes j offset texts none (right.ends texts))))

-- of all references
references_stand : (bytes : List ℕ) (i : ℕ) → is_loaded bytes i ≡ true → name_fault bytes ≡ None
    → relocation_fault bytes ≡ None → All (λ (r : Ref). StandsIn (loaded_sections bytes) r.target)
    (references_of bytes i)
unfolding references_of
references_stand bytes i loaded names none =
    All-map (λ (r : Ref). StandsIn (loaded_sections bytes) r.target) (reference_of bytes i) (fields_of bytes i)
    (All-weaker (IsRight bytes i) (λ r. StandsIn (loaded_sections bytes) (reference_of bytes i r).target)
    (λ r right. target_stands bytes i r names none right)
    (fields_of bytes i) (all_right bytes i loaded none))

abbrev SectionHasTexts : List NormalSection → NormalSection → Type 0
SectionHasTexts sections section = All (λ r. StandsIn sections r.target) section.refs

texts_more : (bytes : List ℕ) (i : ℕ) (b : Bool) → is_loaded bytes i ≡ b → name_fault bytes ≡ None
    → relocation_fault bytes ≡ None → All (SectionHasTexts (loaded_sections bytes)) (loaded_below bytes i)
    → All (SectionHasTexts (loaded_sections bytes))
    (cond b (loaded_below bytes i ++ normal_section bytes i ∷ []) (loaded_below bytes i))
unfolding normal_section
texts_more bytes i true loaded names none before =
    All-push (SectionHasTexts (loaded_sections bytes)) (loaded_below bytes i) (normal_section bytes i) before
    (references_stand bytes i loaded names none)
texts_more bytes i false loaded names none before = before

texts_below : (bytes : List ℕ) (n : ℕ) → name_fault bytes ≡ None → relocation_fault bytes ≡ None
    → All (SectionHasTexts (loaded_sections bytes)) (loaded_below bytes n)
texts_below bytes zero names none = All-nil (SectionHasTexts (loaded_sections bytes))
texts_below bytes (suc n) names none =
    texts_more bytes n (is_loaded bytes n) refl names none (texts_below bytes n names none)

all_loaded : (bytes : List ℕ) → All (SectionHasTexts (loaded_sections bytes)) (loaded_below bytes (section_count bytes))
    → HasTexts (loaded_sections bytes)
unfolding loaded_sections
all_loaded bytes all = all

pub has_texts : (bytes : List ℕ) → name_fault bytes ≡ None → relocation_fault bytes ≡ None
    → HasTexts (loaded_sections bytes)
has_texts bytes names none = all_loaded bytes (texts_below bytes (section_count bytes) names none)
