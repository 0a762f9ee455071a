-- The loaded sections of an object that breaks no rule have all their bytes.
use Rattle.std.proofs.Common.{◌≡◌, ◌≢◌, ℕ, zero, suc, ◌+◌, ◌<◌, ◌≤◌, true, false, ◌==◌, ◌||◌, List, []}
use Rattle.std.proofs.Common.{◌∷◌, ◌++◌, length, take, drop, None, refl, ap, ◌∙◌}
use Rattle.std.proofs.Common.{if◌then◌else◌, inl, inr, arith, length-take, length-drop, All}
use Rattle.std.proofs.lemmas.Bool.{cases_Bool}
use Rattle.std.proofs.lemmas.List.Elements.{All-from_recursion}
use Rattle.std.proofs.lemmas.Bool.Decides.{nat_tests}
use Rattle.elf32_object.specs.Numbers.{SHT_NOBITS}
use Rattle.elf32_object.specs.declared.types.SectionHeader.{SectionHeader}
use Rattle.elf32_object.specs.declared.types.Reloc.{Reloc}
use Rattle.elf32_object.specs.Below.{first_below}
use Rattle.elf32_object.specs.Fields.{section_count, section_header, section_bytes, has_no_bytes, lies_in_file}
use Rattle.elf32_object.specs.Fields.{holds_program, is_section, is_loaded}
use Rattle.elf32_object.specs.Rules.{object_fault, place_fault, section_fault}
use Rattle.elf32_object.specs.laws.BelowLaws.{none_first, none_second, none_below}
use Rattle.i386_reloc.specs.declared.types.Class.TheVariants.{Zero}
use Rattle.i386_reloc.specs.declared.types.NormalSection.{NormalSection}
use Rattle.i386_reloc.specs.Classes.{class_of}
use Rattle.i386_reloc.specs.Normal.{loaded_below, loaded_sections, normal_section}
use Rattle.i386_reloc.specs.References.{blanked_from, blanked_bytes}
use Rattle.i386_reloc.specs.Whole.{IsWhole, AreWhole}

sections_kept : (bytes : List ℕ) → object_fault bytes ≡ None
    → first_below (section_fault bytes) (section_count bytes) ≡ None
unfolding object_fault
sections_kept bytes e = grind (arith, none_first, none_second)

place_kept : (bytes : List ℕ) (i : ℕ) → 0 < i → section_fault bytes i ≡ None → place_fault bytes i ≡ None
unfolding section_fault
place_kept bytes zero p e = absurd (omega arith)
place_kept bytes (suc i) p e = none_first (place_fault bytes (suc i)) _ e

in_file : (bytes : List ℕ) (i : ℕ) → place_fault bytes i ≡ None
    → (has_no_bytes (section_header bytes i) || lies_in_file bytes (section_header bytes i)) ≡ true
unfolding place_fault
in_file bytes i e = grind arith

lie : (bytes : List ℕ) (header : SectionHeader) → has_no_bytes header ≡ false
    → (has_no_bytes header || lies_in_file bytes header) ≡ true → header.offset + header.size ≤ length bytes
lie bytes header stored e = grind (arith, nat_tests)

length_named : (bytes : List ℕ) (offset size : ℕ) → offset + size ≤ length bytes
    → length (take size (drop offset bytes)) ≡ size
length_named bytes offset size l = omega (arith, length-take size (drop offset bytes), length-drop offset bytes)

stored_bytes : (bytes : List ℕ) (i : ℕ) → place_fault bytes i ≡ None → has_no_bytes (section_header bytes i) ≡ false
    → length (section_bytes bytes i) ≡ (section_header bytes i).size
unfolding section_bytes
stored_bytes bytes i e stored =
    let header = section_header bytes i in
    ap (λ b. length (if b then [] else take header.size (drop header.offset bytes))) stored
    ∙ length_named bytes header.offset header.size (lie bytes header stored (in_file bytes i e))

length-blanked : (place : ℕ) (fields : List Reloc) (bytes : List ℕ)
    → length (blanked_from place fields bytes) ≡ length bytes
length-blanked place fields [] = refl
length-blanked place fields (byte ∷ bytes) = ap suc (length-blanked (suc place) fields bytes)

zero_where : (header : SectionHeader) → (header.kind == SHT_NOBITS) ≡ true → class_of header ≡ Zero
zero_where header e = rw e refl

filled : (header : SectionHeader) → class_of header ≢ Zero → (header.kind == SHT_NOBITS) ≡ false
filled header other =
    elim (cases_Bool (header.kind == SHT_NOBITS)) [
      | inl none ↦ absurd (other (zero_where header none))
      | inr some ↦ some
    ]

program : (header : SectionHeader) → holds_program header ≡ true → (header.kind == SHT_NOBITS) ≡ false
    → has_no_bytes header ≡ false
program header e some = grind (arith, nat_tests)

loaded_program : (bytes : List ℕ) (i : ℕ) → is_loaded bytes i ≡ true
    → (0 < i) × (i < section_count bytes) × (holds_program (section_header bytes i) ≡ true)
    × (0 < (section_header bytes i).size)
unfolding is_loaded is_section
loaded_program bytes i e = (grind (arith, nat_tests), grind (arith, nat_tests), grind arith, grind (arith, nat_tests))

whole : (bytes : List ℕ) (i : ℕ) → object_fault bytes ≡ None → is_loaded bytes i ≡ true
    → IsWhole (normal_section bytes i)
unfolding normal_section blanked_bytes
whole bytes i e loaded =
    let part = loaded_program bytes i loaded in
    let kept = none_below (section_fault bytes) (section_count bytes) (sections_kept bytes e) i part.1 in
    let rule = place_kept bytes i part.0 kept in
    record {
      some = part.3;
      all = λ other.
          length-blanked 0 _ (section_bytes bytes i)
          ∙ stored_bytes bytes i rule (program (section_header bytes i) part.2 (filled (section_header bytes i) other));
    }

both : (xs ys : List NormalSection) → AreWhole xs → AreWhole ys → AreWhole (xs ++ ys)
both [] ys of_xs of_ys = of_ys
both (x ∷ xs) ys of_xs of_ys = (of_xs.0, both xs ys of_xs.1 of_ys)

whole_below : (bytes : List ℕ) (i : ℕ) → object_fault bytes ≡ None → AreWhole (loaded_below bytes i)
whole_below bytes zero e = tt
whole_below bytes (suc i) e =
    elim (cases_Bool (is_loaded bytes i)) [
      | inl loaded ↦
          let before = whole_below bytes i e in
          rw loaded (both (loaded_below bytes i) (normal_section bytes i ∷ []) before (whole bytes i e loaded, tt))
      | inr other ↦ rw other (whole_below bytes i e)
    ]

pub all_whole : (bytes : List ℕ) → object_fault bytes ≡ None → AreWhole (loaded_sections bytes)
unfolding loaded_sections
all_whole bytes e = whole_below bytes (section_count bytes) e

pub each_is_whole : (bytes : List ℕ) → object_fault bytes ≡ None → All IsWhole (loaded_sections bytes)
each_is_whole bytes e = All-from_recursion IsWhole (loaded_sections bytes) (all_whole bytes e)
