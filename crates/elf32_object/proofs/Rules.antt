-- What an object that breaks no rule keeps.
use Rattle.std.proofs.Common.{◌≡◌, ℕ, zero, suc, ◌<◌, true, not, ◌||◌, ◌==◌, nat_le}
use Rattle.std.proofs.Common.{length, List, [], ◌∷◌, None, refl, sym, ◌∙◌, arith}
use Rattle.elf32_object.specs.Numbers.{SHT_SYMTAB}
use Rattle.elf32_object.specs.declared.types.ObjectFault.TheVariants.{BadSymbol, TooLarge}
use Rattle.elf32_object.specs.declared.types.Large.TheVariants as large
use Rattle.elf32_object.specs.Below.{first_of, first_below}
use Rattle.elf32_object.specs.Fields.{section_count, section_header, section_names, ends_in}
use Rattle.elf32_object.specs.Fields.{has_no_bytes, lies_in_file, patches_loaded, symbol_count}
use Rattle.elf32_object.specs.Fields.{symbol_names, symbol_entry, symbol_name, is_loaded}
use Rattle.elf32_object.specs.Rule.{first_broken, ◌orElse◌}
use Rattle.elf32_object.specs.Rules.{is_section_of_symbol, object_fault, kind_fault, header_fault}
use Rattle.elf32_object.specs.Rules.{section_fault, place_fault, only_where, symbol_table_fault}
use Rattle.elf32_object.specs.Rules.{relocation_section_fault, content_fault, symbol_fault, relocations_fault}
use Rattle.elf32_object.specs.laws.BelowLaws.{none_first, none_second, none_below}

placed : (bytes : List ℕ) (i : ℕ) → 0 < i → section_fault bytes i ≡ None → place_fault bytes i ≡ None
unfolding section_fault
placed bytes zero p e = absurd (omega arith)
placed bytes (suc i) p e = grind (arith, none_first)

-- the rules of a section that is not section 0
pub section_fault_at : (bytes : List ℕ) (i : ℕ) → 0 < i
    → section_fault bytes i ≡ first_of (place_fault bytes i)
    (first_of (only_where ((section_header bytes i).kind == SHT_SYMTAB) (symbol_table_fault bytes i))
    (first_of (only_where (patches_loaded bytes i) (relocation_section_fault bytes i)) (content_fault bytes i)))
unfolding section_fault
section_fault_at bytes zero h = absurd (omega arith)
section_fault_at bytes (suc i) h = refl

-- the rules of a symbol that is not symbol 0
pub symbol_fault_at : (bytes : List ℕ) (k : ℕ) → 0 < k → symbol_fault bytes k ≡ first_broken (
    (ends_in (symbol_names bytes) (symbol_entry bytes k).name orElse BadSymbol k)
    ∷ (nat_le (length (symbol_name bytes k)) 4096 orElse TooLarge large.Name)
    ∷ (is_section_of_symbol bytes (symbol_entry bytes k).section orElse BadSymbol k)
    ∷ (not (is_loaded bytes (symbol_entry bytes k).section)
    || nat_le (symbol_entry bytes k).value (section_header bytes (symbol_entry bytes k).section).size
    orElse BadSymbol k) ∷ [])
unfolding symbol_fault
symbol_fault_at bytes zero h = absurd (omega arith)
symbol_fault_at bytes (suc k) h = refl

pub sections_kept : (bytes : List ℕ) → object_fault bytes ≡ None
    → first_below (section_fault bytes) (section_count bytes) ≡ None
unfolding object_fault
sections_kept bytes e =
    none_first (first_below (section_fault bytes) (section_count bytes))
    (first_of (first_below (symbol_fault bytes) (symbol_count bytes))
    (first_below (relocations_fault bytes) (section_count bytes)))
    (none_second (header_fault bytes)
    (first_of (first_below (section_fault bytes) (section_count bytes))
    (first_of (first_below (symbol_fault bytes) (symbol_count bytes))
    (first_below (relocations_fault bytes) (section_count bytes))))
    (none_second (kind_fault bytes)
    (first_of (header_fault bytes) (first_of (first_below (section_fault bytes) (section_count bytes))
    (first_of (first_below (symbol_fault bytes) (symbol_count bytes))
    (first_below (relocations_fault bytes) (section_count bytes))))) e))

pub symbols_kept : (bytes : List ℕ) → object_fault bytes ≡ None
    → first_below (symbol_fault bytes) (symbol_count bytes) ≡ None
unfolding object_fault
symbols_kept bytes e =
    grind (arith, none_first, none_second)

pub place_kept : (bytes : List ℕ) (i : ℕ) → first_below (section_fault bytes) (section_count bytes) ≡ None → 0 < i
    → i < section_count bytes → place_fault bytes i ≡ None
place_kept bytes i e p h = placed bytes i p (none_below (section_fault bytes) (section_count bytes) e i h)

pub name_ends : (bytes : List ℕ) (i : ℕ) → first_below (section_fault bytes) (section_count bytes) ≡ None → 0 < i
    → i < section_count bytes → ends_in (section_names bytes) (section_header bytes i).name ≡ true
unfolding place_fault
name_ends bytes i e p h =
    let k = place_kept bytes i e p h in
    grind arith

pub bytes_in_file : (bytes : List ℕ) (i : ℕ) → first_below (section_fault bytes) (section_count bytes) ≡ None → 0 < i
    → i < section_count bytes → (has_no_bytes (section_header bytes i) || lies_in_file bytes (section_header bytes i))
    ≡ true
unfolding place_fault
bytes_in_file bytes i e p h =
    let k = place_kept bytes i e p h in
    grind arith

pub symbol_name_ends : (bytes : List ℕ) (k : ℕ) → object_fault bytes ≡ None → 0 < k → k < symbol_count bytes
    → ends_in (symbol_names bytes) (symbol_entry bytes k).name ≡ true
symbol_name_ends bytes k e p h =
    let q = sym (symbol_fault_at bytes k p) ∙ none_below (symbol_fault bytes) (symbol_count bytes)
    (symbols_kept bytes e) k h in
    grind arith
