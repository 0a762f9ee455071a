-- What a loaded section refers to: its relocations, each a field of four bytes, and their targets (System V gABI,
-- chapter 4, "Relocation"; Intel386 supplement, "Relocation Types").
use Rattle.std.specs.Prelude.{◌≡◌, ◌<◌, ℕ, suc, ◌+◌, ◌^◌, ◌%◌, ◌/◌, Bool, true, ◌&&◌, ◌||◌, ◌==◌}
use Rattle.std.specs.Prelude.{nat_lt, nat_le, if◌then◌else◌, List, [], ◌∷◌, ◌++◌, map, filter}
use Rattle.std.specs.List.{list_any}
use Rattle.std.specs.List.Sorted.{IsNonDecreasingBy, IsPermutation}
use Rattle.elf32_object.specs.Numbers.{SHN_UNDEF, SHN_COMMON, STB_GLOBAL, STB_WEAK, STT_OBJECT, STT_SECTION, R_386_32}
use Rattle.elf32_object.specs.declared.types.Reloc.{Reloc}
use Rattle.elf32_object.specs.declared.types.SymbolEntry.{SymbolEntry}
use Rattle.elf32_object.specs.Below.{each_below, all_below}
use Rattle.elf32_object.specs.Fields.{section_count, section_header, section_name, section_bytes}
use Rattle.elf32_object.specs.Fields.{symbol_count, symbol_entry, symbol_name, text_at, word_at}
use Rattle.elf32_object.specs.Fields.{is_loaded, relocation, entry_count, changes}
use Rattle.elf32_object.specs.Rules.{has_field}
use Rattle.i386_reloc.specs.declared.types.Form.{Form}
use Rattle.i386_reloc.specs.declared.types.Form.TheVariants.{Absolute, Relative}
use Rattle.i386_reloc.specs.declared.types.Target.{Target}
use Rattle.i386_reloc.specs.declared.types.Target.TheVariants.{Section, Outside, Text}
use Rattle.i386_reloc.specs.declared.types.Ref.{Ref}
use Rattle.i386_reloc.specs.declared.types.ObjectSymbol.{ObjectSymbol}
use Rattle.i386_reloc.specs.Classes.{is_strings}

-- the relocations of loaded section i, in the order of their sections and, in each of these, of their entries
unfoldable pub relocations_of : List ℕ → ℕ → List Reloc
relocations_of bytes i =
    all_below (λ j. if changes bytes i j then each_below (relocation bytes j) (entry_count bytes j) else [])
    (section_count bytes)

-- those that change the field at an offset
abbrev pub changes_at : ℕ → Reloc → Bool
changes_at offset r = has_field r && r.offset == offset

-- those that change a field, offset by offset below a bound
unfoldable pub by_offset : List Reloc → ℕ → List Reloc
by_offset relocations bound = all_below (λ offset. filter (changes_at offset) relocations) bound

-- the relocations of section i that change a field of it, by offset
unfoldable pub fields_of : List ℕ → ℕ → List Reloc
fields_of bytes i = by_offset (relocations_of bytes i) (section_header bytes i).size

-- what that gives, where all offsets are below the bound: the same relocations, with offsets that don't fall
pub record AreByOffset (relocations fields : List Reloc) : Type 0 where
  pub same : IsPermutation (filter has_field relocations) fields
  pub rises : IsNonDecreasingBy (λ r. r.offset) fields

-- so are the fields of each loaded section below a bound
pub record HasOrder (bytes : List ℕ) (n : ℕ) : Type 0 where
  pub each : (i : ℕ) → i < n → is_loaded bytes i ≡ true → AreByOffset (relocations_of bytes i) (fields_of bytes i)

-- the type and the binding in a symbol's st_info ("Symbol Table", ELF32_ST_TYPE and ELF32_ST_BIND)
abbrev pub symbol_type : ℕ → ℕ
symbol_type info = info % 16

abbrev pub symbol_binding : ℕ → ℕ
symbol_binding info = info / 16

-- R_386_32 is absolute, R_386_PC32 and R_386_PLT32 are relative: there is no procedure linkage table
abbrev pub is_absolute : Reloc → Bool
is_absolute r = r.kind == R_386_32

abbrev pub form_of : Reloc → Form
form_of r = if is_absolute r then Absolute else Relative

-- the addend that stands in the field
unfoldable pub addend_in : List ℕ → ℕ → Reloc → ℕ
addend_in bytes i r = word_at (section_bytes bytes i) r.offset

-- the symbol that a relocation names
abbrev pub symbol_of : List ℕ → Reloc → SymbolEntry
symbol_of bytes r = symbol_entry bytes r.symbol

-- undefined or common: the symbol lies in no section of this object
abbrev pub is_outside : SymbolEntry → Bool
is_outside symbol = symbol.section == SHN_UNDEF || symbol.section == SHN_COMMON

abbrev pub is_section_symbol : SymbolEntry → Bool
is_section_symbol symbol = symbol_type symbol.info == STT_SECTION

-- where the text begins that a symbol of a section of texts names with an addend
abbrev pub text_offset : SymbolEntry → ℕ → ℕ
text_offset symbol addend = if is_section_symbol symbol then addend else symbol.value

-- a text: the bytes from its offset through the first zero
unfoldable pub text_through : List ℕ → ℕ → List ℕ
text_through bytes offset = text_at bytes offset ++ 0 ∷ []

abbrev pub text_target : List ℕ → ℕ → ℕ → Target
text_target bytes j offset = Text (section_name bytes j) offset (text_through (section_bytes bytes j) offset)

-- the reference of a relocation to a target, with what is added to the target's address
abbrev pub reference_to : Reloc → Target → ℕ → Ref
reference_to r target addend = record { offset = r.offset; form = form_of r; target = target; addend = addend }

-- The table of targets: the reference that a relocation with addend a makes, by the symbol that it names.
abbrev pub reference_by : List ℕ → Reloc → SymbolEntry → ℕ → Ref
reference_by bytes r symbol a =
    if is_outside symbol then reference_to r (Outside (symbol_name bytes r.symbol)) a
    else (if is_strings bytes symbol.section && is_section_symbol symbol then reference_to r
    (text_target bytes symbol.section a) 0
    else (if is_strings bytes symbol.section then reference_to r (text_target bytes symbol.section symbol.value) a
    else reference_to r (Section (section_name bytes symbol.section)) ((a + symbol.value) % 2 ^ 32)))

unfoldable pub reference_of : List ℕ → ℕ → Reloc → Ref
reference_of bytes i r = reference_by bytes r (symbol_of bytes r) (addend_in bytes i r)

-- the references of section i, by offset
unfoldable pub references_of : List ℕ → ℕ → List Ref
references_of bytes i = map (reference_of bytes i) (fields_of bytes i)

-- bytes with zeros in the fields, the first byte standing at a place
abbrev pub covers : ℕ → Reloc → Bool
covers place r = nat_le r.offset place && nat_lt place (r.offset + 4)

abbrev pub blanked_from : ℕ → List Reloc → List ℕ → List ℕ
blanked_from place fields [] = []
blanked_from place fields (byte ∷ bytes) =
    (if list_any (covers place) fields then 0 else byte) ∷ blanked_from (suc place) fields bytes

unfoldable pub blanked_bytes : List ℕ → ℕ → List ℕ
blanked_bytes bytes i = blanked_from 0 (fields_of bytes i) (section_bytes bytes i)

-- whether a symbol of this st_info is seen from other objects; every other binding is local
abbrev pub is_global : ℕ → Bool
is_global info = symbol_binding info == STB_GLOBAL || symbol_binding info == STB_WEAK

-- the symbols of variables of section i, in order; symbol 0 is none
abbrev pub object_symbol : List ℕ → ℕ → ObjectSymbol
object_symbol bytes k =
    record {
      name = symbol_name bytes k;
      value = (symbol_entry bytes k).value;
      global =
          is_global (symbol_entry bytes k).info;
    }

abbrev pub is_object_of : List ℕ → ℕ → ℕ → Bool
is_object_of bytes i k =
    nat_lt 0 k && symbol_type (symbol_entry bytes k).info == STT_OBJECT && (symbol_entry bytes k).section == i

unfoldable pub objects_of : List ℕ → ℕ → List ObjectSymbol
objects_of bytes i = all_below (λ k. if is_object_of bytes i k then object_symbol bytes k ∷ [] else [])
    (symbol_count bytes)
