-- The fields of a 32-bit object file (System V gABI, chapter 4), each a function of the whole file. All numbers
-- are little-endian. A byte past the file's end reads as 0, so that each field has a value in every file.
use Rattle.std.specs.Prelude.{◌≡◌, ◌<◌, ℕ, ◌+◌, ◌*◌, ◌/◌, ◌%◌, Bool, true, not, ◌&&◌, ◌||◌, ◌==◌}
use Rattle.std.specs.Prelude.{nat_eq, nat_lt, nat_le, if◌then◌else◌, List, [], ◌∷◌, ◌++◌, take, drop}
use Rattle.std.specs.Prelude.{length, slice_index, bit_and, codes, Option, Some, None, unwrap_or}
use Rattle.std.specs.List.{list_any, before_first, starts_with}
use Rattle.byteorder.specs.Endian.{little_number}
use Rattle.elf32_object.specs.Numbers.{E_SHOFF, E_SHNUM, E_SHSTRNDX, SHDR_SIZE, SYM_SIZE, REL_SIZE}
use Rattle.elf32_object.specs.Numbers.{SHT_NULL, SHT_PROGBITS, SHT_SYMTAB, SHT_STRTAB, SHT_NOBITS, SHT_REL}
use Rattle.elf32_object.specs.Numbers.{SHT_INIT_ARRAY, SHT_FINI_ARRAY, SHF_ALLOC}
use Rattle.elf32_object.specs.declared.types.SectionHeader.{SectionHeader}
use Rattle.elf32_object.specs.declared.types.SymbolEntry.{SymbolEntry}
use Rattle.elf32_object.specs.declared.types.Reloc.{Reloc}
use Rattle.elf32_object.specs.Below.{sum_below, least_below}

-- the numbers of two and of four bytes at a place
unfoldable pub half_at : List ℕ → ℕ → ℕ
half_at bytes place = little_number 2 (drop place bytes)

unfoldable pub word_at : List ℕ → ℕ → ℕ
word_at bytes place = little_number 4 (drop place bytes)

-- The ELF header ("ELF Header"): where the section header table begins, how many entries it has, and which section
-- has the sections' names.
unfoldable pub section_table : List ℕ → ℕ
section_table bytes = word_at bytes E_SHOFF

unfoldable pub section_count : List ℕ → ℕ
section_count bytes = half_at bytes E_SHNUM

unfoldable pub name_table : List ℕ → ℕ
name_table bytes = half_at bytes E_SHSTRNDX

-- The section header table ("Sections").
unfoldable pub section_header_at : List ℕ → ℕ → SectionHeader
section_header_at bytes place =
    record {
      name = word_at bytes place;
      kind = word_at bytes (place + 4);
      flags = word_at bytes (place + 8);
      offset = word_at bytes (place + 16);
      size = word_at bytes (place + 20);
      link = word_at bytes (place + 24);
      info = word_at bytes (place + 28);
      align = word_at bytes (place + 32);
      entry = word_at bytes (place + 36);
    }

unfoldable pub section_header : List ℕ → ℕ → SectionHeader
section_header bytes i = section_header_at bytes (section_table bytes + SHDR_SIZE * i)

-- whether a number is the index of a section; 0 names none
unfoldable pub is_section : List ℕ → ℕ → Bool
is_section bytes i = nat_lt 0 i && nat_lt i (section_count bytes)

-- sections of these types have no bytes in the file
abbrev pub has_no_bytes : SectionHeader → Bool
has_no_bytes header = header.kind == SHT_NULL || header.kind == SHT_NOBITS

-- whether the section's bytes lie in the file
abbrev pub lies_in_file : List ℕ → SectionHeader → Bool
lies_in_file bytes header = nat_le (header.offset + header.size) (length bytes)

-- the bytes that a header names
abbrev pub bytes_named : List ℕ → SectionHeader → List ℕ
bytes_named bytes header = take header.size (drop header.offset bytes)

-- a section's bytes
unfoldable pub section_bytes : List ℕ → ℕ → List ℕ
section_bytes bytes i =
    if has_no_bytes (section_header bytes i) then [] else bytes_named bytes (section_header bytes i)

-- A string table ("String Table"): a text begins at its place, and a zero ends it.
abbrev pub is_zero : ℕ → Bool
is_zero byte = byte == 0

abbrev pub ends_in : List ℕ → ℕ → Bool
ends_in table place = list_any is_zero (drop place table)

abbrev pub text_at : List ℕ → ℕ → List ℕ
text_at table place = before_first is_zero (drop place table)

-- the sections' names
unfoldable pub section_names : List ℕ → List ℕ
section_names bytes = bytes_named bytes (section_header bytes (name_table bytes))

unfoldable pub section_name : List ℕ → ℕ → List ℕ
section_name bytes i = text_at (section_names bytes) (section_header bytes i).name

-- whether a section's name is `.eh_frame`, with the zero that ends it
unfoldable pub is_unwind_table : List ℕ → ℕ → Bool
is_unwind_table bytes i =
    starts_with nat_eq (drop (section_header bytes i).name (section_names bytes)) (codes ".eh_frame" ++ 0 ∷ [])

-- whether a section's flags have one
abbrev pub has_flag : ℕ → ℕ → Bool
has_flag flag flags = not (bit_and flags flag == 0)

-- sections of these types hold a part of the program
abbrev pub holds_program : SectionHeader → Bool
holds_program header =
    header.kind == SHT_PROGBITS || header.kind == SHT_NOBITS || header.kind == SHT_INIT_ARRAY
    || header.kind == SHT_FINI_ARRAY

-- A section is loaded where it takes part in the running program, has a size above 0, a type that holds a part of
-- it, and a name other than `.eh_frame`.
unfoldable pub is_loaded : List ℕ → ℕ → Bool
is_loaded bytes i =
    is_section bytes i && has_flag SHF_ALLOC (section_header bytes i).flags && nat_lt 0 (section_header bytes i).size
    && holds_program (section_header bytes i) && not (is_unwind_table bytes i)

-- whether a number is the index of a symbol table
unfoldable pub is_symbol_table : List ℕ → ℕ → Bool
is_symbol_table bytes i = is_section bytes i && (section_header bytes i).kind == SHT_SYMTAB

-- a string table whose bytes lie in the file
abbrev pub is_string_table : List ℕ → SectionHeader → Bool
is_string_table bytes header = header.kind == SHT_STRTAB && lies_in_file bytes header

-- The symbols ("Symbol Table"): those of the first symbol table, and none where there is no symbol table.
unfoldable pub symbol_table : List ℕ → Option ℕ
symbol_table bytes = least_below (is_symbol_table bytes) (section_count bytes)

abbrev pub symbol_count_in : List ℕ → Option ℕ → ℕ
symbol_count_in bytes None = 0
symbol_count_in bytes (Some i) = (section_header bytes i).size / SYM_SIZE

unfoldable pub symbol_count : List ℕ → ℕ
symbol_count bytes = symbol_count_in bytes (symbol_table bytes)

unfoldable pub symbol_entry_at : List ℕ → ℕ → SymbolEntry
symbol_entry_at bytes place =
    record {
      name = word_at bytes place;
      value = word_at bytes (place + 4);
      size = word_at bytes (place + 8);
      info = slice_index bytes (place + 12);
      section = half_at bytes (place + 14);
    }

unfoldable pub symbol_entry : List ℕ → ℕ → SymbolEntry
symbol_entry bytes k = symbol_entry_at bytes
    ((section_header bytes (unwrap_or (symbol_table bytes) 0)).offset + SYM_SIZE * k)

-- the symbols' names: the string table that the symbol table links to
unfoldable pub symbol_names : List ℕ → List ℕ
symbol_names bytes =
    bytes_named bytes (section_header bytes (section_header bytes (unwrap_or (symbol_table bytes) 0)).link)

unfoldable pub symbol_name : List ℕ → ℕ → List ℕ
symbol_name bytes k = text_at (symbol_names bytes) (symbol_entry bytes k).name

-- The relocations of loaded sections ("Relocation"): how many entries a relocation section has whose sh_info names a
-- loaded section, 0 for all other sections. The low byte of r_info is the type.
unfoldable pub patches_loaded : List ℕ → ℕ → Bool
patches_loaded bytes i =
    is_section bytes i && (section_header bytes i).kind == SHT_REL && is_loaded bytes (section_header bytes i).info

unfoldable pub entry_count : List ℕ → ℕ → ℕ
entry_count bytes i = if patches_loaded bytes i then (section_header bytes i).size / REL_SIZE else 0

unfoldable pub relocation_at : List ℕ → ℕ → ℕ → ℕ → Reloc
relocation_at bytes place i k =
    record {
      offset = word_at bytes place;
      symbol = word_at bytes (place + 4) / 256;
      kind = word_at bytes (place + 4) % 256;
      from = i;
      index = k;
    }

-- entry k of section i
unfoldable pub relocation : List ℕ → ℕ → ℕ → Reloc
relocation bytes i k = relocation_at bytes ((section_header bytes i).offset + REL_SIZE * k) i k

-- whether section i has relocations of this loaded section
unfoldable pub changes : List ℕ → ℕ → ℕ → Bool
changes bytes section i = patches_loaded bytes i && (section_header bytes i).info == section

-- how many relocations of this loaded section stand in the sections below i
unfoldable pub relocations_below : List ℕ → ℕ → ℕ → ℕ
relocations_below bytes section i = sum_below (λ j. if changes bytes section j then entry_count bytes j else 0) i

-- Relocation k of a loaded section, its relocations being counted from 0 in the order of their sections and, in
-- each of these, of their entries.
pub record IsRelocation (bytes : List ℕ) (section k : ℕ) (r : Reloc) : Type 0 where
  pub entry : r ≡ relocation bytes r.from r.index
  pub of_section : changes bytes section r.from ≡ true
  pub in_range : r.index < entry_count bytes r.from
  pub number : k ≡ relocations_below bytes section r.from + r.index
