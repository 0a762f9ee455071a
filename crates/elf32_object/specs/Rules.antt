-- The rules that an object keeps, in the order in which they are tried: the first that is broken is the refusal.
-- They are those of the System V gABI, chapter 4, and of its supplement for the Intel386, for relocatable files,
-- with the limits of this reader.
use Rattle.std.specs.Prelude.{ℕ, zero, suc, ◌+◌, ◌*◌, ◌/◌, ◌%◌, Bool, true, false, not, ◌&&◌, ◌||◌, ◌==◌, nat_eq}
use Rattle.std.specs.Prelude.{nat_lt, nat_le, if◌then◌else◌, List, [], ◌∷◌, length, slice_index, Option, None}
use Rattle.std.specs.List.{list_any, starts_with}
use Rattle.elf32_object.specs.Numbers.{EI_CLASS, EI_DATA, EI_VERSION, ELFCLASS32, ELFDATA2LSB, EV_CURRENT, E_TYPE}
use Rattle.elf32_object.specs.Numbers.{E_MACHINE, E_VERSION, E_SHOFF, E_EHSIZE, E_SHENTSIZE, E_SHNUM, E_SHSTRNDX}
use Rattle.elf32_object.specs.Numbers.{ET_REL, EM_386, EHDR_SIZE, SHDR_SIZE, SYM_SIZE, REL_SIZE}
use Rattle.elf32_object.specs.Numbers.{SHT_SYMTAB, SHT_RELA, SHT_NOBITS, SHF_TLS, SHF_COMPRESSED}
use Rattle.elf32_object.specs.Numbers.{SHN_UNDEF, SHN_ABS, SHN_COMMON, R_386_32, R_386_PC32, R_386_PLT32}
use Rattle.elf32_object.specs.declared.types.ObjectFault.{ObjectFault}
use Rattle.elf32_object.specs.declared.types.ObjectFault.TheVariants.{NotElf, NotRel386, BadHeader, BadSection}
use Rattle.elf32_object.specs.declared.types.ObjectFault.TheVariants.{BadSymbol, BadReloc, TooLarge}
use Rattle.elf32_object.specs.declared.types.Large.TheVariants as large
use Rattle.elf32_object.specs.declared.types.SectionHeader.{SectionHeader}
use Rattle.elf32_object.specs.declared.types.Reloc.{Reloc}
use Rattle.elf32_object.specs.Below.{first_of, any_below, sum_below, count_below, first_below}
use Rattle.elf32_object.specs.Rule.{◌orElse◌, first_broken}
use Rattle.elf32_object.specs.Fields.{half_at, word_at, section_table, section_count, name_table, section_header}
use Rattle.elf32_object.specs.Fields.{is_section, has_no_bytes, lies_in_file, ends_in, section_names, section_name}
use Rattle.elf32_object.specs.Fields.{has_flag, is_loaded, is_symbol_table, is_string_table, symbol_count, symbol_entry}
use Rattle.elf32_object.specs.Fields.{symbol_names, symbol_name, patches_loaded, entry_count, relocation}

-- the rules that hold only of what passes a test
abbrev pub only_where : Bool → Option ObjectFault → Option ObjectFault
only_where true fault = fault
only_where false fault = None

-- a 32-bit little-endian relocatable file for the i386 ("ELF Header", and the supplement's "Machine Information")
unfoldable pub is_relocatable_386 : List ℕ → Bool
is_relocatable_386 bytes =
    slice_index bytes EI_CLASS == ELFCLASS32 && slice_index bytes EI_DATA == ELFDATA2LSB
    && slice_index bytes EI_VERSION == EV_CURRENT && half_at bytes E_TYPE == ET_REL
    && half_at bytes E_MACHINE == EM_386

-- what the file is
unfoldable pub kind_fault : List ℕ → Option ObjectFault
kind_fault bytes =
    first_broken (
    (nat_le (length bytes) 8388608 orElse TooLarge large.Bytes)
    ∷ (starts_with nat_eq bytes (0x7f ∷ 0x45 ∷ 0x4c ∷ 0x46 ∷ []) orElse NotElf)
    ∷ (nat_le EHDR_SIZE (length bytes) orElse BadHeader (length bytes))
    ∷ (is_relocatable_386 bytes orElse NotRel386) ∷ [])

-- the fields of the ELF header ("ELF Header"), each refused by its offset
unfoldable pub header_fault : List ℕ → Option ObjectFault
header_fault bytes =
    first_broken (
    (word_at bytes E_VERSION == EV_CURRENT orElse BadHeader E_VERSION)
    ∷ (half_at bytes E_EHSIZE == EHDR_SIZE orElse BadHeader E_EHSIZE)
    ∷ (half_at bytes E_SHENTSIZE == SHDR_SIZE orElse BadHeader E_SHENTSIZE)
    ∷ (nat_lt 0 (section_count bytes) orElse BadHeader E_SHNUM)
    ∷ (nat_le (section_count bytes) 4096 orElse TooLarge large.Sections)
    ∷ (nat_le (section_table bytes + SHDR_SIZE * section_count bytes) (length bytes) orElse BadHeader E_SHOFF)
    ∷ (nat_lt (name_table bytes) (section_count bytes)
    && is_string_table bytes (section_header bytes (name_table bytes)) orElse BadHeader E_SHSTRNDX) ∷ [])

-- 0, or a power of two up to 4,096
abbrev pub is_alignment : ℕ → Bool
is_alignment n =
    list_any (nat_eq n)
    (0 ∷ 1 ∷ 2 ∷ 4 ∷ 8 ∷ 16 ∷ 32 ∷ 64 ∷ 128 ∷ 256 ∷ 512 ∷ 1024 ∷ 2048 ∷ 4096 ∷ [])

-- a loaded section ("Sections") is aligned, and neither thread-local nor compressed
abbrev pub can_be_loaded : SectionHeader → Bool
can_be_loaded header = is_alignment header.align && not (has_flag SHF_TLS header.flags)
    && not (has_flag SHF_COMPRESSED header.flags)

-- every section: its name, its place in the file, and what a loaded one may be
unfoldable pub place_fault : List ℕ → ℕ → Option ObjectFault
place_fault bytes i =
    first_broken (
    (ends_in (section_names bytes) (section_header bytes i).name orElse BadSection i)
    ∷ (nat_le (length (section_name bytes i)) 4096 orElse TooLarge large.Name)
    ∷ (has_no_bytes (section_header bytes i) || lies_in_file bytes (section_header bytes i) orElse BadSection i)
    ∷ (not (is_loaded bytes i) || can_be_loaded (section_header bytes i) orElse BadSection i) ∷ [])

-- a symbol table ("Symbol Table"): the only one, of whole entries, linked to a string table
unfoldable pub symbol_table_fault : List ℕ → ℕ → Option ObjectFault
symbol_table_fault bytes i =
    first_broken (
    (count_below (is_symbol_table bytes) (section_count bytes) == 1 orElse BadSection i)
    ∷ ((section_header bytes i).entry == SYM_SIZE orElse BadSection i)
    ∷ ((section_header bytes i).size % SYM_SIZE == 0 orElse BadSection i)
    ∷ (is_section bytes (section_header bytes i).link
    && is_string_table bytes (section_header bytes (section_header bytes i).link) orElse BadSection i)
    ∷ (nat_le ((section_header bytes i).size / SYM_SIZE) 65536 orElse TooLarge large.Symbols) ∷ [])

-- a relocation section ("Relocation") of a loaded section: of whole entries, linked to the symbol table
unfoldable pub relocation_section_fault : List ℕ → ℕ → Option ObjectFault
relocation_section_fault bytes i =
    first_broken (
    ((section_header bytes i).entry == REL_SIZE orElse BadSection i)
    ∷ ((section_header bytes i).size % REL_SIZE == 0 orElse BadSection i)
    ∷ (is_symbol_table bytes (section_header bytes i).link orElse BadSection i)
    ∷ (nat_le (sum_below (entry_count bytes) (suc i)) 262144 orElse TooLarge large.Relocations) ∷ [])

-- the bytes that a section adds to the program
unfoldable pub loaded_size : List ℕ → ℕ → ℕ
loaded_size bytes i = if is_loaded bytes i then (section_header bytes i).size else 0

-- Relocations with addends of loaded sections are refused, and more bytes to load than the limit.
unfoldable pub content_fault : List ℕ → ℕ → Option ObjectFault
content_fault bytes i =
    first_broken (
    (not ((section_header bytes i).kind == SHT_RELA && is_loaded bytes (section_header bytes i).info) orElse BadSection
    i)
    ∷ (nat_le (sum_below (loaded_size bytes) (suc i)) 8388608 orElse TooLarge large.Content) ∷ [])

-- all rules of one section; section 0 is not looked at
unfoldable pub section_fault : List ℕ → ℕ → Option ObjectFault
section_fault bytes zero = None
section_fault bytes (suc i) =
    first_of (place_fault bytes (suc i))
    (first_of (only_where ((section_header bytes (suc i)).kind == SHT_SYMTAB) (symbol_table_fault bytes (suc i)))
    (first_of (only_where (patches_loaded bytes (suc i)) (relocation_section_fault bytes (suc i)))
    (content_fault bytes (suc i))))

-- what a symbol's section index may be ("Special Section Indexes"): none, absolute, common, or a section
abbrev pub is_section_of_symbol : List ℕ → ℕ → Bool
is_section_of_symbol bytes section =
    section == SHN_UNDEF || section == SHN_ABS || section == SHN_COMMON || nat_lt section (section_count bytes)

-- all rules of one symbol; symbol 0 is not looked at
unfoldable pub symbol_fault : List ℕ → ℕ → Option ObjectFault
symbol_fault bytes zero = None
symbol_fault bytes (suc k) =
    first_broken (
    (ends_in (symbol_names bytes) (symbol_entry bytes (suc k)).name orElse BadSymbol (suc k))
    ∷ (nat_le (length (symbol_name bytes (suc k))) 4096 orElse TooLarge large.Name)
    ∷ (is_section_of_symbol bytes (symbol_entry bytes (suc k)).section orElse BadSymbol (suc k))
    ∷ (not (is_loaded bytes (symbol_entry bytes (suc k)).section)
    || nat_le (symbol_entry bytes (suc k)).value (section_header bytes (symbol_entry bytes (suc k)).section).size
    orElse BadSymbol (suc k)) ∷ [])

-- whether a relocation changes a field of four bytes (Intel386 supplement, "Relocation Types")
abbrev pub has_field : Reloc → Bool
has_field r = r.kind == R_386_32 || r.kind == R_386_PC32 || r.kind == R_386_PLT32

-- fields of four bytes at these offsets share a byte
abbrev pub meets : ℕ → ℕ → Bool
meets a b = nat_lt a (b + 4) && nat_lt b (a + 4)

-- whether an entry changes a field of this section that shares a byte with the four bytes at this offset
abbrev pub is_met_by : List ℕ → ℕ → ℕ → ℕ → ℕ → Bool
is_met_by bytes section offset i k =
    (section_header bytes i).info == section && has_field (relocation bytes i k)
    && meets offset (relocation bytes i k).offset

-- whether an entry before entry k of relocation section i does: an entry of an earlier section, or an earlier
-- entry of this one
unfoldable pub is_met_before : List ℕ → ℕ → ℕ → ℕ → ℕ → Bool
is_met_before bytes section offset i k =
    any_below (λ j. any_below (is_met_by bytes section offset j) (entry_count bytes j)) i
    || any_below (is_met_by bytes section offset i) k

-- a field lies in its section and apart from those of earlier entries; any other entry begins in its section
unfoldable pub is_placed : List ℕ → ℕ → ℕ → Bool
is_placed bytes i k =
    if has_field (relocation bytes i k)
    then nat_le ((relocation bytes i k).offset + 4) (section_header bytes (section_header bytes i).info).size
    && not (is_met_before bytes (section_header bytes i).info (relocation bytes i k).offset i k)
    else nat_lt (relocation bytes i k).offset (section_header bytes (section_header bytes i).info).size

-- all rules of one relocation, entry k of section i
unfoldable pub relocation_fault : List ℕ → ℕ → ℕ → Option ObjectFault
relocation_fault bytes i k =
    first_broken (
    (nat_lt (relocation bytes i k).symbol (symbol_count bytes) orElse BadReloc i k)
    ∷ (not ((section_header bytes (section_header bytes i).info).kind == SHT_NOBITS) orElse BadReloc i k)
    ∷ (is_placed bytes i k orElse BadReloc i k) ∷ [])

unfoldable pub relocations_fault : List ℕ → ℕ → Option ObjectFault
relocations_fault bytes i = first_below (relocation_fault bytes i) (entry_count bytes i)

-- the first rule that the bytes break: of the file, of the header, of sections, of symbols, of relocations
unfoldable pub object_fault : List ℕ → Option ObjectFault
object_fault bytes =
    first_of (kind_fault bytes)
    (first_of (header_fault bytes)
    (first_of (first_below (section_fault bytes) (section_count bytes))
    (first_of (first_below (symbol_fault bytes) (symbol_count bytes))
    (first_below (relocations_fault bytes) (section_count bytes)))))
