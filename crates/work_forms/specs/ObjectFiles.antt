-- Sections of which an object file is written, and what is read in it.
use Rattle.std.specs.Prelude.{◌≡◌, ℕ, ◌+◌, ◌-◌, ◌*◌, ◌<◌, ◌^◌, ◌==◌, ◌||◌, List, length, Some, IsTrue, IsFalse}
use Rattle.std.specs.List.{All, list_any}
use Rattle.i386_reloc.specs.Fields.{section_header, section_name, section_bytes, is_zero}
use Rattle.i386_reloc.specs.Fields.{symbol_table, symbol_count, symbol_entry, symbol_name}
use Rattle.i386_reloc.specs.Fields.{is_loaded, entry_count, relocation}
use Rattle.i386_reloc.specs.Numbers.{SHT_NULL, SHT_NOBITS, R_386_PC32}
use Rattle.work_gen.specs.declared.types.Section.{Section}
use Rattle.work_gen.specs.ElfFile.{elf_file}
use Rattle.work_gen.specs.Functions.{function_name, object_code}

-- A section that can be written: each number has room in its field, the type isn't one without bytes in the file
-- (SHT_NULL and SHT_NOBITS), and no zero stands in the name.
pub record IsWritable (section : Section) : Type 0 where
  pub kind_fits : section.kind < 2 ^ 32
  pub flags_fit : section.flags < 2 ^ 32
  pub link_fits : section.link < 2 ^ 32
  pub info_fits : section.info < 2 ^ 32
  pub alignment_fits : section.alignment < 2 ^ 32
  pub entry_size_fits : section.entry_size < 2 ^ 32
  pub has_bytes : IsFalse (section.kind == SHT_NULL || section.kind == SHT_NOBITS)
  pub name_ends : IsFalse (list_any is_zero section.name)

-- Sections that can be written as a file: with section 0 and that of their names there are fewer than 2 to the 16th,
-- and the file is shorter than 2 to the 32nd.
pub record AreWritable (sections : List Section) : Type 0 where
  pub each : All IsWritable sections
  pub few : length sections < 65534
  pub short : length (elf_file sections) < 2 ^ 32

-- what is read of section i of a file (System V gABI, chapter 4, "Sections") is a section's name, numbers and content
pub record IsReadAs (file : List ℕ) (i : ℕ) (section : Section) : Type 0 where
  pub name : section_name file i ≡ section.name
  pub kind : (section_header file i).kind ≡ section.kind
  pub flags : (section_header file i).flags ≡ section.flags
  pub link : (section_header file i).link ≡ section.link
  pub info : (section_header file i).info ≡ section.info
  pub alignment : (section_header file i).align ≡ section.alignment
  pub entry_size : (section_header file i).entry ≡ section.entry_size
  pub content : section_bytes file i ≡ section.content

-- what is read of symbol k of a file (System V gABI, chapter 4, "Symbol Table"): a value of 0, its size, its type with
-- its binding, and the index of its section
pub record HasSymbol (file : List ℕ) (k size info section : ℕ) : Type 0 where
  pub value : (symbol_entry file k).value ≡ 0
  pub size_is : (symbol_entry file k).size ≡ size
  pub info_is : (symbol_entry file k).info ≡ info
  pub section_is : (symbol_entry file k).section ≡ section

-- The symbols of an object of so many functions that add such constants: behind symbol 0 a local one of each function's
-- section, and then a global one of each function, with its name and the size of its code.
pub record HasSymbols (file : List ℕ) (count : ℕ) (constants : ℕ → ℕ) : Type 0 where
  pub table : symbol_table file ≡ Some (2 * count)
  pub number : symbol_count file ≡ 2 * count + 1
  pub of_sections : (i : ℕ) → i < count → HasSymbol file (i + 1) 0 0x03 (i + 1)
  pub of_functions : (i : ℕ) → i < count
      → HasSymbol file (count + 1 + i) (length (object_code count constants i)) 0x12 (i + 1)
  pub names : (i : ℕ) → i < count → symbol_name file (count + 1 + i) ≡ function_name i

-- The relocations of an object of so many functions (System V gABI, chapter 4, "Relocation"): the code of each function
-- is a loaded section, and each but the last has one, which changes the field at offset 6 by the symbol of the next
-- function's section, relative to the field.
pub record HasRelocations (file : List ℕ) (count : ℕ) : Type 0 where
  pub loaded : (i : ℕ) → i < count → IsTrue (is_loaded file (i + 1))
  pub numbers : (i : ℕ) → i < count - 1 → entry_count file (count + i + 1) ≡ 1
  pub offsets : (i : ℕ) → i < count - 1 → (relocation file (count + i + 1) 0).offset ≡ 6
  pub symbols : (i : ℕ) → i < count - 1 → (relocation file (count + i + 1) 0).symbol ≡ i + 2
  pub kinds : (i : ℕ) → i < count - 1 → (relocation file (count + i + 1) 0).kind ≡ R_386_PC32
