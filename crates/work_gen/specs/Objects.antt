-- The two objects of a work, each function in a section of its own. In an object of so many functions sections 1 on are
-- the functions, then come the relocations of each that calls another, the symbols, and the symbols' names.
use Rattle.std.specs.Prelude.{ℕ, ◌+◌, ◌-◌, ◌*◌, List, [], ◌∷◌, ◌++◌, codes, map, length}
use Rattle.std.specs.List.{flat_map}
use Rattle.work_gen.specs.declared.types.Section.{Section}
use Rattle.work_gen.specs.Encoding.{half, word, zeros, name_table}
use Rattle.work_gen.specs.ElfFile.{string_table, elf_file}
use Rattle.work_gen.specs.Functions.{function_count, functions, function_name, object_code, old_constant, new_constant}

unfoldable pub section_name : ℕ → List ℕ
section_name i = codes ".text." ++ function_name i

-- the section of function i (SHT_PROGBITS, with SHF_ALLOC and SHF_EXECINSTR)
unfoldable pub code_section : (count : ℕ) → (constants : ℕ → ℕ) → (i : ℕ) → Section
code_section count constants i =
    record {
      name = section_name i;
      kind = 1;
      flags = 6;
      link = 0;
      info = 0;
      alignment = 16;
      entry_size = 0;
      content = object_code count constants i;
    }

-- The relocations of function i (SHT_REL): one of type R_386_PC32 (2) at offset 6, with the symbol of the next
-- function's section. That section's index is i + 2, and so is the index of its symbol.
unfoldable pub relocation_section : (count i : ℕ) → Section
relocation_section count i =
    record {
      name = codes ".rel" ++ section_name i;
      kind = 9;
      flags = 0;
      link = 2 * count;
      info = i + 1;
      alignment = 4;
      entry_size = 8;
      content = word 6 ++ word (256 * (i + 2) + 2);
    }

-- a symbol at the start of a section ("Symbol Table"): where its name begins, its size, its type with its binding, and
-- the section's index
unfoldable pub symbol : (name size info section : ℕ) → List ℕ
symbol name size info section = word name ++ word 0 ++ word size ++ info ∷ 0 ∷ half section

-- the local symbol of a function's section (STT_SECTION)
abbrev pub section_symbol : ℕ → List ℕ
section_symbol i = symbol 0 0 0x03 (i + 1)

-- the global symbols of functions (STT_FUNC), where the name of the first begins at a place
unfoldable pub function_symbols : (count : ℕ) → (constants : ℕ → ℕ) → (name : ℕ) → List ℕ → List ℕ
function_symbols count constants name [] = []
function_symbols count constants name (i ∷ is) =
    symbol name (length (object_code count constants i)) 0x12 (i + 1)
    ++ function_symbols count constants (name + length (function_name i) + 1) is

unfoldable pub symbols : (count : ℕ) → (constants : ℕ → ℕ) → List ℕ
symbols count constants =
    zeros 16
    ++ flat_map section_symbol (functions count)
    ++ function_symbols count constants 1 (functions count)

-- the symbol table (SHT_SYMTAB); its link is the next section, and its info says how many symbols stand before the
-- global ones
unfoldable pub symbol_table : (count : ℕ) → (content : List ℕ) → Section
symbol_table count content =
    record {
      name = codes ".symtab";
      kind = 2;
      flags = 0;
      link = 2 * count + 1;
      info = count + 1;
      alignment = 4;
      entry_size = 16;
      content = content;
    }

-- the symbols' names
unfoldable pub symbol_names : (count : ℕ) → List ℕ
symbol_names count = name_table (map function_name (functions count))

unfoldable pub sections : (count : ℕ) → (constants : ℕ → ℕ) → List Section
sections count constants =
    map (code_section count constants) (functions count)
    ++ map (relocation_section count) (functions (count - 1))
    ++ symbol_table count (symbols count constants)
    ∷ string_table (codes ".strtab") (symbol_names count)
    ∷ []

-- an object of so many functions that add such constants
unfoldable pub object_file : (count : ℕ) → (constants : ℕ → ℕ) → List ℕ
object_file count constants = elf_file (sections count constants)

-- the object before the update, and the one after it
unfoldable pub old_object : ℕ → List ℕ
old_object number = object_file (function_count number) (old_constant number)

unfoldable pub new_object : ℕ → List ℕ
new_object number = object_file (function_count number) (new_constant number)
