-- An object file of some sections (System V gABI, chapter 4, "Object Files"): the ELF header, the contents of the
-- sections in order, each from a multiple of 4 on, and the section header table.
use Rattle.std.specs.Prelude.{ℕ, ◌+◌, List, [], ◌∷◌, ◌++◌, codes, map, length}
use Rattle.std.specs.List.{flat_map}
use Rattle.work_gen.specs.Encoding.{half, word, zeros, name_table, padded}
use Rattle.work_gen.specs.declared.types.Section.{Section}

abbrev pub name_of : Section → List ℕ
name_of section = section.name

abbrev pub padded_content : Section → List ℕ
padded_content section = padded section.content

unfoldable pub contents : List Section → List ℕ
contents sections = flat_map padded_content sections

-- a section header ("Sections"), where the content begins at a place of the file, and the name at one of the names
unfoldable pub section_header : (place name : ℕ) → Section → List ℕ
section_header place name section =
    word name ++ word section.kind ++ word section.flags ++ word 0 ++ word place ++ word (length section.content)
    ++ word section.link ++ word section.info ++ word section.alignment ++ word section.entry_size

-- the headers of sections, where the content and the name of the first begin at such places
unfoldable pub section_headers : (place name : ℕ) → List Section → List ℕ
section_headers place name [] = []
section_headers place name (section ∷ sections) =
    section_header place name section
    ++ section_headers (place + length (padded_content section)) (name + length section.name + 1) sections

-- The ELF header ("ELF Header") of a relocatable file for the i386, where the section header table begins at a place.
-- The last section, which has such an index, has the sections' names.
unfoldable pub file_header : (place last : ℕ) → List ℕ
file_header place last =
    0x7F ∷ 0x45 ∷ 0x4C ∷ 0x46 ∷ 1 ∷ 1 ∷ 1 ∷ zeros 9
    ++ half 1 ++ half 3 ++ word 1 ++ word 0 ++ word 0 ++ word place ++ word 0
    ++ half 52 ++ half 0 ++ half 0 ++ half 40 ++ half (last + 1) ++ half last

-- a section of names (SHT_STRTAB)
unfoldable pub string_table : (name names : List ℕ) → Section
string_table name names =
    record {
      name = name;
      kind = 3;
      flags = 0;
      link = 0;
      info = 0;
      alignment = 1;
      entry_size = 0;
      content = names;
    }

-- the section of the sections' names, which has its own among them
unfoldable pub section_name_table : List Section → Section
section_name_table sections =
    string_table (codes ".shstrtab") (name_table (map name_of sections ++ codes ".shstrtab" ∷ []))

-- the file of sections, the last of which has their names; the header of section 0 is zeros
unfoldable pub file_of : List Section → List ℕ
file_of sections =
    file_header (52 + length (contents sections)) (length sections)
    ++ contents sections
    ++ zeros 40
    ++ section_headers 52 1 sections

unfoldable pub elf_file : List Section → List ℕ
elf_file sections = file_of (sections ++ section_name_table sections ∷ [])
