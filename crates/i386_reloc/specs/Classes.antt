-- The classes of loaded sections (System V gABI, chapter 4, "Sections").
use Rattle.std.specs.Prelude.{ℕ, Bool, true, false, ◌&&◌, ◌==◌, if◌then◌else◌, List}
use Rattle.elf32_object.specs.Numbers.{SHT_NOBITS, SHF_WRITE, SHF_EXECINSTR, SHF_MERGE, SHF_STRINGS}
use Rattle.elf32_object.specs.declared.types.SectionHeader.{SectionHeader}
use Rattle.elf32_object.specs.Fields.{section_header, is_loaded, has_flag}
use Rattle.i386_reloc.specs.declared.types.Class.{Class}
use Rattle.i386_reloc.specs.declared.types.Class.TheVariants.{Zero, Code, Writable, Strings, ReadOnly}

-- the class of a loaded section by its type, flags and size of an entry: the first that fits
abbrev pub class_by : (kind flags entry : ℕ) → Class
class_by kind flags entry =
    if kind == SHT_NOBITS then Zero
    else (if has_flag SHF_EXECINSTR flags then Code
    else (if has_flag SHF_WRITE flags then Writable
    else (if has_flag SHF_MERGE flags && has_flag SHF_STRINGS flags && entry == 1 then Strings else ReadOnly)))

abbrev pub class_of : SectionHeader → Class
class_of header = class_by header.kind header.flags header.entry

abbrev pub is_code_class : Class → Bool
is_code_class Code = true
is_code_class Zero = false
is_code_class Writable = false
is_code_class Strings = false
is_code_class ReadOnly = false

-- whether a number is the index of a loaded code section
unfoldable pub is_code : List ℕ → ℕ → Bool
is_code bytes i = is_loaded bytes i && is_code_class (class_of (section_header bytes i))

abbrev pub is_strings_class : Class → Bool
is_strings_class Strings = true
is_strings_class Zero = false
is_strings_class Code = false
is_strings_class Writable = false
is_strings_class ReadOnly = false

-- whether a number is the index of a loaded section of texts
unfoldable pub is_strings : List ℕ → ℕ → Bool
is_strings bytes j = is_loaded bytes j && is_strings_class (class_of (section_header bytes j))
