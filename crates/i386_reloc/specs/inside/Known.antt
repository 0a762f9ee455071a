-- What references need of an object: of a loaded section its name, its class, where it holds texts, its bytes, and its
-- place among the loaded sections; of a symbol its name, value, st_info and section.
use Rattle.std.specs.Prelude.{ℕ, nat_lt, if◌then◌else◌, List, [], length, Option, Some, None}
use Rattle.elf32_object.specs.Fields.{section_header, section_name, section_bytes, is_loaded, symbol_entry, symbol_name}
use Rattle.i386_reloc.specs.declared.known.Known.{Known}
use Rattle.i386_reloc.specs.declared.known.Named.{Named}
use Rattle.i386_reloc.specs.Classes.{class_of, is_strings_class}
use Rattle.i386_reloc.specs.Normal.{loaded_below}

unfoldable pub known_section : List ℕ → ℕ → Known
known_section bytes i =
    record {
      name = section_name bytes i;
      class = class_of (section_header bytes i);
      texts = if is_strings_class (class_of (section_header bytes i)) then section_bytes bytes i else [];
      place = length (loaded_below bytes i);
    }

-- the section of an index, where it is loaded
unfoldable pub known_at : List ℕ → ℕ → Option Known
known_at bytes i = if is_loaded bytes i then Some (known_section bytes i) else None

abbrev pub named_symbol : List ℕ → ℕ → Named
named_symbol bytes k =
    record {
      name = symbol_name bytes k;
      value = (symbol_entry bytes k).value;
      info = (symbol_entry bytes k).info;
      section = (symbol_entry bytes k).section;
    }

-- the symbol of an index; symbol 0 is none
unfoldable pub named_at : List ℕ → ℕ → Named
named_at bytes k =
    if nat_lt 0 k then named_symbol bytes k else record { name = []; value = 0; info = 0; section = 0 }
