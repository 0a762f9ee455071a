-- The loaded sections of an object as they are compared: their names, classes, functions, bytes with zeros in the
-- fields that relocations change, and references (System V gABI, chapter 4, "Sections" and "Symbol Table").
use Rattle.std.specs.Prelude.{◌≡◌, ℕ, zero, suc, Bool, false, ◌&&◌, ◌||◌, ◌==◌, nat_eq, nat_lt, if◌then◌else◌}
use Rattle.std.specs.Prelude.{List, [], ◌∷◌, ◌++◌, find, Option, Some, None, is_none, IsSome, option_map, unwrap_or}
use Rattle.std.specs.Cmp.Lexicographic.{pointwise}
use Rattle.std.specs.List.Sorted.{IsNonDecreasingBy}
use Rattle.elf32_object.specs.Numbers.{STT_FUNC}
use Rattle.elf32_object.specs.Below.{any_below, least_below}
use Rattle.elf32_object.specs.Fields.{section_count, section_header, is_loaded, section_name}
use Rattle.elf32_object.specs.Fields.{symbol_count, symbol_entry, symbol_name}
use Rattle.i386_reloc.specs.declared.types.Class.TheVariants.{Code}
use Rattle.i386_reloc.specs.declared.types.NormalSection.{NormalSection}
use Rattle.i386_reloc.specs.Classes.{class_of, is_code}
use Rattle.i386_reloc.specs.References.{symbol_type, is_global, references_of, blanked_bytes, objects_of}

-- whether symbol k is a function of section i; symbol 0 is none
unfoldable pub is_function_of : List ℕ → ℕ → ℕ → Bool
is_function_of bytes i k =
    nat_lt 0 k && symbol_type (symbol_entry bytes k).info == STT_FUNC && (symbol_entry bytes k).section == i

-- A code section is the function of the first function symbol at its start.
unfoldable pub starts : List ℕ → ℕ → ℕ → Bool
starts bytes i k = is_function_of bytes i k && (symbol_entry bytes k).value == 0

unfoldable pub function_symbol : List ℕ → ℕ → Option ℕ
function_symbol bytes i =
    if is_code bytes i then least_below (starts bytes i) (symbol_count bytes) else None

-- whether a function symbol stands after the section's start
unfoldable pub has_inner_function : List ℕ → ℕ → Bool
has_inner_function bytes i =
    any_below (λ k. is_function_of bytes i k && nat_lt 0 (symbol_entry bytes k).value) (symbol_count bytes)

abbrev pub is_global_at : List ℕ → Option ℕ → Bool
is_global_at bytes None = false
is_global_at bytes (Some k) = is_global (symbol_entry bytes k).info

-- section i as it is compared
unfoldable pub normal_section : List ℕ → ℕ → NormalSection
normal_section bytes i =
    record {
      name = section_name bytes i;
      class = class_of (section_header bytes i);
      function = option_map (symbol_name bytes) (function_symbol bytes i);
      global = is_global_at bytes (function_symbol bytes i);
      align = (section_header bytes i).align;
      size = (section_header bytes i).size;
      bytes = blanked_bytes bytes i;
      refs = references_of bytes i;
      objects = objects_of bytes i;
    }

-- the loaded sections below i, in order
abbrev pub loaded_below : List ℕ → ℕ → List NormalSection
loaded_below bytes zero = []
loaded_below bytes (suc i) =
    if is_loaded bytes i then loaded_below bytes i ++ normal_section bytes i ∷ [] else loaded_below bytes i

-- all loaded sections
unfoldable pub loaded_sections : List ℕ → List NormalSection
loaded_sections bytes = loaded_below bytes (section_count bytes)

abbrev pub same_bytes : List ℕ → List ℕ → Bool
same_bytes xs ys = pointwise nat_eq xs ys

-- the section of a name
abbrev pub section_named : List NormalSection → List ℕ → Option NormalSection
section_named sections name = find (λ section. same_bytes section.name name) sections

-- Why an object has no sections to compare. A loaded section has the name of an earlier one.
unfoldable pub is_name_twice : List ℕ → ℕ → Bool
is_name_twice bytes j =
    is_loaded bytes j
    && any_below (λ i. is_loaded bytes i && same_bytes (section_name bytes i) (section_name bytes j)) j

-- A code section isn't one function: none begins at its start, or one begins after it.
unfoldable pub is_not_one_function : List ℕ → ℕ → Bool
is_not_one_function bytes i = is_code bytes i && (is_none (function_symbol bytes i) || has_inner_function bytes i)

-- a section's name
abbrev pub name_of : NormalSection → List ℕ
name_of section = section.name

-- the name of the function that a section is, without bytes where it is none
abbrev pub function_name : NormalSection → List ℕ
function_name section = unwrap_or section.function []

-- a code section is a function
pub record IsFunction (section : NormalSection) : Type 0 where
  pub named : section.class ≡ Code → IsSome section.function

-- the references of a section stand by offset
pub record HasFieldsInOrder (section : NormalSection) : Type 0 where
  pub rises : IsNonDecreasingBy (λ r. r.offset) section.refs
