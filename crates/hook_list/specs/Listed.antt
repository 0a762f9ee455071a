-- The functions that an object lists, to be run at an update to it: a section of that name, with four bytes for each.
use Rattle.std.specs.Prelude.{ℕ, ◌+◌, ◌*◌, ◌/◌, ◌%◌, ◌==◌, nat_lt, Bool, true, false, not, ◌&&◌, if◌then◌else◌}
use Rattle.std.specs.Prelude.{List, codes, map, find, Option, Some, None, is_none, Result, Ok, Err}
use Rattle.std.specs.List.{filter_map, range_with_len}
use Rattle.std.specs.Option.{option_or}
use Rattle.i386_reloc.specs.declared.types.Class.{Class}
use Rattle.i386_reloc.specs.declared.types.Class.TheVariants.{Zero, Code, Writable, Strings, ReadOnly}
use Rattle.i386_reloc.specs.declared.types.Target.{Target}
use Rattle.i386_reloc.specs.declared.types.Target.TheVariants.{Section, Outside, Text}
use Rattle.i386_reloc.specs.declared.types.Ref.{Ref}
use Rattle.i386_reloc.specs.declared.types.NormalSection.{NormalSection}
use Rattle.i386_reloc.specs.Classes.{is_code_class}
use Rattle.i386_reloc.specs.Normal.{section_named}
use Rattle.i386_reloc.specs.Reaches.{is_in, is_interior}

-- the section that lists functions
abbrev pub hook_section_name : List ℕ
hook_section_name = codes ".ksplice_apply"

abbrev pub hook_section : List NormalSection → Option NormalSection
hook_section sections = section_named sections hook_section_name

-- the most bytes that it may have
abbrev pub most_hook_bytes : ℕ
most_hook_bytes = 256

-- code, texts and zeros list nothing
abbrev pub lists_nothing : Class → Bool
lists_nothing Code = true
lists_nothing Strings = true
lists_nothing Zero = true
lists_nothing Writable = false
lists_nothing ReadOnly = false

-- whether a target is a function of the object
abbrev pub is_function : List NormalSection → Target → Bool
is_function sections (Section name) = is_in is_code_class sections name
is_function sections (Outside name) = false
is_function sections (Text section offset text) = false

-- whether a reference goes to the start of a function
abbrev pub is_entry : List NormalSection → Ref → Bool
is_entry sections r = not (is_interior r) && is_function sections r.target

-- the first such reference at an offset of a section
abbrev pub entry_at : List NormalSection → NormalSection → ℕ → Option Ref
entry_at sections section offset = find (λ (r : Ref). (r.offset == offset) && is_entry sections r) section.refs

-- how many multiples of 4 lie below a section's size
abbrev pub entry_count : NormalSection → ℕ
entry_count section = (section.size + 3) / 4

abbrev pub entry_offset : ℕ → ℕ
entry_offset n = n * 4

abbrev pub entry_offsets : NormalSection → List ℕ
entry_offsets section = map entry_offset (range_with_len 0 (entry_count section))

-- the first of these at which no reference goes to the start of a function
abbrev pub first_gap : List NormalSection → NormalSection → Option ℕ
first_gap sections section = find (λ offset. is_none (entry_at sections section offset)) (entry_offsets section)

abbrev pub at_where : Bool → ℕ → Option ℕ
at_where holds offset = if holds then Some offset else None

-- Where such a list is broken: it has a class that lists nothing, or more bytes than it may; four bytes have no such
-- reference, or there are fewer than four at its end.
unfoldable pub bad_hooks : List NormalSection → NormalSection → Option ℕ
bad_hooks sections section =
    option_or (at_where (lists_nothing section.class) 0)
    (option_or (at_where (nat_lt most_hook_bytes section.size) most_hook_bytes)
    (option_or (first_gap sections section) (at_where (not (section.size % 4 == 0)) section.size)))

-- the references to the functions, in their order
unfoldable pub entries : List NormalSection → NormalSection → List Ref
entries sections section = filter_map (entry_at sections section) (entry_offsets section)

abbrev pub unless_broken : Option ℕ → List Ref → Result (Option (List Ref)) ℕ
unless_broken (Some offset) references = Err offset
unless_broken None references = Ok (Some references)

abbrev pub listed_in : List NormalSection → Option NormalSection → Result (Option (List Ref)) ℕ
listed_in sections None = Ok None
listed_in sections (Some section) = unless_broken (bad_hooks sections section) (entries sections section)

-- What an object lists: the references to functions, where it has such a section; or where that is broken.
unfoldable pub listed : List NormalSection → Result (Option (List Ref)) ℕ
listed sections = listed_in sections (hook_section sections)
