-- Why an object is refused before its sections are compared.
use Rattle.std.specs.Prelude.{ℕ, Bool, not, ◌&&◌, ◌||◌, ◌==◌, nat_lt, if◌then◌else◌}
use Rattle.std.specs.Prelude.{List, [], ◌∷◌, length, Option, Some, None}
use Rattle.ks_base.specs.declared.refusals.Refusal.{Refusal}
use Rattle.ks_base.specs.declared.refusals.Refusal.TheVariants as refusal
use Rattle.ks_base.specs.declared.refusals.Large.{Large}
use Rattle.ks_base.specs.declared.refusals.Large.TheVariants as limit
use Rattle.elf32_object.specs.Numbers.{SHN_ABS, R_386_NONE}
use Rattle.elf32_object.specs.declared.types.ObjectFault.{ObjectFault}
use Rattle.elf32_object.specs.declared.types.ObjectFault.TheVariants as fault
use Rattle.elf32_object.specs.declared.types.Large as object
use Rattle.elf32_object.specs.declared.types.Large.TheVariants as large
use Rattle.elf32_object.specs.declared.types.Reloc.{Reloc}
use Rattle.elf32_object.specs.Below.{first_of, first_below}
use Rattle.elf32_object.specs.Fields.{section_count, section_name, section_bytes, is_loaded, symbol_name, ends_in}
use Rattle.elf32_object.specs.Rule.{◌orElse◌, first_broken}
use Rattle.elf32_object.specs.Rules.{has_field}
use Rattle.i386_reloc.specs.Classes.{is_code, is_strings}
use Rattle.i386_reloc.specs.Normal.{is_name_twice, is_not_one_function}
use Rattle.i386_reloc.specs.References.{relocations_of, is_absolute, symbol_of, addend_in, is_outside, text_offset}

-- a refusal where a test passes
abbrev pub refused_where : Bool → Refusal → Option Refusal
refused_where broken why = if broken then Some why else None

-- what is wrong with section i: an earlier section has its name; it isn't one function
unfoldable pub name_fault_at : List ℕ → ℕ → Option Refusal
name_fault_at bytes i = refused_where (is_name_twice bytes i) (refusal.DoubleName (section_name bytes i))

unfoldable pub function_fault_at : List ℕ → ℕ → Option Refusal
function_fault_at bytes i =
    refused_where (is_not_one_function bytes i) (refusal.NotOneFunction (section_name bytes i))

-- Why a relocation is refused. Its type isn't one that is read, or stands where it may not: in a section of texts; a
-- relative one in a section that isn't code, or with a symbol in a section of texts.
abbrev pub unknown_at : List ℕ → ℕ → Reloc → Refusal
unknown_at bytes i r = refusal.UnknownReloc (section_name bytes i) r.index r.kind

abbrev pub names_strings : List ℕ → Reloc → Bool
names_strings bytes r = nat_lt 0 r.symbol && is_strings bytes (symbol_of bytes r).section

unfoldable pub kind_fault : List ℕ → ℕ → Reloc → Option Refusal
kind_fault bytes i r =
    first_broken (
    (has_field r orElse unknown_at bytes i r)
    ∷ (not (is_strings bytes i) orElse unknown_at bytes i r)
    ∷ (is_absolute r || is_code bytes i orElse unknown_at bytes i r)
    ∷ (is_absolute r || not (names_strings bytes r) orElse unknown_at bytes i r) ∷ [])

-- Its symbol is number 0, has no name and lies outside, is absolute, or lies in a section that isn't loaded.
abbrev pub bad_target_at : List ℕ → ℕ → Reloc → Refusal
bad_target_at bytes i r = refusal.BadTarget (section_name bytes i) r.index

unfoldable pub target_fault : List ℕ → ℕ → Reloc → Option Refusal
target_fault bytes i r =
    first_broken (
    (nat_lt 0 r.symbol orElse bad_target_at bytes i r)
    ∷ (not (is_outside (symbol_of bytes r)) || nat_lt 0
    (length (symbol_name bytes r.symbol)) orElse bad_target_at bytes i r)
    ∷ (not ((symbol_of bytes r).section == SHN_ABS) orElse bad_target_at bytes i r)
    ∷ (is_outside (symbol_of bytes r) || is_loaded bytes (symbol_of bytes r).section orElse bad_target_at bytes i r)
    ∷ [])

-- It names a text that no zero ends in its section, such as one that begins at the section's end or after it.
abbrev pub names_end : List ℕ → ℕ → Reloc → Bool
names_end bytes i r =
    ends_in (section_bytes bytes (symbol_of bytes r).section) (text_offset (symbol_of bytes r) (addend_in bytes i r))

unfoldable pub text_fault : List ℕ → ℕ → Reloc → Option Refusal
text_fault bytes i r =
    first_broken (
    (not (is_strings bytes (symbol_of bytes r).section) || names_end bytes i r
    orElse refusal.BadString (section_name bytes i) r.index) ∷ [])

-- what is wrong with a relocation of section i; one of type R_386_NONE changes nothing and is passed over
unfoldable pub relocation_fault_of : List ℕ → ℕ → Reloc → Option Refusal
relocation_fault_of bytes i r =
    if r.kind == R_386_NONE then None
    else first_of (kind_fault bytes i r) (first_of (target_fault bytes i r) (text_fault bytes i r))

-- the first refusal among the items of a list
abbrev pub first_among : {X : Type 0} → (X → Option Refusal) → List X → Option Refusal
first_among fault [] = None
first_among fault (x ∷ xs) = first_of (fault x) (first_among fault xs)

unfoldable pub relocation_fault_at : List ℕ → ℕ → Option Refusal
relocation_fault_at bytes i =
    if is_loaded bytes i then first_among (relocation_fault_of bytes i) (relocations_of bytes i) else None

-- A name that occurs twice is looked for in all sections, then a section that isn't one function, and then the first
-- relocation that is refused: of one relocation all is looked at before the next.
unfoldable pub name_fault : List ℕ → Option Refusal
name_fault bytes = first_below (name_fault_at bytes) (section_count bytes)

unfoldable pub function_fault : List ℕ → Option Refusal
function_fault bytes = first_below (function_fault_at bytes) (section_count bytes)

unfoldable pub relocation_fault : List ℕ → Option Refusal
relocation_fault bytes = first_below (relocation_fault_at bytes) (section_count bytes)

-- why an object has no sections to compare
unfoldable pub normal_fault : List ℕ → Option Refusal
normal_fault bytes =
    first_of (name_fault bytes) (first_of (function_fault bytes) (relocation_fault bytes))

-- the limit of the same name
abbrev pub limit_of : object.Large → Large
limit_of large.Bytes = limit.Bytes
limit_of large.Sections = limit.Sections
limit_of large.Symbols = limit.Symbols
limit_of large.Relocations = limit.Relocations
limit_of large.Name = limit.Name
limit_of large.Content = limit.Content

-- the refusal of the same name and fields
abbrev pub refusal_of_fault : ObjectFault → Refusal
refusal_of_fault fault.NotElf = refusal.NotElf
refusal_of_fault fault.NotRel386 = refusal.NotRel386
refusal_of_fault (fault.BadHeader offset) = refusal.BadHeader offset
refusal_of_fault (fault.BadSection index) = refusal.BadSection index
refusal_of_fault (fault.BadSymbol index) = refusal.BadSymbol index
refusal_of_fault (fault.BadReloc section entry) = refusal.BadReloc section entry
refusal_of_fault (fault.TooLarge what) = refusal.TooLarge (limit_of what)
refusal_of_fault fault.Memory = refusal.Memory
