-- Where the code of a section of an object can't be matched: what doesn't decode, fields where none may stand, and
-- places to which branches or references go that stand for no kept instruction.
use Rattle.std.specs.Prelude.{ℕ, ◌+◌, ◌%◌, ◌^◌, Bool, not, ◌&&◌, ◌||◌, ◌==◌, nat_lt, if◌then◌else◌, List, [], ◌∷◌, ◌++◌}
use Rattle.std.specs.Prelude.{map, length, min, Option, is_some}
use Rattle.std.specs.List.{filter, flat_map, reduce}
use Rattle.i386_reloc.specs.declared.types.Class.{Class}
use Rattle.i386_reloc.specs.declared.types.Form.{Form}
use Rattle.i386_reloc.specs.declared.types.Form.TheVariants.{Absolute, Relative}
use Rattle.i386_reloc.specs.declared.types.Ref.{Ref}
use Rattle.i386_reloc.specs.declared.types.NormalSection.{NormalSection}
use Rattle.i386_reloc.specs.Classes.{is_code_class}
use Rattle.i386_reloc.specs.Reaches.{is_read_only_class, goes_to, is_interior}
use Rattle.match_instructions.specs.Instructions.{Instruction, place_of, end_of, kept_of, stands_for, direct_branch}
use Rattle.match_instructions.specs.Instructions.{target_of}
use Rattle.match_instructions.specs.PreCode.{pre_code, may_all_stand}

-- A landing offset is one at which an instruction begins, with a kept instruction at or after it.
abbrev pub is_landing : List Instruction → ℕ → Bool
is_landing code offset = is_some (stands_for code offset)

-- the offset in a code section that an interior reference names: its addend, counted from the field's end where it is
-- relative
abbrev pub interior_offset_by : Form → ℕ → ℕ
interior_offset_by Absolute addend = addend
interior_offset_by Relative addend = (addend + 4) % 2 ^ 32

abbrev pub interior_offset : Ref → ℕ
interior_offset r = interior_offset_by r.form r.addend

abbrev pub refs_in : NormalSection → List Ref
refs_in section = section.refs

abbrev pub is_naming_class : Class → Bool
is_naming_class class = is_code_class class || is_read_only_class class

abbrev pub is_code_or_constant : NormalSection → Bool
is_code_or_constant section = is_naming_class section.class

abbrev pub goes_inside : List ℕ → Ref → Bool
goes_inside name r = goes_to name r && is_interior r

-- the offsets of a code section that interior references of code and of read-only data name
abbrev pub offsets_named : List NormalSection → List ℕ → List ℕ
offsets_named object name =
    map interior_offset (filter (goes_inside name) (flat_map refs_in (filter is_code_or_constant object)))

-- those of a section of the object
abbrev pub offsets_for : List NormalSection → NormalSection → List ℕ
offsets_for object section = offsets_named object section.name

-- and those of each of its sections
abbrev pub all_offsets : List NormalSection → List (List ℕ)
all_offsets object = map (offsets_for object) object

-- where decoding breaks off before the section's end
abbrev pub broken_offsets : ℕ → ℕ → List ℕ
broken_offsets end size = if nat_lt end size then end ∷ [] else []

-- instructions with a field where none may stand
abbrev pub is_misplaced : Instruction → Bool
is_misplaced i = not (may_all_stand i)

abbrev pub misplaced_offsets : List Instruction → List ℕ
misplaced_offsets code = map place_of (filter is_misplaced code)

abbrev pub has_no_reference : Instruction → Bool
has_no_reference i = length i.references == 0

-- a direct branch without a reference that doesn't go to a landing offset
abbrev pub goes_astray : List Instruction → Instruction → Bool
goes_astray code i = is_some (direct_branch i) && has_no_reference i && not (is_landing code (target_of i))

abbrev pub astray_offsets : List Instruction → List ℕ
astray_offsets code = map place_of (filter (goes_astray code) code)

-- offsets that are named and aren't landing offsets
abbrev pub unmet_offsets : List Instruction → List ℕ → List ℕ
unmet_offsets code offsets = filter (λ offset. not (is_landing code offset)) offsets

-- the size of a section that has no kept instruction
abbrev pub empty_offsets : List Instruction → ℕ → List ℕ
empty_offsets code size = if length (kept_of code) == 0 then size ∷ [] else []

abbrev pub faulty_offsets : List Instruction → ℕ → List ℕ → List ℕ
faulty_offsets code size named =
    broken_offsets (end_of 0 code) size
    ++ misplaced_offsets code
    ++ astray_offsets code
    ++ unmet_offsets code named
    ++ empty_offsets code size

-- the least offset at which the code of a section can't be matched, nothing where it can be
unfoldable pub undecoded_offset : List NormalSection → NormalSection → Option ℕ
undecoded_offset object section =
    reduce min (faulty_offsets (pre_code section) section.size (offsets_named object section.name))
