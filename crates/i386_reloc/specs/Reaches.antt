-- What the sections of one object reach, by name, and where references to functions go.
use Rattle.std.specs.Prelude.{IsTrue, ℕ, ◌-◌, ◌^◌, Bool, true, false, not, ◌&&◌, ◌==◌, List, Option, Some, None}
use Rattle.std.specs.List.{list_any}
use Rattle.i386_reloc.specs.declared.types.Class.{Class}
use Rattle.i386_reloc.specs.declared.types.Class.TheVariants.{Zero, Writable, Strings, ReadOnly}
use Rattle.i386_reloc.specs.declared.types.Form.{Form}
use Rattle.i386_reloc.specs.declared.types.Form.TheVariants.{Absolute, Relative}
use Rattle.i386_reloc.specs.declared.types.Target.{Target}
use Rattle.i386_reloc.specs.declared.types.Target.TheVariants.{Section, Outside, Text}
use Rattle.i386_reloc.specs.declared.types.Ref.{Ref}
use Rattle.i386_reloc.specs.declared.types.NormalSection.{NormalSection}
use Rattle.i386_reloc.specs.Normal.{same_bytes, section_named}

abbrev pub is_read_only_class : Class → Bool
is_read_only_class ReadOnly = true
is_read_only_class _ = false

-- read-only data and texts, which an update carries with it
abbrev pub is_constant_class : Class → Bool
is_constant_class ReadOnly = true
is_constant_class Strings = true
is_constant_class _ = false

-- data that the program may change
abbrev pub is_data_class : Class → Bool
is_data_class Zero = true
is_data_class Writable = true
is_data_class _ = false

-- whether there is a section of this name, and it is of a wanted class
abbrev pub has_class : (Class → Bool) → Option NormalSection → Bool
has_class wanted None = false
has_class wanted (Some section) = wanted section.class

abbrev pub is_in : (Class → Bool) → List NormalSection → List ℕ → Bool
is_in wanted sections name = has_class wanted (section_named sections name)

-- whether there is a section of this name, and one of its references passes a test
abbrev pub some_reference : (Ref → Bool) → Option NormalSection → Bool
some_reference test None = false
some_reference test (Some section) = list_any test section.refs

-- whether a reference goes to the section of a name
abbrev pub goes_to_target : List ℕ → Target → Bool
goes_to_target name (Section other) = same_bytes other name
goes_to_target name (Text other offset text) = same_bytes other name
goes_to_target name (Outside other) = false

abbrev pub goes_to : List ℕ → Ref → Bool
goes_to name r = goes_to_target name r.target

-- whether the section of a name refers to read-only data or texts of another name
abbrev pub refers_on : List NormalSection → List ℕ → List ℕ → Bool
refers_on sections name other =
    is_in is_constant_class sections other && some_reference (goes_to other) (section_named sections name)

-- A section reaches each section of read-only data or texts to which it refers, and each to which a reached one refers.
pub data Reaches (sections : List NormalSection) : List ℕ → List ℕ → Type 0 where
  Refers : (name other : List ℕ) → IsTrue (refers_on sections name other) → Reaches sections name other
  Further : (name between other : List ℕ) → Reaches sections name between → IsTrue (refers_on sections between other)
      → Reaches sections name other

-- A reference to a code section goes to its entry where it is absolute and has the addend 0, or relative and has -4:
-- the processor counts a relative value from the field's end, four bytes after its start. Every other one goes to its
-- interior.
abbrev pub is_entry_by : Form → ℕ → Bool
is_entry_by Absolute addend = addend == 0
is_entry_by Relative addend = addend == 2 ^ 32 - 4

abbrev pub is_interior : Ref → Bool
is_interior r = not (is_entry_by r.form r.addend)
