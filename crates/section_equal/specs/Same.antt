-- When two sections of one name are the same.
use Rattle.std.specs.Prelude.{ℕ, Bool, true, false, ◌&&◌, ◌||◌, ◌==◌, List, map, Option, Some}
use Rattle.std.specs.Cmp.Lexicographic.{pointwise}
use Rattle.i386_reloc.specs.declared.types.Class.{Class}
use Rattle.i386_reloc.specs.declared.types.Class.TheVariants.{Zero, Code, Writable, Strings, ReadOnly}
use Rattle.i386_reloc.specs.declared.types.Form.{Form}
use Rattle.i386_reloc.specs.declared.types.Form.TheVariants.{Absolute, Relative}
use Rattle.i386_reloc.specs.declared.types.Target.{Target}
use Rattle.i386_reloc.specs.declared.types.Target.TheVariants.{Section, Outside, Text}
use Rattle.i386_reloc.specs.declared.types.Ref.{Ref}
use Rattle.i386_reloc.specs.declared.types.NormalSection.{NormalSection}
use Rattle.i386_reloc.specs.Classes.{is_strings_class}
use Rattle.i386_reloc.specs.Normal.{same_bytes, section_named}

abbrev pub same_class : Class → Class → Bool
same_class Zero Zero = true
same_class Code Code = true
same_class Writable Writable = true
same_class Strings Strings = true
same_class ReadOnly ReadOnly = true
same_class _ _ = false

abbrev pub same_form : Form → Form → Bool
same_form Absolute Absolute = true
same_form Relative Relative = true
same_form _ _ = false

-- Texts are one target where their bytes are equal, wherever they stand.
abbrev pub same_target : Target → Target → Bool
same_target (Section a) (Section b) = same_bytes a b
same_target (Outside a) (Outside b) = same_bytes a b
same_target (Text s i a) (Text t j b) = same_bytes a b
same_target _ _ = false

abbrev pub same_reference : Ref → Ref → Bool
same_reference a b =
    a.offset == b.offset && same_form a.form b.form && same_target a.target b.target && a.addend == b.addend

-- Sections of one name are the same where class, size, bytes outside the fields, and references are equal. Of sections
-- of texts nothing but the class is compared: their texts are compared at the references.
unfoldable pub is_same : NormalSection → NormalSection → Bool
is_same old new =
    same_class old.class new.class
    && (is_strings_class old.class
    || old.size == new.size && same_bytes old.bytes new.bytes && pointwise same_reference old.refs new.refs)

-- both are there, and they are the same
abbrev pub are_same : Option NormalSection → Option NormalSection → Bool
are_same (Some old) (Some new) = is_same old new
are_same _ _ = false

-- whether both objects have a section of this name, and it is the same
unfoldable pub same_in : List NormalSection → List NormalSection → List ℕ → Bool
same_in pre post name = are_same (section_named pre name) (section_named post name)

-- of each section of a list, whether both objects have one of its name, and it is the same in both
abbrev pub same_names : (pre post : List NormalSection) → List NormalSection → List Bool
same_names pre post sections = map (λ section. same_in pre post section.name) sections
