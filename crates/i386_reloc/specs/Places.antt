-- Where a section stands in a list of sections, and what the section at a place has, nothing where there is none.
use Rattle.std.specs.Prelude.{ℕ, suc, if◌then◌else◌, List, [], ◌∷◌, Option, Some, None, option_map}
use Rattle.std.specs.List.{slice_get}
use Rattle.i386_reloc.specs.declared.types.NormalSection.{NormalSection}
use Rattle.i386_reloc.specs.declared.types.Ref.{Ref}
use Rattle.i386_reloc.specs.declared.types.Target.{Target}
use Rattle.i386_reloc.specs.declared.types.Target.TheVariants.{Section, Outside, Text}
use Rattle.i386_reloc.specs.Normal.{same_bytes}

-- the place of the first section of a name, counted from 0
abbrev pub place_named : List NormalSection → List ℕ → Option ℕ
place_named [] name = None
place_named (section ∷ sections) name =
    if same_bytes section.name name then Some 0 else option_map suc (place_named sections name)

-- the section at a place, where there is one
abbrev pub at_place : List NormalSection → Option ℕ → Option NormalSection
at_place sections None = None
at_place sections (Some place) = slice_get sections place

-- the bytes of the section at a place
abbrev pub bytes_of : Option NormalSection → List ℕ
bytes_of None = []
bytes_of (Some section) = section.bytes

abbrev pub bytes_at : List NormalSection → ℕ → List ℕ
bytes_at sections place = bytes_of (slice_get sections place)

-- the place of the section that a reference goes to
abbrev pub place_of_target : List NormalSection → Target → Option ℕ
place_of_target sections (Section name) = place_named sections name
place_of_target sections (Text name offset text) = place_named sections name
place_of_target sections (Outside name) = None

-- the references of a section
abbrev pub references_in : Option NormalSection → List Ref
references_in None = []
references_in (Some section) = section.refs

-- the k-th reference of the section at a place
abbrev pub reference_in : Option NormalSection → ℕ → Option Ref
reference_in None k = None
reference_in (Some section) k = slice_get section.refs k

abbrev pub reference_at : List NormalSection → ℕ → ℕ → Option Ref
reference_at sections place k = reference_in (slice_get sections place) k

-- the place of the section that a reference goes to, where there is the reference
abbrev pub place_of_reference : List NormalSection → Option Ref → Option ℕ
place_of_reference sections None = None
place_of_reference sections (Some r) = place_of_target sections r.target
