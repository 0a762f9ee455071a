-- The sections of the new object of an update that it places.
use Rattle.std.specs.Prelude.{ℕ, List, [], ◌∷◌, map, Option, Some, None}
use Rattle.std.specs.List.{flat_map}
use Rattle.i386_reloc.specs.declared.types.NormalSection.{NormalSection}
use Rattle.extract_post.specs.declared.types.Extract.{Extract}
use Rattle.extract_post.specs.declared.role.Role.{Role}
use Rattle.extract_post.specs.Roles.{role_of}
use Rattle.update_pieces.specs.Parts.{NewPart, new_part}

-- a section is placed where it has a role
abbrev pub part_as : NormalSection → Option Role → List NewPart
part_as section None = []
part_as section (Some role) = new_part section role ∷ []

abbrev pub part_in : Extract → NormalSection → List NewPart
part_in extract section = part_as section (role_of extract section.name)

-- the sections that are placed, in the order of the new object
unfoldable pub parts_of : Extract → List NormalSection → List NewPart
parts_of extract post = flat_map (part_in extract) post

abbrev pub name_of : NewPart → List ℕ
name_of part = part.section.name

abbrev pub names_of : List NewPart → List (List ℕ)
names_of parts = map name_of parts
