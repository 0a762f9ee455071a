-- What is reached from marked sections, and what reaches one. A list of marks has a place for each section.
use Rattle.std.specs.Prelude.{◌≡◌, ℕ, Bool, true, false, List, map, Some}
use Rattle.std.specs.List.{IsDistinct, slice_get, slice_index_or}
use Rattle.i386_reloc.specs.declared.types.NormalSection.{NormalSection}
use Rattle.i386_reloc.specs.Normal.{same_bytes, name_of}
use Rattle.i386_reloc.specs.Reaches.{Reaches}

-- no two sections have one name
abbrev pub HasDistinctNames : List NormalSection → Type 0
HasDistinctNames sections = IsDistinct same_bytes (map name_of sections)

-- a marked section reaches the section of a name
pub record SeedReaches (sections : List NormalSection) (seeds : List Bool) (name : List ℕ) : Type 0 where
  pub place : ℕ
  pub section : NormalSection
  pub at : slice_get sections place ≡ Some section
  pub seeded : slice_index_or seeds place false ≡ true
  pub reaches : Reaches sections section.name name

-- the section of a name reaches a marked section
pub record ReachesSeed (sections : List NormalSection) (seeds : List Bool) (name : List ℕ) : Type 0 where
  pub place : ℕ
  pub section : NormalSection
  pub at : slice_get sections place ≡ Some section
  pub seeded : slice_index_or seeds place false ≡ true
  pub reaches : Reaches sections name section.name
