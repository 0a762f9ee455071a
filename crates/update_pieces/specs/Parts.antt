-- The sections of a new object that an update places, and their places.
use Rattle.std.specs.Prelude.{ℕ, List, [], ◌∷◌}
use Rattle.i386_reloc.specs.declared.types.NormalSection.{NormalSection}
use Rattle.link_post.specs.declared.types.SectionSize.{SectionSize}
use Rattle.link_post.specs.declared.types.Placed.{Placed}
use Rattle.extract_post.specs.declared.role.Role.{Role}

-- a section of the new object, and what the update does with it
pub record NewPart : Type 0 where
  pub section : NormalSection
  pub role : Role

abbrev pub new_part : NormalSection → Role → NewPart
new_part section role = record { section = section; role = role }

-- what is needed to place it
abbrev pub size_of : NewPart → SectionSize
size_of part = record { name = part.section.name; size = part.section.size; align = part.section.align }

-- a section of the new object with the address of its first byte
pub record AtPlace : Type 0 where
  pub section : NormalSection
  pub role : Role
  pub base : ℕ

abbrev pub placed_part : NormalSection → Role → ℕ → AtPlace
placed_part section role base = record { section = section; role = role; base = base }

abbrev pub at_place : NewPart → Placed → AtPlace
at_place part place = placed_part part.section part.role place.base

-- each section at its place: places are given in the order of the sections
abbrev pub at_places : List NewPart → List Placed → List AtPlace
at_places [] places = []
at_places (part ∷ parts) [] = []
at_places (part ∷ parts) (place ∷ places) = at_place part place ∷ at_places parts places
