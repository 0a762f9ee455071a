-- The bytes of sections, filled by the places of the sections to which their references go.
use Rattle.std.specs.Prelude.{◌≡◌, ℕ, List, map, Option, Some, None, option_map}
use Rattle.std.specs.List.{slice_get}
use Rattle.symbol_table.specs.declared.values.Unknown.TheVariants as unknown
use Rattle.i386_reloc.specs.declared.types.Target.{Target}
use Rattle.i386_reloc.specs.declared.types.Target.TheVariants.{Section, Outside, Text}
use Rattle.i386_reloc.specs.declared.types.NormalSection.{NormalSection}
use Rattle.i386_reloc.specs.Normal.{name_of}
use Rattle.link_post.specs.declared.types.Placed.{Placed}
use Rattle.link_post.specs.Values.{ValueList}
use Rattle.link_post.specs.Linked.{beyond, section_of, value_in}

-- where the section at a place of an object was placed
abbrev pub base_at : List Placed → Option ℕ → Option ℕ
base_at places None = None
base_at places (Some place) = option_map (λ one. one.base) (slice_get places place)

-- the address of what a reference goes to, which is the section at a place or an outside name
abbrev pub address_at : List Placed → ValueList → Option ℕ → Target → Option ℕ
address_at places values place (Outside name) = value_in values (unknown.Outside name)
address_at places values place (Section name) = base_at places place
address_at places values place (Text name offset text) =
    option_map (λ base. beyond base offset) (base_at places place)

-- all sections of an object were placed, each at its own index among the places
abbrev pub AreAllPlaced : List NormalSection → List Placed → Type 0
AreAllPlaced object places = map section_of places ≡ map name_of object

-- values that tell nothing of functions and data, as those of outside names
abbrev pub OfNames : ValueList → Type 0
OfNames values = (name : List ℕ)
    → (value_in values (unknown.Code name) ≡ None) × (value_in values (unknown.Data name) ≡ None)
