-- Where the sections of some objects are placed: object by object and section by section, each at the next address of its
-- region at which it may begin.
use Rattle.std.specs.Prelude.{ℕ, ◌+◌, ◌-◌, List, [], ◌∷◌}
use Rattle.std.specs.List.{fold, zip}
use Rattle.image_memory.specs.declared.types.Kind.{Kind}
use Rattle.image_memory.specs.declared.types.Kind.TheVariants as kinds
use Rattle.i386_reloc.specs.declared.types.NormalSection.{NormalSection}
use Rattle.link_post.specs.declared.types.Placed.{Placed}
use Rattle.link_post.specs.Places.{round_up}
use Rattle.image_link.specs.Regions.{kind_of, start_of, boundary}

-- where the regions end so far
pub record Ends : Type 0 where
  pub code : ℕ
  pub read_only : ℕ
  pub writable : ℕ

abbrev pub first_ends : Ends
first_ends =
    record { code = start_of kinds.Code; read_only = start_of kinds.ReadOnly; writable = start_of kinds.Writable }

abbrev pub end_in : Ends → Kind → ℕ
end_in ends kinds.Code = ends.code
end_in ends kinds.ReadOnly = ends.read_only
end_in ends kinds.Writable = ends.writable

abbrev pub with_end : Ends → Kind → ℕ → Ends
with_end ends kinds.Code end = record ends { code = end }
with_end ends kinds.ReadOnly end = record ends { read_only = end }
with_end ends kinds.Writable end = record ends { writable = end }

-- the place of a section behind those so far, and the ends behind it
abbrev pub next_base : Ends → NormalSection → ℕ
next_base ends section = round_up (end_in ends (kind_of section)) (boundary section)

abbrev pub behind : Ends → NormalSection → Ends
behind ends section = with_end ends (kind_of section) (next_base ends section + section.size)

abbrev pub next_place : Ends → NormalSection → Placed
next_place ends section = record { section = section.name; base = next_base ends section }

-- the places of an object's sections in order, and the ends behind all of them
unfoldable pub places_from : Ends → List NormalSection → List Placed
places_from ends [] = []
places_from ends (section ∷ sections) = next_place ends section ∷ places_from (behind ends section) sections

abbrev pub ends_after : Ends → List NormalSection → Ends
ends_after ends object = fold behind ends object

-- an object with its places
pub record Laid : Type 0 where
  pub object : List NormalSection
  pub places : List Placed

unfoldable pub laid_from : Ends → List (List NormalSection) → List Laid
laid_from ends [] = []
laid_from ends (object ∷ objects) =
    record { object = object; places = places_from ends object } ∷ laid_from (ends_after ends object) objects

-- all objects with their places, and where the regions end then
abbrev pub laid_out : List (List NormalSection) → List Laid
laid_out objects = laid_from first_ends objects

abbrev pub last_ends : List (List NormalSection) → Ends
last_ends objects = fold ends_after first_ends objects

-- how many bytes a region has, and all of them
abbrev pub region_length : Ends → Kind → ℕ
region_length ends kind = end_in ends kind - start_of kind

abbrev pub lengths_of : Ends → ℕ
lengths_of ends =
    region_length ends kinds.Code + region_length ends kinds.ReadOnly + region_length ends kinds.Writable

abbrev pub total_length : List (List NormalSection) → ℕ
total_length objects = lengths_of (last_ends objects)

-- each section of an object with its place
abbrev pub at_places : Laid → List (NormalSection × Placed)
at_places laid = zip laid.object laid.places
