-- The offsets that references name, by section.
use Rattle.std.specs.Prelude.{ℕ, List, [], ◌∷◌, ◌++◌, map, set, slice_index_or, Option, Some, None}
use Rattle.std.specs.List.{filter, flat_map}
use Rattle.i386_reloc.specs.declared.types.Ref.{Ref}
use Rattle.i386_reloc.specs.declared.types.NormalSection.{NormalSection}
use Rattle.match_instructions.specs.Landing.{interior_offset, refs_in, is_code_or_constant, goes_inside}

-- the references of code and of read-only data
abbrev pub naming : List NormalSection → List Ref
naming object = flat_map refs_in (filter is_code_or_constant object)

-- what some of them name in a section
abbrev pub named_in : List Ref → NormalSection → List ℕ
named_in refs section = map interior_offset (filter (goes_inside section.name) refs)

-- and in each section
abbrev pub named_by : List NormalSection → List Ref → List (List ℕ)
named_by object refs = map (named_in refs) object

-- a table with one more offset at a place
abbrev pub put_at : List (List ℕ) → Option ℕ → ℕ → List (List ℕ)
put_at table None offset = table
put_at table (Some place) offset = set table place (slice_index_or table place [] ++ offset ∷ [])
