-- The places of the sections to which references go: by the name of a target, and by the index of a symbol's section.
use Rattle.std.specs.Prelude.{ℕ, if◌then◌else◌, List, [], ◌∷◌, length, map, Option, Some, None}
use Rattle.elf32_object.specs.declared.types.Reloc.{Reloc}
use Rattle.elf32_object.specs.Below.{all_below}
use Rattle.elf32_object.specs.Fields.{is_loaded}
use Rattle.i386_reloc.specs.declared.types.NormalSection.{NormalSection}
use Rattle.i386_reloc.specs.Normal.{loaded_below}
use Rattle.i386_reloc.specs.Places.{place_of_target}
use Rattle.i386_reloc.specs.References.{symbol_of, is_outside, fields_of}

-- for each reference of a section the place of its target's name, and this for each section
abbrev pub targets_of : List NormalSection → NormalSection → List (Option ℕ)
targets_of sections section = map (λ r. place_of_target sections r.target) section.refs

abbrev pub targets_in : List NormalSection → List (List (Option ℕ))
targets_in sections = map (targets_of sections) sections

-- the place of the section in which a relocation's symbol lies, among the loaded sections
unfoldable pub place_by_index : List ℕ → Reloc → Option ℕ
place_by_index bytes r =
    if is_outside (symbol_of bytes r) then None else Some (length (loaded_below bytes (symbol_of bytes r).section))

-- for each field of a section, and this for each loaded section below a bound
unfoldable pub places_of : List ℕ → ℕ → List (Option ℕ)
places_of bytes i = map (place_by_index bytes) (fields_of bytes i)

abbrev pub places_below : List ℕ → ℕ → List (List (Option ℕ))
places_below bytes n = all_below (λ i. if is_loaded bytes i then places_of bytes i ∷ [] else []) n
