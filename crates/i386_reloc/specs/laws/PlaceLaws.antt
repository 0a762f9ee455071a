-- Laws of where a section stands in a list of sections.
use Rattle.std.specs.Prelude.{◌≡◌, ℕ, suc, true, false, cond, List, [], ◌∷◌, Option, Some, None, option_map, refl}
use Rattle.std.proofs.Common.{sym, ◌∙◌}
use Rattle.i386_reloc.specs.declared.types.NormalSection.{NormalSection}
use Rattle.i386_reloc.specs.Normal.{same_bytes, section_named}
use Rattle.i386_reloc.specs.Places.{place_named, at_place}

at_place-suc : (section : NormalSection) (sections : List NormalSection) (place : Option ℕ)
    → at_place (section ∷ sections) (option_map suc place) ≡ at_place sections place
at_place-suc section sections None = refl
at_place-suc section sections (Some place) = refl

-- the section of a name is the one at the name's place
pub section_named_at : (sections : List NormalSection) (name : List ℕ)
    → section_named sections name ≡ at_place sections (place_named sections name)
section_named_at [] name = refl
section_named_at (section ∷ sections) name =
    elim (same_bytes section.name name) as (λ b. cond b (Some section) (section_named sections name) ≡ at_place
    (section ∷ sections) (cond b (Some 0) (option_map suc (place_named sections name)))) [
      | true ↦ refl
      | false ↦ section_named_at sections name ∙ sym (at_place-suc section sections (place_named sections name))
    ]
