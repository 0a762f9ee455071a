-- Whether both objects have a section of a name, and it is the same, from the places of the name.
use Rattle.std.proofs.Common.{◌≡◌, ℕ, Bool, false, List, [], ◌∷◌, map, Option, Some}
use Rattle.std.proofs.Common.{None, option_map, unwrap_or, sym, ◌∙◌, ap, refl}
use Rattle.std.proofs.lemmas.Option.{slice_get-map, unwrap_or-slice_get}
use Rattle.i386_reloc.specs.declared.types.NormalSection.{NormalSection}
use Rattle.i386_reloc.specs.Normal.{section_named}
use Rattle.i386_reloc.specs.Places.{place_named, at_place}
use Rattle.i386_reloc.specs.laws.PlaceLaws.{section_named_at}
use Rattle.i386_reloc.specs.laws.NamedPlaces.{section_at_place}
use Rattle.section_equal.specs.Same.{are_same, same_in, same_names}
use Rattle.section_equal.specs.inside.Texts.{mark_at}

pub same_in_at : (pre post : List NormalSection) (name : List ℕ)
    → same_in pre post name ≡ are_same (at_place pre (place_named pre name)) (at_place post (place_named post name))
unfolding same_in
same_in_at pre post name =
    ap (λ o. are_same o (section_named post name)) (section_named_at pre name)
    ∙ ap (λ o. are_same (at_place pre (place_named pre name)) o) (section_named_at post name)

-- no section of the second object has the name
same_in_none : (pre post : List NormalSection) (name : List ℕ) → section_named post name ≡ None
    → same_in pre post name ≡ false
unfolding same_in
same_in_none pre post name none =
    ap (λ o. are_same (section_named pre name) o) none ∙ without (section_named pre name) where
      without : (o : Option NormalSection) → are_same o None ≡ false
      without None = refl
      without (Some section) = refl

mark_by : (pre post : List NormalSection) (name : List ℕ) (place : Option ℕ) → place_named post name ≡ place
    → mark_at (same_names pre post post) place ≡ same_in pre post name
mark_by pre post name None at =
    sym (same_in_none pre post name (section_named_at post name ∙ ap (at_place post) at))
mark_by pre post name (Some place) at =
    let (section, is, named) = section_at_place post name place at in
    sym (unwrap_or-slice_get (same_names pre post post) place false)
    ∙ ap (λ o. unwrap_or o false) (slice_get-map (λ (s : NormalSection). same_in pre post s.name) post place
    ∙ ap (option_map (λ (s : NormalSection). same_in pre post s.name)) is)
    ∙ ap (same_in pre post) named

pub marks_from_post : (pre post : List NormalSection) (marks : List Bool) (sections : List NormalSection)
    → marks ≡ same_names pre post post → map (λ section. mark_at marks (place_named post section.name)) sections
    ≡ same_names pre post sections
marks_from_post pre post marks [] is = refl
marks_from_post pre post marks (section ∷ sections) is =
    ap (λ m. m ∷ map (λ section. mark_at marks (place_named post section.name)) sections)
    (ap (λ m. mark_at m (place_named post section.name)) is
    ∙ mark_by pre post section.name (place_named post section.name) refl)
    ∙ ap (λ rest. same_in pre post section.name ∷ rest) (marks_from_post pre post marks sections is)
