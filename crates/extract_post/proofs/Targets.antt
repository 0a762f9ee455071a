-- References by the places of their sections.
use Rattle.std.proofs.Common.{◌≡◌, ℕ, List, Some, ap, ◌∙◌}
use Rattle.std.specs.List.{slice_get}
use Rattle.i386_reloc.specs.declared.types.Ref.{Ref}
use Rattle.i386_reloc.specs.declared.types.NormalSection.{NormalSection}
use Rattle.i386_reloc.specs.Places.{reference_in, reference_at, place_of_reference, place_of_target}

pub place_here : (sections : List NormalSection) (place k : ℕ) (r : Ref) → reference_at sections place k ≡ Some r →
    place_of_reference sections (reference_at sections place k) ≡ place_of_target sections r.target
place_here sections place k r at = ap (place_of_reference sections) at

pub reference_here : (sections : List NormalSection) (place k : ℕ) (section : NormalSection) (r : Ref) →
    slice_get sections place ≡ Some section → slice_get section.refs k ≡ Some r →
    reference_at sections place k ≡ Some r
reference_here sections place k section r at here = ap (λ o. reference_in o k) at ∙ here
