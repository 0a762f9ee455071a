-- What the code answers on its way to the extract.
use Rattle.std.specs.Prelude.{◌≡◌, ℕ, List, Option, Some, None}
use Rattle.std.specs.List.{slice_get}
use Rattle.i386_reloc.specs.declared.types.Ref.{Ref}
use Rattle.i386_reloc.specs.declared.types.NormalSection.{NormalSection}
use Rattle.extract_post.specs.Extract.{IsFirst, NoneIs, DataDiffers, IsBroken, places}

-- the places of the first broken reference: of its section, and of itself in it
pub record FirstBroken (pre post : List NormalSection) (place k : ℕ) : Type 0 where
  pub section : NormalSection
  pub reference : Ref
  pub at : slice_get post place ≡ Some section
  pub at_reference : slice_get section.refs k ≡ Some reference
  pub first : IsFirst (IsBroken pre post) (places post) (section.name, reference)

abbrev pub Broken : List NormalSection → List NormalSection → Option (ℕ × ℕ) → Type 0
Broken pre post None = NoneIs (IsBroken pre post) (places post)
Broken pre post (Some found) = FirstBroken pre post found.0 found.1

-- no section of post has different data
abbrev pub HasNoOther : List NormalSection → List NormalSection → Type 0
HasNoOther pre post = NoneIs (λ section. DataDiffers pre post section.name) post
