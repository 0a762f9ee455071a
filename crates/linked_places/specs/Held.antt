-- What stands in a linked image at the place of a section: its bytes, with the fields of its references filled.
use Rattle.std.specs.Prelude.{◌≡◌, ◌≢◌, ℕ, ◌+◌, ◌<◌, ◌≤◌, false, List, length, slice_index, Some, Ok}
use Rattle.std.specs.List.{AllZip, Contains, list_any, slice_get}
use Rattle.i386_reloc.specs.declared.types.Class.TheVariants.{Code, Zero}
use Rattle.i386_reloc.specs.declared.types.Ref.{Ref}
use Rattle.i386_reloc.specs.declared.types.NormalSection.{NormalSection}
use Rattle.i386_reloc.specs.Sections.{sections_of}
use Rattle.i386_reloc.specs.Value.{value_of}
use Rattle.image_memory.specs.Contents.{look_at}
use Rattle.image_file.specs.Reading.{Contents}
use Rattle.ia32_decode.specs.Encoding.{dword_in}
use Rattle.link_post.specs.Places.{base_in}
use Rattle.link_post.specs.Sections.{kind_of_class}
use Rattle.link_post.specs.Linked.{address_of, beyond}
use Rattle.match_constants.specs.Constants.{covers}
use Rattle.image_link.specs.Places.{Laid, laid_out}
use Rattle.image_link.specs.Linked.{global_values, linked_image}
use Rattle.linked_code.specs.Standing.{StandAsCode}
use Rattle.linked_places.specs.Solves.{memory_of}

-- the address that the field of a reference was filled for
abbrev pub filled_for : Contents → Laid → Ref → ℕ
filled_for image laid r = address_of laid.object laid.places (global_values image.symbols) r

-- the bytes of a section at its base, in memory of its kind; as code they are fetched
pub record IsHeld (image : Contents) (laid : Laid) (section : NormalSection) (base : ℕ) : Type 0 where
  pub bytes : List ℕ
  pub size : length bytes ≡ section.size
  pub low : base + section.size ≤ 0xFFFF_0000
  pub stands : (k : ℕ) → k < section.size
      → look_at image.pieces (base + k) ≡ Some (kind_of_class section.class, slice_index bytes k)
  pub fetched : section.class ≡ Code → StandAsCode (memory_of image) base bytes
  pub outside : section.class ≢ Zero → (k : ℕ) → k < section.size → list_any (covers k) section.refs ≡ false
      → slice_index bytes k ≡ slice_index section.bytes k
  pub fields : (r : Ref) → Contains section.refs r
      → dword_in bytes r.offset ≡ value_of r.form (filled_for image laid r) r.addend (beyond base r.offset)

-- a section has a base, and is held there
pub record IsHeldSomewhere (image : Contents) (laid : Laid) (section : NormalSection) : Type 0 where
  pub base : ℕ
  pub placed : base_in laid.places section.name ≡ Some base
  pub held : IsHeld image laid section base

-- Each section of each object that was linked stands at its place.
abbrev pub PlacesHoldSections : Type 0
PlacesHoldSections = (files : List (List ℕ)) (objects : List (List NormalSection)) (image : Contents) (laid : Laid)
    → AllZip (λ file object. sections_of file ≡ Ok object) files objects → linked_image objects ≡ Ok image
    → Contains (laid_out objects) laid → (place : ℕ) (section : NormalSection)
    → slice_get laid.object place ≡ Some section → IsHeldSomewhere image laid section
