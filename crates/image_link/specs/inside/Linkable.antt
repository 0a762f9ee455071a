-- What is known of objects that were read, so that what they are linked to keeps the rules of images.
use Rattle.std.specs.Prelude.{◌≡◌, Some, List, All}
use Rattle.i386_reloc.specs.declared.types.NormalSection.{NormalSection}
use Rattle.i386_reloc.specs.Normal.{section_named}
use Rattle.i386_reloc.specs.Whole.{IsWhole, HasSymbolNames}

pub record IsLinkable (object : List NormalSection) : Type 0 where
  pub named : All (λ section. section_named object section.name ≡ Some section) object
  pub whole : All IsWhole object
  pub names : All HasSymbolNames object

abbrev pub AreLinkable : List (List NormalSection) → Type 0
AreLinkable objects = All IsLinkable objects
