-- Where the texts stand that the references of loaded sections go to.
use Rattle.std.specs.Prelude.{◌≡◌, ℕ, ◌+◌, ◌≤◌, List, length, take, drop, All, IsSomeAnd}
use Rattle.i386_reloc.specs.declared.types.Target.{Target}
use Rattle.i386_reloc.specs.declared.types.Target.TheVariants.{Section, Outside, Text}
use Rattle.i386_reloc.specs.declared.types.NormalSection.{NormalSection}
use Rattle.i386_reloc.specs.Normal.{section_named}

-- a section's bytes hold a text at an offset
pub record StandsAt (section : NormalSection) (offset : ℕ) (text : List ℕ) : Type 0 where
  pub within : offset + length text ≤ length section.bytes
  pub is : text ≡ take (length text) (drop offset section.bytes)

-- where a target is a text, the section that it names holds it
abbrev pub StandsIn : List NormalSection → Target → Type 0
StandsIn sections (Section name) = Unit {0}
StandsIn sections (Outside name) = Unit {0}
StandsIn sections (Text name offset text) = IsSomeAnd (section_named sections name)
    (λ section. StandsAt section offset text)

-- of all references
abbrev pub HasTexts : List NormalSection → Type 0
HasTexts sections = All (λ section. All (λ r. StandsIn sections r.target) section.refs) sections
