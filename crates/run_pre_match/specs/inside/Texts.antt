-- Texts of an object, as references go to them.
use Rattle.std.specs.Prelude.{◌≡◌, ℕ, ◌+◌, ◌≤◌, List, length, take, drop}
use Rattle.i386_reloc.specs.declared.types.NormalSection.{NormalSection}
use Rattle.i386_reloc.specs.Places.{bytes_at}
use Rattle.run_pre_match.specs.declared.goals.Goal.{Goal}
use Rattle.run_pre_match.specs.declared.goals.Goal.TheVariants.{Entry, Inside, Variable, Constant, Outside, Text}

-- bytes that stand at an offset of others
pub record IsPart (bytes : List ℕ) (offset : ℕ) (part : List ℕ) : Type 0 where
  pub within : offset + length part ≤ length bytes
  pub is : part ≡ take (length part) (drop offset bytes)

-- where a goal is a text, the section at its place holds it
abbrev pub HasText : List NormalSection → Goal → Type 0
HasText object (Text place offset text) = IsPart (bytes_at object place) offset text
HasText object (Entry place) = Unit {0}
HasText object (Inside place offset) = Unit {0}
HasText object (Variable place) = Unit {0}
HasText object (Constant place) = Unit {0}
HasText object (Outside name) = Unit {0}
