-- What is kept of the fields that earlier relocations change, and of a relocation section.
use Rattle.std.specs.Prelude.{◌≡◌, ℕ, ◌+◌, ◌<◌, ◌≤◌, true, false, List}
use Rattle.elf32_object.specs.declared.relocations.Taken.{Taken}
use Rattle.elf32_object.specs.declared.relocations.Patch.{Patch}
use Rattle.elf32_object.specs.Fields.{section_count, section_header}
use Rattle.elf32_object.specs.inside.Taken.{field_key, is_taken, AreTaken}

-- each field that an entry before entry k of section i changes ends at this number or below
abbrev pub EndBy : List ℕ → ℕ → ℕ → ℕ → Type 0
EndBy bytes i k end = (section offset : ℕ) → offset < 4294967296
    → is_taken bytes section offset i k ≡ true → field_key section offset + 4 ≤ end

-- what is known of the fields that the entries before entry k of section i change
pub record AreHeld (bytes : List ℕ) (i k : ℕ) (taken : Taken) : Type 0 where
  pub ahead : taken.rising ≡ true → EndBy bytes i k taken.end
  pub listed : taken.rising ≡ false → AreTaken bytes i k taken.fields

-- the headers are those of a section of the file and of the section that it changes
pub record IsPatch (bytes : List ℕ) (patch : Patch) : Type 0 where
  pub within : patch.index < section_count bytes
  pub header_is : patch.header ≡ section_header bytes patch.index
  pub target_within : patch.header.info < section_count bytes
  pub target_is : patch.target ≡ section_header bytes patch.header.info
