-- What is known of the relocations of a section: of each, and of one that changes a field and is not refused.
use Rattle.std.specs.Prelude.{◌≡◌, ◌<◌, ◌≤◌, ℕ, ◌+◌, ◌==◌, Bool, true, false}
use Rattle.std.specs.Prelude.{not, ◌&&◌, nat_lt, if◌then◌else◌, List, length}
use Rattle.elf32_object.specs.Numbers.{SHN_ABS}
use Rattle.elf32_object.specs.declared.types.Reloc.{Reloc}
use Rattle.elf32_object.specs.Fields.{section_header, section_bytes, symbol_name, is_loaded, symbol_count}
use Rattle.elf32_object.specs.Rules.{has_field}
use Rattle.i386_reloc.specs.Classes.{is_strings}
use Rattle.i386_reloc.specs.References.{symbol_of, is_outside}
use Rattle.i386_reloc.specs.Refused.{names_end}

-- its symbol is in the table, it begins in the section, and its field lies in the section's bytes
pub record IsPlaced (bytes : List ℕ) (i : ℕ) (r : Reloc) : Type 0 where
  pub symbol : r.symbol < symbol_count bytes
  pub begins : r.offset < (section_header bytes i).size
  pub within : has_field r ≡ true → r.offset + 4 ≤ length (section_bytes bytes i)

-- whether its symbol can be a target
abbrev pub has_target : List ℕ → Reloc → Bool
has_target bytes r =
    nat_lt 0 r.symbol
    && (if is_outside (symbol_of bytes r) then nat_lt 0 (length (symbol_name bytes r.symbol))
    else not ((symbol_of bytes r).section == SHN_ABS) && is_loaded bytes (symbol_of bytes r).section)

-- its symbol leads somewhere, and a text that it names ends
pub record IsRight (bytes : List ℕ) (i : ℕ) (r : Reloc) : Type 0 where
  pub above_null : 0 < r.symbol
  pub leads : is_outside (symbol_of bytes r) ≡ false → is_loaded bytes (symbol_of bytes r).section ≡ true
  pub ends : is_strings bytes (symbol_of bytes r).section ≡ true → names_end bytes i r ≡ true

-- it changes a field in the section's bytes, and is right
pub record IsField (bytes : List ℕ) (i : ℕ) (r : Reloc) : Type 0 where
  pub symbol : r.symbol < symbol_count bytes
  pub within : r.offset + 4 ≤ length (section_bytes bytes i)
  pub right : IsRight bytes i r
