-- The object symbols of each section, gathered symbol by symbol.
use Rattle.std.specs.Prelude.{◌≡◌, ◌<◌, ◌≤◌, ℕ, if◌then◌else◌, List, [], ◌∷◌, length, slice_index_or}
use Rattle.elf32_object.specs.Fields.{section_count}
use Rattle.i386_reloc.specs.declared.types.ObjectSymbol.{ObjectSymbol}
use Rattle.elf32_object.specs.Below.{all_below}
use Rattle.i386_reloc.specs.References.{is_global, object_symbol, is_object_of, objects_of}

-- a symbol of this name, value and st_info
abbrev pub object_with : List ℕ → ℕ → ℕ → ObjectSymbol
object_with name value info = record { name = name; value = value; global = is_global info }

-- those of section i among the symbols below k
unfoldable pub objects_below : List ℕ → ℕ → ℕ → List ObjectSymbol
objects_below bytes i k = all_below (λ n. if is_object_of bytes i n then object_symbol bytes n ∷ [] else []) k

-- a table of each section's object symbols among the symbols below k
pub record AreObjects (bytes : List ℕ) (k : ℕ) (table : List (List ObjectSymbol)) : Type 0 where
  pub len : length table ≡ section_count bytes
  pub each : (i : ℕ) (d : List ObjectSymbol) → i < section_count bytes
      → slice_index_or table i d ≡ objects_below bytes i k

-- such a table of all symbols, from which those of the sections below i are taken
pub record AreLeft (bytes : List ℕ) (i : ℕ) (table : List (List ObjectSymbol)) : Type 0 where
  pub len : length table ≡ section_count bytes
  pub each : (j : ℕ) (d : List ObjectSymbol) → i ≤ j → j < section_count bytes
      → slice_index_or table j d ≡ objects_of bytes j
