-- The function symbols of each section, gathered symbol by symbol.
use Rattle.std.specs.Prelude.{◌≡◌, ◌<◌, ℕ, true, ◌&&◌, ◌==◌, nat_lt, if◌then◌else◌, List, length, slice_index_or, Some}
use Rattle.elf32_object.specs.Below.{first_of, any_below, least_below}
use Rattle.elf32_object.specs.Fields.{section_count, symbol_entry}
use Rattle.i386_reloc.specs.declared.functions.Functions.{Functions}
use Rattle.i386_reloc.specs.Normal.{is_function_of, starts}

-- the function symbols of section i among the symbols below k
unfoldable pub functions_below : List ℕ → ℕ → ℕ → Functions
functions_below bytes i k =
    record {
      first = least_below (starts bytes i) k;
      inner = any_below (λ n. is_function_of bytes i n && nat_lt 0 (symbol_entry bytes n).value) k;
    }

-- with function symbol k of this value
abbrev pub functions_with : Functions → ℕ → ℕ → Functions
functions_with functions k value =
    if value == 0 then record { first = first_of functions.first (Some k); inner = functions.inner }
    else record { first = functions.first; inner = true }

-- a table of each section's function symbols among the symbols below k
pub record AreFunctions (bytes : List ℕ) (k : ℕ) (table : List Functions) : Type 0 where
  pub len : length table ≡ section_count bytes
  pub each : (i : ℕ) (d : Functions) → i < section_count bytes → slice_index_or table i d ≡ functions_below bytes i k
