-- What the symbols of a running program's table say: which addresses a name has, and which function an
-- address lies in.
use Rattle.std.specs.Prelude.{ℕ, ◌-◌, Bool, ◌&&◌, not, List, [], ◌∷◌, map, min, Option}
use Rattle.std.specs.Prelude.{Some, None, nat_lt, nat_le, if◌then◌else◌, nat_eq}
use Rattle.std.specs.Prelude.{Result, Ok, Err}
use Rattle.std.specs.List.{filter, reduce}
use Rattle.std.specs.Cmp.Lexicographic.{pointwise}
use Rattle.ks_base.specs.declared.refusals.Refusal.{Refusal}
use Rattle.ks_base.specs.declared.refusals.Refusal.TheVariants.{NoSymbol, Unresolved, TwoNames}
use Rattle.symbol_table.specs.declared.symbols.Symbol.{Symbol}
use Rattle.symbol_table.specs.declared.symbols.Missing.{Missing}
use Rattle.symbol_table.specs.declared.symbols.Missing.TheVariants as missing

-- a number put among ascending numbers, where it isn't there yet
abbrev pub with_number : ℕ → List ℕ → List ℕ
with_number n [] = n ∷ []
with_number n (m ∷ ms) = if nat_lt n m then n ∷ m ∷ ms else if nat_lt m n then m ∷ with_number n ms else m ∷ ms

-- the numbers of a list, each once, ascending
abbrev pub ascending : List ℕ → List ℕ
ascending [] = []
ascending (n ∷ ns) = with_number n (ascending ns)

-- whether a symbol has a name
abbrev pub is_named : List ℕ → Symbol → Bool
is_named name symbol = pointwise nat_eq symbol.name name

-- the tests of the three lookups: the function symbols, the global symbols, the data symbols of a name
abbrev pub is_function_named : List ℕ → Symbol → Bool
is_function_named name symbol = symbol.function && is_named name symbol

abbrev pub is_global_named : List ℕ → Symbol → Bool
is_global_named name symbol = symbol.global && is_named name symbol

abbrev pub is_data_named : List ℕ → Symbol → Bool
is_data_named name symbol = not symbol.function && is_named name symbol

abbrev pub address_of : Symbol → ℕ
address_of symbol = symbol.address

-- the distinct addresses of the symbols that pass a test, ascending
abbrev pub addresses_of : (Symbol → Bool) → List Symbol → List ℕ
addresses_of wanted symbols = ascending (map address_of (filter wanted symbols))

-- the addresses of a name's function symbols, of its global symbols, and of its data symbols
abbrev pub function_addresses : List Symbol → List ℕ → List ℕ
function_addresses symbols name = addresses_of (is_function_named name) symbols

abbrev pub global_addresses : List Symbol → List ℕ → List ℕ
global_addresses symbols name = addresses_of (is_global_named name) symbols

abbrev pub data_addresses : List Symbol → List ℕ → List ℕ
data_addresses symbols name = addresses_of (is_data_named name) symbols

-- that a name has no address
abbrev pub missing_as : Missing → List ℕ → Refusal
missing_as missing.NoSymbol name = NoSymbol name
missing_as missing.Unresolved name = Unresolved name

-- the one address that a name has, refused where it has none, or by the two lowest where it has several
abbrev pub only_address : Missing → List ℕ → List ℕ → Result ℕ Refusal
only_address which name [] = Err (missing_as which name)
only_address which name (a ∷ []) = Ok a
only_address which name (a ∷ b ∷ rest) = Err (TwoNames name a b)

-- the one address of the function symbols of a name
abbrev pub function_named : List Symbol → List ℕ → Result ℕ Refusal
function_named symbols name = only_address missing.NoSymbol name (function_addresses symbols name)

-- the least address of a symbol above an address
abbrev pub next_address : List Symbol → ℕ → Option ℕ
next_address symbols address = reduce min (filter (nat_lt address) (map address_of symbols))

-- whether a function begins at or below an address
abbrev pub begins_by : ℕ → Symbol → Bool
begins_by address symbol = symbol.function && nat_le symbol.address address

-- of two symbols the one with the greater address, and the earlier one where they are equal
abbrev pub nearer : Symbol → Option Symbol → Option Symbol
nearer earlier None = Some earlier
nearer earlier (Some later) = if nat_lt earlier.address later.address then Some later else Some earlier

-- of the function symbols at or below an address the one with the greatest address, and of several there
-- the first
unfoldable pub function_below : List Symbol → ℕ → Option Symbol
function_below [] address = None
function_below (symbol ∷ rest) address =
    if begins_by address symbol then nearer symbol (function_below rest address) else function_below rest address

-- a symbol's name and how far an address lies above it, where that is below 65,536
abbrev pub name_and_offset : ℕ → Option Symbol → Option (List ℕ × ℕ)
name_and_offset address None = None
name_and_offset address (Some symbol) =
    if nat_lt (address - symbol.address) 65536 then Some (symbol.name, address - symbol.address) else None

-- the name that an address is shown with, and the offset from it
abbrev pub name_below : List Symbol → ℕ → Option (List ℕ × ℕ)
name_below symbols address = name_and_offset address (function_below symbols address)
