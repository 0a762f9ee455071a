-- The indices that the table keeps beside its symbols: entries that lead to symbols, each index in blocks that are in
-- order.
use Rattle.std.specs.Prelude.{ℕ, ◌+◌, ◌≤◌, Bool, true, not, ◌&&◌, ◌||◌, ◌==◌, nat_lt, List, [], ◌∷◌}
use Rattle.std.specs.Prelude.{◌++◌, Option, Some, None, if◌then◌else◌, vec_len, vec_capacity}
use Rattle.std.specs.Global.{Vec}
use Rattle.std.specs.List.{slice_get}
use Rattle.std.specs.List.Sorted.{IsPermutation}
use Rattle.std.specs.Ordering.{nat_cmp, ordering_then, is_lt}
use Rattle.std.specs.declared.cmp.Ordering.{Ordering}
use Rattle.std.specs.Cmp.Lexicographic.{slice_cmp}
use Rattle.symbol_table.specs.declared.symbols.Symbol.{Symbol}
use Rattle.symbol_table.specs.declared.entries.Entry.{Entry}
use Rattle.symbol_table.specs.declared.entries.Index.{Index}
use Rattle.symbol_table.specs.declared.entries.Index.TheVariants.{Functions, Data, Globals, Names}
use Rattle.symbol_table.specs.inside.Blocks.{InBlocks}

-- whether an index has a symbol: that of names has all
abbrev pub is_in : Index → Symbol → Bool
is_in Functions symbol = symbol.function
is_in Data symbol = not symbol.function
is_in Globals symbol = symbol.global
is_in Names symbol = true

-- the entry of a symbol at a place, where an index has the symbol
abbrev pub entry_at : Index → Symbol → ℕ → List Entry
entry_at index symbol place = if is_in index symbol then (record { address = symbol.address; place = place })
    ∷ [] else []

-- the entries of symbols that begin at a place, in the symbols' order
abbrev pub entries_from : Index → ℕ → List Symbol → List Entry
entries_from index place [] = []
entries_from index place (symbol ∷ rest) = entry_at index symbol place ++ entries_from index (place + 1) rest

-- the name of a symbol that may be missing
abbrev pub name_of : Option Symbol → List ℕ
name_of None = []
name_of (Some symbol) = symbol.name

-- how a symbol's name stands to a name
abbrev pub order_of : List ℕ → Option Symbol → Ordering
order_of name symbol = slice_cmp nat_cmp (name_of symbol) name

-- how the name of an entry's symbol stands to a name
abbrev pub order_at : List Symbol → List ℕ → Entry → Ordering
order_at symbols name entry = order_of name (slice_get symbols entry.place)

-- the order by address, and of entries at one address from the last symbol to the first
abbrev pub address_order : Entry → Entry → Ordering
address_order entry other = ordering_then (nat_cmp entry.address other.address) (nat_cmp other.place entry.place)

abbrev pub address_less : Entry → Entry → Bool
address_less entry other = nat_lt entry.address other.address
    || (entry.address == other.address && nat_lt other.place entry.place)

-- the order by name, and of entries of one name by address
abbrev pub name_less : List Symbol → Entry → Entry → Bool
name_less symbols entry other =
    is_lt (ordering_then (order_at symbols (name_of (slice_get symbols other.place)) entry) (address_order entry other))

-- the order of an index
abbrev pub entry_less : Index → List Symbol → Entry → Entry → Bool
entry_less Functions symbols entry other = address_less entry other
entry_less Data symbols entry other = address_less entry other
entry_less Globals symbols entry other = name_less symbols entry other
entry_less Names symbols entry other = name_less symbols entry other

-- entries are those of an index of the symbols, in blocks that are in order
pub record HasAll (index : Index) (symbols : List Symbol) (entries : List Entry) : Type 0 where
  pub blocks : InBlocks (entry_less index symbols) entries
  pub all : IsPermutation (entries_from index 0 symbols) entries

-- an index has room for the spare places
pub record HasRoom (symbols : Vec Symbol) (entries : Vec Entry) (spare : ℕ) : Type 0 where
  pub fits : vec_len symbols + spare ≤ vec_capacity entries
  pub no_more : vec_len entries ≤ vec_len symbols
