-- What the index of names has of a name.
use Rattle.std.specs.Prelude.{ℕ, Bool, ◌&&◌, ◌==◌, List, Option, Some, None, if◌then◌else◌}
use Rattle.std.specs.List.{slice_get, filter, filter_map}
use Rattle.std.specs.Ordering.{is_lt, is_le, is_eq}
use Rattle.symbol_table.specs.declared.symbols.Symbol.{Symbol}
use Rattle.symbol_table.specs.declared.entries.Entry.{Entry}
use Rattle.symbol_table.specs.declared.kinds.Kind.{Kind}
use Rattle.symbol_table.specs.inside.Kinds.{is_of_kind}
use Rattle.symbol_table.specs.inside.Entries.{order_at}

-- whether an entry's symbol comes before a name, no later than it, or has it
abbrev pub is_before : List Symbol → List ℕ → Entry → Bool
is_before symbols name entry = is_lt (order_at symbols name entry)

abbrev pub is_not_after : List Symbol → List ℕ → Entry → Bool
is_not_after symbols name entry = is_le (order_at symbols name entry)

abbrev pub is_named_at : List Symbol → List ℕ → Entry → Bool
is_named_at symbols name entry = is_eq (order_at symbols name entry)

-- whether an entry has an address
abbrev pub stands_at : ℕ → Entry → Bool
stands_at address entry = address == entry.address

-- the address of a symbol, where it is of a kind
abbrev pub kind_address : Kind → Option Symbol → Option ℕ
kind_address kind None = None
kind_address kind (Some symbol) = if is_of_kind kind symbol then Some symbol.address else None

-- the addresses of the symbols of a kind and a name that entries lead to, in the entries' order
abbrev pub found_at : List Symbol → Kind → List ℕ → List Entry → List ℕ
found_at symbols kind name entries = filter_map (λ entry. kind_address kind (slice_get symbols entry.place))
    (filter (is_named_at symbols name) entries)

-- whether an entry's symbol has a name, and the entry an address
abbrev pub is_entry_of : List Symbol → List ℕ → ℕ → Entry → Bool
is_entry_of symbols name address entry = is_named_at symbols name entry && stands_at address entry
