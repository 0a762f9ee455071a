-- The function that an address lies in, by the index of functions.
use Rattle.std.specs.Prelude.{◌≡◌, ℕ, List, [], ◌∷◌, Option, Some, None, nat_le, if◌then◌else◌}
use Rattle.std.specs.List.{slice_get}
use Rattle.symbol_table.specs.declared.symbols.Symbol.{Symbol}
use Rattle.symbol_table.specs.declared.entries.Entry.{Entry}
use Rattle.symbol_table.specs.inside.Entries.{address_less}

-- of two entries the one that is not less
abbrev pub greater_entry : Option Entry → Option Entry → Option Entry
greater_entry None other = other
greater_entry (Some entry) None = Some entry
greater_entry (Some entry) (Some other) = if address_less other entry then Some entry else Some other

-- the greatest entry at or below an address
abbrev pub entry_below : ℕ → List Entry → Option Entry
entry_below address [] = None
entry_below address (entry ∷ rest) =
    if nat_le entry.address address then greater_entry (Some entry)
    (entry_below address rest) else entry_below address rest

-- an entry is that of a symbol
abbrev pub Marks : List Symbol → Option Entry → Option Symbol → Type 0
Marks symbols None None = Unit {0}
Marks symbols None (Some symbol) = ⊥
Marks symbols (Some entry) None = ⊥
Marks symbols (Some entry) (Some symbol) = (slice_get symbols entry.place ≡ Some symbol)
    × (entry.address ≡ symbol.address)
