-- The kinds of symbol that are looked up by name.
use Rattle.std.specs.Prelude.{ℕ, Bool, ◌&&◌, not, List}
use Rattle.symbol_table.specs.declared.symbols.Symbol.{Symbol}
use Rattle.symbol_table.specs.declared.kinds.Kind.{Kind}
use Rattle.symbol_table.specs.declared.kinds.Kind.TheVariants.{Function, Global, Data}
use Rattle.symbol_table.specs.Symbols.{is_named}

-- whether a symbol is of a kind
abbrev pub is_of_kind : Kind → Symbol → Bool
is_of_kind Function symbol = symbol.function
is_of_kind Global symbol = symbol.global
is_of_kind Data symbol = not symbol.function

-- whether a symbol is of a kind and has a name
abbrev pub is_listed : Kind → List ℕ → Symbol → Bool
is_listed kind name symbol = is_of_kind kind symbol && is_named name symbol
