-- The values of outside names, one symbol after another.
use Rattle.std.specs.Prelude.{is_some, if◌then◌else◌, List, [], ◌∷◌, ◌++◌, Result, Ok, Err}
use Rattle.ks_base.specs.declared.refusals.Refusal.{Refusal}
use Rattle.ks_base.specs.declared.refusals.Refusal.TheVariants.{DoubleGlobal}
use Rattle.symbol_table.specs.declared.symbols.Symbol.{Symbol}
use Rattle.symbol_table.specs.declared.values.Unknown.TheVariants.{Outside}
use Rattle.link_post.specs.Values.{ValueList, solved_as, then_resolved}
use Rattle.image_link.specs.Linked.{global_value}

-- the values with that of a global symbol, whose name has none yet
abbrev pub with_global : ValueList → Symbol → Result ValueList Refusal
with_global values symbol =
    if is_some (solved_as values (Outside symbol.name)) then Err (DoubleGlobal symbol.name)
    else Ok (values ++ global_value symbol ∷ [])

abbrev pub with_symbol : ValueList → Symbol → Result ValueList Refusal
with_symbol values symbol = if symbol.global then with_global values symbol else Ok values

-- the values with those of all symbols, or the first double name
unfoldable pub with_all : ValueList → List Symbol → Result ValueList Refusal
with_all values [] = Ok values
with_all values (symbol ∷ symbols) = then_resolved (λ more. with_all more symbols) (with_symbol values symbol)
