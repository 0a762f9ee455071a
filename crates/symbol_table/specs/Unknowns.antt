-- When two unknowns are one, and which address stands for what one came to.
use Rattle.std.specs.Prelude.{Bool, false, nat_eq, ℕ}
use Rattle.std.specs.Cmp.Lexicographic.{pointwise}
use Rattle.symbol_table.specs.declared.values.Solved.{Solved}
use Rattle.symbol_table.specs.declared.values.Solved.TheVariants.{Body, Address}
use Rattle.symbol_table.specs.declared.values.Unknown.{Unknown}
use Rattle.symbol_table.specs.declared.values.Unknown.TheVariants.{Code, Data, Outside}

-- whether two unknowns are of one sort and have the same name
abbrev pub same_unknown : Unknown → Unknown → Bool
same_unknown (Code a) (Code b) = pointwise nat_eq a b
same_unknown (Data a) (Data b) = pointwise nat_eq a b
same_unknown (Outside a) (Outside b) = pointwise nat_eq a b
same_unknown _ _ = false

-- the address that stands for what is solved: of a function its home
abbrev pub address_in : Solved → ℕ
address_in (Body home base length) = home
address_in (Address address) = address
