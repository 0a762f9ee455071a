-- What an unknown is whose name is borrowed.
use Rattle.std.specs.Prelude.{ℕ, List}
use Rattle.symbol_table.specs.declared.values.Unknown.{Unknown}
use Rattle.symbol_table.specs.declared.values.Unknown.TheVariants.{Code, Data, Outside}
use Rattle.run_pre_match.specs.declared.borrowed.UnknownKind.{UnknownKind}
use Rattle.run_pre_match.specs.declared.borrowed.UnknownKind.TheVariants.{CodeSection, DataSection, OutsideName}

-- the unknown of a kind and a name
abbrev pub unknown_named : UnknownKind → List ℕ → Unknown
unknown_named CodeSection name = Code name
unknown_named DataSection name = Data name
unknown_named OutsideName name = Outside name
