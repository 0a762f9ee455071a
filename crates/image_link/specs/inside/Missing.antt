-- Outside names that have no value.
use Rattle.std.specs.Prelude.{ℕ, Bool, not, is_some, List}
use Rattle.symbol_table.specs.declared.values.Unknown.TheVariants.{Outside}
use Rattle.link_post.specs.Values.{ValueList, solved_as}

abbrev pub is_missing : ValueList → List ℕ → Bool
is_missing values name = not (is_some (solved_as values (Outside name)))
