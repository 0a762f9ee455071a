use Rattle.std.proofs.Common.{rules}
use Rattle.std.proofs.lemmas.List.Sorted.{IsNonDecreasingBy-from_sort_by_key}
use Rattle.symbol_table.specs.Bodies.{home_of}
use Rattle.symbol_table.proofs.bodies.by_home.Goals as goal

pub returns-clause-rise : goal.returns-clause-rise
returns-clause-rise c = IsNonDecreasingBy-from_sort_by_key home_of _ c.sort_unstable_by_key.ensures.sorted
    (λ a r q k. search rules)
