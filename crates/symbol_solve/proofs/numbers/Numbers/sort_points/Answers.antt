use Rattle.std.proofs.Common.{rules}
use Rattle.std.proofs.lemmas.List.Sorted.{IsNonDecreasingBy-from_sort_by_key}
use Rattle.symbol_solve.specs.declared.numbers.Point.{Point}
use Rattle.symbol_solve.proofs.RangeLaws.{on_ok}
use Rattle.symbol_solve.proofs.numbers.Numbers.sort_points.Goals as goal

pub returns-clause-order : goal.returns-clause-order
returns-clause-order c =
    on_ok c.sort_by_key.result
    (λ sorted. IsNonDecreasingBy-from_sort_by_key
    (λ (p : Point). p.address) c.sort_by_key.new.self.keys sorted (λ a r q k. search rules))
    c.sort_by_key.ensures.sorted
