use Rattle.std.proofs.Common.{rules}
use Rattle.std.proofs.lemmas.List.Sorted.{IsPartitionPoint-from_clause, IsPartitionedBy-ltb}
use Rattle.symbol_solve.specs.inside.Points.{address_at, is_before}
use Rattle.symbol_solve.proofs.ranges.count_before.Goals as goal

pub returns-clause-point : goal.returns-clause-point
returns-clause-point c =
    IsPartitionPoint-from_clause (is_before c.args.points.now c.args.address) c.args.own.now c.partition_point.result
    c.partition_point.ensures.partitioned
    (IsPartitionedBy-ltb (address_at c.args.points.now) c.args.own.now c.args.address c.requires)
    (λ a r q k. search rules)
