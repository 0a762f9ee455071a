use Rattle.std.proofs.Common.{rules, ltb}
use Rattle.std.proofs.lemmas.List.Sorted.{IsPartitionPoint-from_clause, IsPartitionedBy-ltb}
use Rattle.match_instructions.proofs.Rising.{rising_order}
use Rattle.match_instructions.proofs.places.count_before.Goals as goal

pub returns-clause-point : goal.returns-clause-point
returns-clause-point c =
    IsPartitionPoint-from_clause (λ k. ltb k c.args.place) c.args.places.now c.partition_point.result
    c.partition_point.ensures.partitioned
    (IsPartitionedBy-ltb (λ x. x) c.args.places.now c.args.place (rising_order _ c.requires)) (λ a r q k. search rules)
