use Rattle.std.proofs.Common.{rules, ltb}
use Rattle.std.proofs.lemmas.List.Sorted.{IsPartitionPoint-from_clause, IsPartitionedBy-ltb}
use Rattle.i386_reloc.proofs.texts.first_from.Goals as goal

pub returns : goal.returns
returns c =
    IsPartitionPoint-from_clause (λ y. ltb y c.args.offset) c.args.places.now c.partition_point.result
    c.partition_point.ensures.partitioned
    (IsPartitionedBy-ltb (λ x. x) c.args.places.now c.args.offset c.requires) (λ a r q k. search rules)
