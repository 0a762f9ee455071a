use Rattle.std.proofs.Common.{ℕ, ltb, arith, rules}
use Rattle.std.proofs.lemmas.List.Sorted.{IsPartitionPoint-from_clause, IsPartitionedBy-ltb}
use Rattle.update_retired.proofs.CountLaws.{counted_at}
use Rattle.update_retired.proofs.bounds.below.Goals as goal

pub returns : goal.returns
returns c =
    let numbers = c.args.numbers.now in
    let bound = c.args.bound in
    let parted = IsPartitionedBy-ltb (λ (n : ℕ). n) numbers bound c.requires in
    let point = IsPartitionPoint-from_clause (λ (n : ℕ). ltb n bound) _ _ c.partition_point.ensures.partitioned parted
    (λ a r q k. search rules) in
    counted_at (λ (n : ℕ). ltb n bound) numbers c.partition_point.result c.partition_point.ensures.bound
    (λ k d l m. point.0 k d (omega arith) l) (λ k d l m. point.1 k d l m)
