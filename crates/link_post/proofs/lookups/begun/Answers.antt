use Rattle.std.proofs.Common.{rules}
use Rattle.std.proofs.lemmas.List.Sorted.{IsPartitionPoint-from_clause}
use Rattle.link_post.specs.inside.Lookups.{is_before}
use Rattle.link_post.proofs.Halving.{parted}
use Rattle.link_post.proofs.lookups.begun.Goals as goal

pub returns-clause-point : goal.returns-clause-point
returns-clause-point c =
    IsPartitionPoint-from_clause (is_before c.args.post.now c.args.place) _ _ c.partition_point.ensures.partitioned
    (parted c.args.post.now c.args.placement.now c.args.place c.requires) (λ a r q k. search rules)
