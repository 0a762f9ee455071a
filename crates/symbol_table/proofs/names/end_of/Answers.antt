use Rattle.std.proofs.Common.{rules}
use Rattle.std.proofs.lemmas.List.Sorted.{IsPartitionPoint-from_clause}
use Rattle.symbol_table.specs.inside.Names.{is_not_after}
use Rattle.symbol_table.proofs.NameLaws.{parted_up_to}
use Rattle.symbol_table.proofs.names.end_of.Goals as goal

pub returns-clause-point : goal.returns-clause-point
returns-clause-point c =
    IsPartitionPoint-from_clause (is_not_after c.args.symbols.now c.args.name.now) _ _
    c.partition_point.ensures.partitioned
    (parted_up_to c.args.symbols.now c.args.entries.now c.args.name.now c.requires) (λ a r q k. search rules)
