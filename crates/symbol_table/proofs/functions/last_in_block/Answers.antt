use Rattle.std.proofs.Common.{◌<◌, ◌-◌, leb, arith, rules, sym, ◌∙◌, length}
use Rattle.std.proofs.lemmas.List.Sorted.{IsPartitionPoint-from_clause, IsPartitionedBy-leb}
use Rattle.std.proofs.lemmas.Option.{slice_get-get_or}
use Rattle.symbol_table.specs.declared.entries.Entry.{Entry}
use Rattle.symbol_table.proofs.FunctionLaws.{entries_rise, below_none, below_some}
use Rattle.symbol_table.proofs.functions.last_in_block.Goals as goal

pub returns-then-after-eq0 : goal.returns-then-after-eq0
returns-then-after-eq0 c =
    let entries = c.args.entries.now in
    let parted = IsPartitionedBy-leb (λ (entry : Entry). entry.address) entries c.args.address
    (entries_rise entries c.requires) in
    let point = IsPartitionPoint-from_clause (λ (entry : Entry). leb entry.address c.args.address) _ _
    c.partition_point-after.ensures.partitioned parted (λ a r q k. search rules) in
    sym (below_none c.args.address entries (λ k d less. point.1 k d (omega arith) less))

pub returns-else-after-eq0 : goal.returns-else-after-eq0
returns-else-after-eq0 c =
    let entries = c.args.entries.now in
    let after = c.partition_point-after.result in
    let within = c.partition_point-after.ensures.bound in
    let less : after - 1 < length entries = omega arith in
    let parted = IsPartitionedBy-leb (λ (entry : Entry). entry.address) entries c.args.address
    (entries_rise entries c.requires) in
    let point = IsPartitionPoint-from_clause (λ (entry : Entry). leb entry.address c.args.address) _ _
    c.partition_point-after.ensures.partitioned parted (λ a r q k. search rules) in
    sym (below_some c.args.address entries (after - 1) c.requires less
    (λ j d l. point.0 j d (omega arith) (omega arith)) (λ j d g l. point.1 j d (omega arith) l)
    ∙ slice_get-get_or entries (after - 1) _ less)
