use Rattle.std.proofs.Common.{leb, arith, rules}
use Rattle.std.proofs.lemmas.List.Sorted.{IsPartitionPoint-from_clause, IsPartitionedBy-leb}
use Rattle.symbol_table.specs.declared.entries.Entry.{Entry}
use Rattle.symbol_table.proofs.FunctionLaws.{entries_rise}
use Rattle.symbol_table.proofs.NextLaws.{next_none, next_some}
use Rattle.symbol_table.proofs.next.next_in_block.Goals as goal

pub returns-then-after-entries : goal.returns-then-after-entries
returns-then-after-entries c =
    let entries = c.args.entries.now in
    let after = c.partition_point-after.result in
    let d : Entry = record { address = 0; place = 0 } in
    let rise = entries_rise entries c.requires in
    let point = IsPartitionPoint-from_clause (λ (entry : Entry). leb entry.address c.args.address) _ _
    c.partition_point-after.ensures.partitioned
    (IsPartitionedBy-leb (λ (entry : Entry). entry.address) entries c.args.address rise)
    (λ a r q k. search rules) in
    next_some c.args.address entries after d rise c.if-after-entries.true (λ k l. point.0 k d (omega arith) l)
    (point.1 after d (omega arith) c.if-after-entries.true)

pub returns-else-after-entries : goal.returns-else-after-entries
returns-else-after-entries c =
    let entries = c.args.entries.now in
    let d : Entry = record { address = 0; place = 0 } in
    let point = IsPartitionPoint-from_clause (λ (entry : Entry). leb entry.address c.args.address) _ _
    c.partition_point-after.ensures.partitioned
    (IsPartitionedBy-leb (λ (entry : Entry). entry.address) entries c.args.address
    (entries_rise entries c.requires)) (λ a r q k. search rules) in
    next_none c.args.address entries d (λ k less. point.0 k d (omega arith) (omega arith))
