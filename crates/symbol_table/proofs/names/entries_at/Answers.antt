use Rattle.std.proofs.Common.{◌≤◌, ◌-◌, ltb, leb, get_or, rules, arith}
use Rattle.std.proofs.lemmas.List.Sorted.{IsPartitionPoint-from_clause, IsPartitionedBy-leb, IsPartitionedBy-ltb}
use Rattle.symbol_table.specs.declared.entries.Entry.{Entry}
use Rattle.symbol_table.specs.inside.Names.{stands_at}
use Rattle.symbol_table.proofs.NameLaws.{filter_part, points_rise, under_up_to, under_not_at, between_at, over_not_at}
use Rattle.symbol_table.proofs.names.entries_at.Goals as goal

pub slice_bounds-result-count : goal.slice_bounds-result-count
slice_bounds-result-count c =
    let entries = c.args.entries.now in
    let address = c.args.address in
    let low = IsPartitionPoint-from_clause (λ (entry : Entry). ltb entry.address address) _ _
    c.partition_point-begin.ensures.partitioned
    (IsPartitionedBy-ltb (λ (entry : Entry). entry.address) entries address c.requires) (λ a r q k. search rules) in
    let high = IsPartitionPoint-from_clause (λ (entry : Entry). leb entry.address address) _ _
    c.partition_point-end.ensures.partitioned
    (IsPartitionedBy-leb (λ (entry : Entry). entry.address) entries address c.requires) (λ a r q k. search rules) in
    points_rise (λ (entry : Entry). ltb entry.address address)
    (λ (entry : Entry). leb entry.address address) entries _ _ low high c.partition_point-begin.ensures.bound
    (λ entry. under_up_to address entry.address)

pub slice_bounds-result-start : goal.slice_bounds-result-start
slice_bounds-result-start c = slice_bounds-result-count c

pub returns : goal.returns
returns c =
    let entries = c.args.entries.now in
    let address = c.args.address in
    let begin = c.partition_point-begin.result in
    let end = c.partition_point-end.result in
    let within = c.partition_point-end.ensures.bound in
    let low = IsPartitionPoint-from_clause (λ (entry : Entry). ltb entry.address address) _ _
    c.partition_point-begin.ensures.partitioned
    (IsPartitionedBy-ltb (λ (entry : Entry). entry.address) entries address c.requires) (λ a r q k. search rules) in
    let high = IsPartitionPoint-from_clause (λ (entry : Entry). leb entry.address address) _ _
    c.partition_point-end.ensures.partitioned
    (IsPartitionedBy-leb (λ (entry : Entry). entry.address) entries address c.requires) (λ a r q k. search rules) in
    let order : begin ≤ end = points_rise (λ (entry : Entry). ltb entry.address address)
    (λ (entry : Entry). leb entry.address address) entries begin end low high c.partition_point-begin.ensures.bound
    (λ entry. under_up_to address entry.address) in
    filter_part (stands_at address) entries begin (end - begin) (omega arith)
    (λ j d l. under_not_at address (get_or entries j d).address (low.0 j d (omega arith) l))
    (λ j d g l. between_at address (get_or entries j d).address (low.1 j d g (omega arith))
    (high.0 j d (omega arith) (omega arith)))
    (λ j d g l. over_not_at address (get_or entries j d).address (high.1 j d (omega arith) l))
