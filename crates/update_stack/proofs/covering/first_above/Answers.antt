use Rattle.std.proofs.Common.{◌∙◌, rules, leb, ltb, leb-true, leb-false}
use Rattle.std.proofs.lemmas.Bool.{lt-ltb, le-ltb}
use Rattle.std.proofs.lemmas.List.Sorted.{IsPartitionPoint-from_clause, IsPartitionedBy-leb}
use Rattle.ks_base.specs.declared.places.Range.{Range}
use Rattle.update_stack.proofs.CoverLaws.{highs_rise, found_at, item_copied}
use Rattle.update_stack.proofs.covering.first_above.Goals as goal

pub returns : goal.returns
returns c =
    let ranges = c.args.ranges.now in
    let address = c.args.address in
    let count = c.partition_point-at.result in
    let rise = IsPartitionedBy-leb (λ (range : Range). range.high) ranges address (highs_rise 0 ranges c.requires) in
    let at = IsPartitionPoint-from_clause (λ range. leb range.high address) ranges count
    c.partition_point-at.ensures.partitioned rise (λ a r f' k. search rules) in
    c.copied.ensures
    ∙ item_copied ranges count c.get.result c.get.ensures.lookup
    ∙ found_at (λ range. ltb address range.high) ranges count
    (λ k d l m. le-ltb address _ (leb-true _ _ (at.0 k d l m)))
    (λ k d l m. lt-ltb address _ (leb-false _ _ (at.1 k d l m)))
