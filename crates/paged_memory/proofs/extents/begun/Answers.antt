-- What halving finds, where the bases rise.
use Rattle.std.proofs.Common.{rules, arith, ltb, ltb-true, ltb-false, sym}
use Rattle.std.proofs.lemmas.List.Sorted.{IsPartitionPoint-from_clause, IsPartitionedBy-ltb}
use Rattle.image_memory.specs.laws.RangeLaws.{lows_rise}
use Rattle.paged_memory.specs.Pages.{extent_range, begins_below}
use Rattle.paged_memory.specs.declared.types.Extent.{Extent}
use Rattle.paged_memory.proofs.ListLaws.{parted}
use Rattle.paged_memory.proofs.extents.begun.Goals as goal

pub returns : goal.returns
returns c =
    let extents = c.args.extents.now in
    let rise = IsPartitionedBy-ltb (λ (e : Extent). e.base) extents c.args.address
    (lows_rise extent_range 0 extents c.requires) in
    let at = IsPartitionPoint-from_clause (λ e. ltb e.base c.args.address) extents
    c.partition_point.result c.partition_point.ensures.partitioned rise (λ a r f' k. search rules) in
    record {
      count = sym (parted (begins_below c.args.address) extents c.partition_point.result c.partition_point.ensures.bound
          (λ k d l m. at.0 k d (omega arith) l)
          (λ k d l m. at.1 k d l m));
      bound = c.partition_point.ensures.bound;
      below = λ k d l m. ltb-true _ _ (at.0 k d l m);
      above = λ k d l m. ltb-false _ _ (at.1 k d l m);
    }
