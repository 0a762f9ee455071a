-- What halving finds, where the lows rise.
use Rattle.std.proofs.Common.{◌<◌, rules, arith, length, leb, leb-true, leb-false}
use Rattle.std.specs.List.{AllWithin}
use Rattle.std.specs.List.Sorted.{IsPartitionedBy}
use Rattle.std.proofs.lemmas.List.Sorted.{IsPartitionPoint-from_clause, IsPartitionedBy-leb}
use Rattle.image_memory.specs.Contents.{fence_range}
use Rattle.image_memory.specs.declared.types.Fence.{Fence}
use Rattle.image_memory.specs.laws.PutLaws.{insert_is_put}
use Rattle.image_memory.proofs.retired.begun.Goals as goal

pub returns : goal.returns
returns c =
    let fences = c.args.fences.now in
    let parted : IsPartitionedBy (λ fence. leb fence.range.low c.args.address) fences
    = IsPartitionedBy-leb (λ (fence : Fence). fence.range.low) fences c.args.address
    c.requires in
    let at = IsPartitionPoint-from_clause (λ fence. leb fence.range.low c.args.address) fences
    c.partition_point.result c.partition_point.ensures.partitioned parted (λ a r f' k. search rules) in
    let above : AllWithin (λ fence. c.args.address < fence.range.low) fences c.partition_point.result (length fences)
    = λ k d l m. leb-false _ _ (at.1 k d l m) in
    record {
      bound = search rules;
      below = λ k d l m. leb-true _ _ (at.0 k d l m);
      above = above;
      put = λ fence same. insert_is_put fence_range fence fences c.partition_point.result (search rules)
          (λ k d l. let h = leb-true _ _ (at.0 k d (omega arith) l) in omega arith)
          (λ k d l m. let h = above k d l m in omega arith);
    }
