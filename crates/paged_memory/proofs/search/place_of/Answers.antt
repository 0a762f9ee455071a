-- What halving finds, where the numbers rise.
use Rattle.std.proofs.Common.{rules, arith, ltb, ltb-true, ltb-false}
use Rattle.std.proofs.lemmas.List.Sorted.{IsPartitionPoint-from_clause, IsPartitionedBy-ltb}
use Rattle.image_memory.specs.laws.RangeLaws.{lows_rise}
use Rattle.paged_memory.specs.Pages.{page_range}
use Rattle.paged_memory.specs.declared.types.Page.{Page}
use Rattle.paged_memory.proofs.search.place_of.Goals as goal

pub returns : goal.returns
returns c =
    let pages = c.args.pages.now in
    let rise = IsPartitionedBy-ltb (λ (p : Page). p.number) pages c.args.number
    (λ i j d le lt. let lows = lows_rise page_range 0 pages c.requires i j d le lt in omega arith) in
    let at = IsPartitionPoint-from_clause (λ (p : Page). ltb p.number c.args.number) pages
    c.partition_point.result c.partition_point.ensures.partitioned rise (λ a r f' k. search rules) in
    record {
      bound = c.partition_point.ensures.bound;
      before = λ k d l. ltb-true _ _ (at.0 k d (omega arith) l);
      from = λ k d l m. ltb-false _ _ (at.1 k d l m);
    }
