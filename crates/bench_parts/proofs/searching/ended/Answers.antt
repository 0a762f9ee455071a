-- What halving finds, where the ends rise.
use Rattle.std.proofs.Common.{rules, arith, leb, leb-true, leb-false}
use Rattle.std.proofs.lemmas.List.Sorted.{IsPartitionPoint-from_clause, IsPartitionedBy-leb}
use Rattle.ks_base.specs.declared.places.Range.{Range}
use Rattle.bench_parts.proofs.Halving.{highs_rise}
use Rattle.bench_parts.proofs.searching.ended.Goals as goal

pub returns : goal.returns
returns c =
    let ranges = c.args.ranges.now in
    let rise = IsPartitionedBy-leb (λ (range : Range). range.high) ranges c.args.word (highs_rise ranges c.requires) in
    let at = IsPartitionPoint-from_clause (λ range. leb range.high c.args.word) ranges
    c.partition_point.result c.partition_point.ensures.partitioned rise (λ a r f' k. search rules) in
    record {
      bound = search rules;
      below = λ k d l m. leb-true _ _ (at.0 k d l m);
      above = λ k d l m. leb-false _ _ (at.1 k d l (omega arith));
    }
