-- What halving finds, where the offsets rise.
use Rattle.std.proofs.Common.{rules, arith, leb, leb-true, leb-false}
use Rattle.std.proofs.lemmas.List.Sorted.{IsPartitionPoint-from_clause, IsPartitionedBy-leb}
use Rattle.i386_reloc.specs.declared.types.Ref.{Ref}
use Rattle.match_constants.proofs.constants.begun.Goals as goal

pub returns : goal.returns
returns c =
    let refs = c.args.refs.now in
    let rise = IsPartitionedBy-leb (λ (r : Ref). r.offset) refs c.args.place c.requires in
    let at = IsPartitionPoint-from_clause (λ r. leb r.offset c.args.place) refs
    c.partition_point.result c.partition_point.ensures.partitioned rise (λ a r f' k. search rules) in
    record {
      bound = search rules;
      below = λ k d l m. leb-true _ _ (at.0 k d l m);
      above = λ k d l m. leb-false _ _ (at.1 k d l (omega arith));
    }
