use Rattle.std.proofs.Common.{◌≡◌, true, false, rules}
use Rattle.std.specs.List.Sorted.{IsPartitionPoint}
use Rattle.std.proofs.lemmas.List.Sorted.{IsPartitionPoint-from_clause, IsPartitionedBy-ltb}
use Rattle.i386_reloc.specs.declared.types.Ref.{Ref}
use Rattle.match_instructions.specs.PreCode.{begins_before}
use Rattle.match_instructions.proofs.Splits.{before_point, from_point}
use Rattle.match_instructions.proofs.instructions.count_before.Goals as goal

pub returns : goal.returns
returns c =
    let refs = c.args.references.now in
    let offset = c.args.offset in
    let count = c.partition_point.result in
    let bound = c.partition_point.ensures.bound in
    let point : IsPartitionPoint (λ (r : Ref). begins_before offset r ≡ true)
    (λ (r : Ref). begins_before offset r ≡ false) refs count =
    IsPartitionPoint-from_clause (begins_before offset) refs count c.partition_point.ensures.partitioned
    (IsPartitionedBy-ltb (λ r. r.offset) refs offset c.requires) (λ a r q k. search rules) in
    record {
      within = bound;
      before = before_point refs offset count bound point;
      from = from_point refs offset count bound point;
    }
