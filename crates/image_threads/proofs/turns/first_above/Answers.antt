-- What halving finds, where the numbers rise.
use Rattle.std.proofs.Common.{◌∙◌, rules, leb, ltb, leb-true, leb-false}
use Rattle.std.proofs.lemmas.Bool.{lt-ltb, le-ltb}
use Rattle.std.proofs.lemmas.List.Sorted.{IsPartitionPoint-from_clause, IsPartitionedBy-leb}
use Rattle.image_threads.proofs.RisingLaws.{found_at, number_copied}
use Rattle.image_threads.proofs.turns.first_above.Goals as goal

pub returns : goal.returns
returns c =
    let running = c.args.running.now in
    let number = c.args.number in
    let count = c.partition_point-at.result in
    let rise = IsPartitionedBy-leb (λ n. n) running number c.requires in
    let at = IsPartitionPoint-from_clause (λ n. leb n number) running count
    c.partition_point-at.ensures.partitioned rise (λ a r f' k. search rules) in
    c.copied.ensures
    ∙ number_copied running count c.get.result c.get.ensures.lookup
    ∙ found_at (λ n. ltb number n) running count
    (λ k d l m. le-ltb number _ (leb-true _ _ (at.0 k d l m)))
    (λ k d l m. lt-ltb number _ (leb-false _ _ (at.1 k d l m)))
