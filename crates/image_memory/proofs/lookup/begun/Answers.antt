-- What halving finds, where the bases rise.
use Rattle.std.proofs.Common.{rules, arith, leb, leb-true, leb-false}
use Rattle.std.proofs.lemmas.List.Sorted.{IsPartitionPoint-from_clause, IsPartitionedBy-leb}
use Rattle.image_memory.specs.Contents.{piece_range}
use Rattle.image_memory.specs.declared.types.Piece.{Piece}
use Rattle.image_memory.specs.laws.RangeLaws.{lows_rise}
use Rattle.image_memory.proofs.lookup.begun.Goals as goal

pub returns : goal.returns
returns c =
    let pieces = c.args.pieces.now in
    let rise = IsPartitionedBy-leb (λ (piece : Piece). piece.base) pieces c.args.address
    (lows_rise piece_range 0 pieces c.requires) in
    let at = IsPartitionPoint-from_clause (λ piece. leb piece.base c.args.address) pieces
    c.partition_point.result c.partition_point.ensures.partitioned rise (λ a r f' k. search rules) in
    record {
      bound = search rules;
      below = λ k d l m. leb-true _ _ (at.0 k d l m);
      above = λ k d l m. leb-false _ _ (at.1 k d l (omega arith));
    }
