-- The place after all pieces that begin at or below the new one.
use Rattle.std.proofs.Common.{◌∙◌, arith}
use Rattle.image_memory.specs.Contents.{piece_range}
use Rattle.image_memory.specs.laws.PutLaws.{insert_is_put}
use Rattle.image_memory.proofs.changes.put_spare.Goals as goal

pub returns-clause-items : goal.returns-clause-items
returns-clause-items c =
    let pieces = c.args.pieces.now in
    let e = rw (c.as_slice.ensures.value, c.from.ensures) at c.begun-at.ensures in
    c.insert_spare.ensures.items
    ∙ insert_is_put piece_range c.args.piece pieces.items c.begun-at.result (omega (arith, pieces.ok.0))
    (λ k d l. e.below k d (omega arith) l)
    (λ k d l m. e.above k d l m)
