-- Each piece is put behind those before it.
use Rattle.std.proofs.Common.{◌∙◌, ◌++◌, List, ap, arith, length}
use Rattle.std.specs.Vec.Iter.{into_iter_items}
use Rattle.image_memory.specs.Contents.{piece_range}
use Rattle.image_memory.specs.declared.types.Piece.{Piece}
use Rattle.paged_memory.specs.Pages.{pieces_of}
use Rattle.paged_memory.proofs.NewLaws.{meets_extents, next_put}
use Rattle.paged_memory.proofs.table.PageTable.of.Goals as goal

pub append-requires-clause-full : goal.append-requires-clause-full
append-requires-clause-full c =
    (next_put c.args.pieces (pieces_of c.loop-piece.table.extents.items c.loop-piece.table.pages.items)
    (into_iter_items c.loop-piece.piece-iterator) (into_iter_items c.next.new.self) c.in-Some.piece c.requires.ascend
    c.loop-piece.invariant.split c.in-Some.ensures.steps.0).0

pub append-requires-clause-apart : goal.append-requires-clause-apart
append-requires-clause-apart c =
    let table = c.loop-piece.table in
    meets_extents (piece_range c.in-Some.piece) table.extents.items table.pages.items
    (next_put c.args.pieces (pieces_of table.extents.items table.pages.items)
    (into_iter_items c.loop-piece.piece-iterator) (into_iter_items c.next.new.self) c.in-Some.piece c.requires.ascend
    c.loop-piece.invariant.split c.in-Some.ensures.steps.0).1

pub loop-piece-preserved : goal.loop-piece-preserved
loop-piece-preserved c =
    let table = c.loop-piece.table in
    let rest = into_iter_items c.next.new.self in
    let next = c.in-Some.ensures.steps.0 in
    record {
      bound = omega (arith, ap length next, c.in-Some.ensures.steps.1, c.loop-piece.invariant.bound);
      split =
          ap (λ (ps : List Piece). ps ++ rest) c.in_ok-append.ensures
          ∙ (next_put c.args.pieces (pieces_of table.extents.items table.pages.items)
          (into_iter_items c.loop-piece.piece-iterator) rest c.in-Some.piece c.requires.ascend
          c.loop-piece.invariant.split next).2;
    }
