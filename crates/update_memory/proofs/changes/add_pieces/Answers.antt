use Rattle.std.proofs.Common.{ap, ◌∙◌, arith, length, map}
use Rattle.std.specs.Vec.Iter.{into_iter_items}
use Rattle.image_memory.specs.Contents.{Room, piece_range}
use Rattle.update_memory.proofs.PieceLaws.{next_clear, next_addable, next_added, spare_next, all_added}
use Rattle.update_memory.proofs.changes.add_pieces.Goals as goal

pub add_piece-requires-clause-apart : goal.add_piece-requires-clause-apart
add_piece-requires-clause-apart g c =
    next_clear (g.S.Space.contents c.loop-piece.space) c.in-Some.piece (into_iter_items c.next.new.self)
    (into_iter_items c.loop-piece.piece-iterator) c.in-Some.ensures.steps.0 c.loop-piece.invariant.apart

pub loop-piece-preserved : goal.loop-piece-preserved
loop-piece-preserved g c =
    let before = g.S.Space.contents c.loop-piece.space in
    let now = g.S.Space.contents c.add_piece.new.self in
    let room = g.S.Space.room c.loop-piece.space in
    let left = into_iter_items c.loop-piece.piece-iterator in
    let rest = into_iter_items c.next.new.self in
    let next = c.in-Some.ensures.steps.0 in
    record {
      bound = omega (arith, ap length next, c.in-Some.ensures.steps.1, c.loop-piece.invariant.bound);
      spare =
          spare_next room (g.S.Space.room c.add_piece.new.self) (piece_range c.in-Some.piece) (map piece_range rest)
          c.add_piece.ensures.room (c.loop-piece.invariant.spare ∙ ap (map piece_range) next);
      kept = ap (λ (r : Room). r.fences) c.add_piece.ensures.room ∙ c.loop-piece.invariant.kept;
      apart =
          next_addable before now c.in-Some.piece rest left c.add_piece.ensures.contents next
          c.loop-piece.invariant.apart;
      contents =
          next_added before now c.in-Some.piece rest left c.add_piece.ensures.contents next
          ∙ c.loop-piece.invariant.contents;
    }

pub returns-clause-contents : goal.returns-clause-contents
returns-clause-contents g c =
    all_added (g.S.Space.contents c.loop-piece.space) (into_iter_items c.loop-piece.piece-iterator)
    (omega (arith, c.in-None.ensures.steps.0, c.loop-piece.invariant.bound))
    ∙ c.loop-piece.invariant.contents
