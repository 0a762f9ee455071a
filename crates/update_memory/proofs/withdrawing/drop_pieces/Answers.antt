use Rattle.std.proofs.Common.{sym, ap, subst, ◌∙◌, arith, get_or}
use Rattle.std.proofs.lemmas.List.{get_or_default}
use Rattle.image_memory.specs.Changes.{HasPiece}
use Rattle.image_memory.specs.Contents.{Room}
use Rattle.update_memory.proofs.TakeLaws.{next_dropped, all_dropped, none_spare, still_there}
use Rattle.update_memory.proofs.withdrawing.drop_pieces.Goals as goal

pub drop_piece-requires : goal.drop_piece-requires
drop_piece-requires g c = c.loop-base.invariant.ahead c.loop-base.base-index 0 (omega arith) c.loop-base-test.true

pub loop-base-preserved : goal.loop-base-preserved
loop-base-preserved g c =
    let before = g.S.Space.contents c.loop-base.space in
    let now = g.S.Space.contents c.drop_piece.new.self in
    let bases = c.args.bases.now in
    let i = c.loop-base.base-index in
    record {
      bound = omega arith;
      ahead = λ k d past l.
          subst (HasPiece now) (sym (get_or_default bases k d 0 l))
          (still_there before now (get_or bases i 0) (get_or bases k 0) c.drop_piece.ensures.contents
          (c.requires.once i k 0 (omega arith) l) (c.loop-base.invariant.ahead k 0 (omega arith) l));
      contents =
          next_dropped before now bases i 0 c.loop-base-test.true c.drop_piece.ensures.contents
          ∙ c.loop-base.invariant.contents;
      spare = ap (λ (r : Room). r.ranges) c.drop_piece.ensures.room ∙ none_spare bases i _ c.loop-base-test.true;
      kept = ap (λ (r : Room). r.fences) c.drop_piece.ensures.room ∙ c.loop-base.invariant.kept;
    }

pub returns-clause-contents : goal.returns-clause-contents
returns-clause-contents g c =
    all_dropped (g.S.Space.contents c.loop-base.space) c.args.bases.now c.loop-base.base-index c.loop-base-test.false
    ∙ c.loop-base.invariant.contents
