use Rattle.std.proofs.Common.{rules, ◌+◌, List, drop, ap, ◌∙◌, sym, subst}
use Rattle.std.specs.List.{fold}
use Rattle.std.proofs.lemmas.List.{drop_all}
use Rattle.image_memory.specs.declared.types.Piece.{Piece}
use Rattle.image_memory.specs.Contents.{Contents}
use Rattle.saved_data.specs.Saved.{CanBePutBack, with_bytes, put_back}
use Rattle.saved_data.proofs.RestoreLaws.{next_left, next_folded, next_lies, rest_lie, contents_are}
use Rattle.saved_data.proofs.restoring.put_back.Goals as goal

pub write_over-requires : goal.write_over-requires
write_over-requires g c =
    next_lies (g.S.Space.contents c.loop-piece.space).pieces (drop c.loop-piece.piece-index c.args.saved.now)
    (drop (c.loop-piece.piece-index + 1) c.args.saved.now) c.piece-item.result
    (next_left c.args.saved.now c.as_slice-piece-items.result.now c.loop-piece.piece-index c.piece-item.result
    c.as_slice-piece-items.ensures c.loop-piece-test.true c.piece-item.is)
    c.loop-piece.invariant.lie

pub loop-piece-preserved : goal.loop-piece-preserved
loop-piece-preserved g c =
    let before = g.S.Space.contents c.loop-piece.space in
    let left = drop c.loop-piece.piece-index c.args.saved.now in
    let rest = drop (c.loop-piece.piece-index + 1) c.args.saved.now in
    let p = c.piece-item.result in
    let is =
    next_left c.args.saved.now c.as_slice-piece-items.result.now c.loop-piece.piece-index c.piece-item.result
    c.as_slice-piece-items.ensures c.loop-piece-test.true c.piece-item.is in
    let written = ap (λ (contents : Contents). contents.pieces) c.write_over.ensures.contents in
    record {
      pieces = ap (λ (ps : List Piece). fold with_bytes ps rest) written
          ∙ next_folded before.pieces left rest p is ∙ c.loop-piece.invariant.pieces;
      fences = ap (λ (contents : Contents). contents.fences) c.write_over.ensures.contents
          ∙ c.loop-piece.invariant.fences;
      room = c.write_over.ensures.room ∙ c.loop-piece.invariant.room;
      lie = subst (λ (ps : List Piece). CanBePutBack ps rest) (sym written)
          (rest_lie before.pieces left rest p is c.loop-piece.invariant.lie);
    }

pub returns-clause-contents : goal.returns-clause-contents
unfolding put_back
returns-clause-contents g c =
    let before = g.S.Space.contents c.args.space.now in
    let after = g.S.Space.contents c.loop-piece.space in
    let past = drop_all c.loop-piece.piece-index c.args.saved.now (search rules) in
    contents_are after (fold with_bytes before.pieces c.args.saved.now) before.fences
    (sym (ap (fold with_bytes after.pieces) past) ∙ c.loop-piece.invariant.pieces) c.loop-piece.invariant.fences
