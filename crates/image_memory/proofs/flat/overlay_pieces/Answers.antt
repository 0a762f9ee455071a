-- The pieces before the loop end below the written bytes, and those after it begin above them.
use Rattle.std.proofs.Common.{◌≡◌, ◌≤◌, ◌∙◌, ap, arith, sym, refl, inl, get_or}
use Rattle.std.proofs.lemmas.List.{get_or_read}
use Rattle.image_memory.specs.Contents.{piece_range}
use Rattle.image_memory.specs.declared.types.Piece.{Piece}
use Rattle.image_memory.specs.laws.RangeLaws.{lows_rise}
use Rattle.image_memory.specs.laws.AccessLaws.{piece_apart}
use Rattle.image_memory.specs.laws.ByteLaws.{written_is}
use Rattle.image_memory.proofs.flat.overlay_pieces.Goals as goal

pub loop-i-init : goal.loop-i-init
loop-i-init c = record {
  bound = c.requires.first;
  same_length = refl;
  done = λ k d l. sym (piece_apart c.args.start c.args.from.now (get_or c.args.pieces.now k d)
      (inl (c.requires.below k d (omega arith) l)));
  rest = λ k d l. refl;
}

pub returns-else-from-end : goal.returns-else-from-end
returns-else-from-end c =
    let loop = c.loop-i.invariant in
    let pieces = c.args.pieces.now in
    written_is pieces c.loop-i.pieces c.args.start c.args.from.now c.loop-i.i loop.same_length loop.done loop.rest
    (λ k d l m.
    let here = get_or_read c.loop-i.pieces c.loop-i.i c.index-pieces-i.result (omega arith) c.index-pieces-i.is d
    ∙ loop.rest c.loop-i.i d (omega arith) in
    let read = ap (λ (p : Piece). p.base) c.index-pieces-i.is in
    let base : c.index-pieces-i.result.base ≡ (get_or pieces c.loop-i.i d).base = ap (λ (p : Piece). p.base) here in
    let rise : (get_or pieces c.loop-i.i d).base ≤ (get_or pieces k d).base
    = lows_rise piece_range 0 pieces c.requires.ascend c.loop-i.i k d l m in
    omega arith)

pub returns-after-loop-i : goal.returns-after-loop-i
returns-after-loop-i c =
    let loop = c.loop-i.invariant in
    written_is c.args.pieces.now c.loop-i.pieces c.args.start c.args.from.now c.loop-i.i loop.same_length loop.done
    loop.rest
    (λ k d l m. absurd (omega (arith, loop.same_length)))
