use Rattle.std.proofs.Common.{rules, ◌+◌, ◌++◌, List, drop, ap, ◌∙◌, sym}
use Rattle.image_memory.specs.declared.types.Piece.{Piece}
use Rattle.saved_data.specs.Saved.{writable_pieces}
use Rattle.saved_data.proofs.SaveLaws.{stack_there, none_shaped, none_behind, all_passed, saved_next, passed_next, all_saved}
use Rattle.saved_data.proofs.copying.save.Goals as goal
use Rattle.saved_data.proofs.copying.save.Goals.{then-is_writable+in_ok-bytes_of+in_ok-push, else-is_writable}

pub returns-in_default : goal.returns-in_default
returns-in_default g c =
    let pieces = (g.S.Space.contents c.args.space.now).pieces in
    all_saved pieces c.loop-i.saved (writable_pieces pieces) c.loop-i.i
    (none_behind pieces c.loop-i.i (none_shaped _ (sym c.piece.ensures ∙ c.in_default.is))) c.loop-i.invariant

pub bytes_of-requires : goal.bytes_of-requires
bytes_of-requires g c =
    stack_there (g.S.Space.contents c.args.space.now).pieces c.loop-i.i c.in-Some.kind c.in-Some.range
    (sym c.piece.ensures ∙ c.in-Some.is) (sym c.is_writable.ensures ∙ c.if-is_writable.true)

pub loop-i-preserved : goal.loop-i-preserved
loop-i-preserved g c =
    let contents = g.S.Space.contents c.args.space.now in
    let shape = sym c.piece.ensures ∙ c.in-Some.is in
    elim c.if-is_writable.branch [
      | then-is_writable+in_ok-bytes_of+in_ok-push w ↦
          ap (λ (l : List Piece). l ++ writable_pieces (drop (c.loop-i.i + 1) contents.pieces))
          (w.saved-is ∙ w.in_ok-push.ensures.ok)
          ∙ saved_next contents c.loop-i.i c.in-Some.kind c.in-Some.range w.in_ok-bytes_of.field-0 c.loop-i.saved
          (writable_pieces contents.pieces) (g.met.S.Space.valid c.args.space.now) shape
          (sym c.is_writable.ensures ∙ w.if-is_writable.true) w.in_ok-bytes_of.ensures c.loop-i.invariant
      | else-is_writable w ↦
          ap (λ (l : List Piece). l ++ writable_pieces (drop (c.loop-i.i + 1) contents.pieces)) w.saved-is
          ∙ passed_next contents.pieces c.loop-i.i c.in-Some.kind c.in-Some.range c.loop-i.saved
          (writable_pieces contents.pieces) shape (sym c.is_writable.ensures ∙ w.if-is_writable.false)
          c.loop-i.invariant
    ]

pub returns : goal.returns
returns g c =
    let contents = g.S.Space.contents c.args.space.now in
    all_saved contents.pieces c.loop-i.saved (writable_pieces contents.pieces) c.loop-i.i
    (all_passed contents c.loop-i.i (g.met.S.Space.valid c.args.space.now) (search rules)) c.loop-i.invariant
