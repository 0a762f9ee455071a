use Rattle.std.proofs.Common.{rules, sym, subst, ◌∙◌, ap}
use Rattle.std.proofs.lemmas.Result.{on_ok_weaker}
use Rattle.ks_base.specs.declared.places.Range.{Range}
use Rattle.image_memory.specs.declared.types.Piece.{Piece}
use Rattle.image_memory.specs.Contents.{ArePlaced}
use Rattle.image_memory.specs.Changes.{with_piece}
use Rattle.ksplice_session.proofs.MemoryLaws.{no_stacks, one_stack, fit_later}
use Rattle.update_stack.specs.laws.FirstPieces.{placed_with_stacks}
use Rattle.ksplice_session.proofs.memory.+put_stacks.Goals as goal

pub returns-in-empty : goal.returns-in-empty
returns-in-empty t c = no_stacks c.args.pieces.now.items c.args.stacks.now c.in-empty.len_below

pub put_stacks-requires : goal.put_stacks-requires
put_stacks-requires t c = (
  search rules,
  (
    c.requires.placed,
    fit_later c.args.pieces.now.items c.args.stacks.now c.in-len1-up.len_at_least c.requires.stacks,
  ),
)

pub put_piece-requires : goal.put_piece-requires
put_piece-requires t c =
    (subst ArePlaced (sym c.in_ok-put_stacks-in-len1-up.ensures)
    (placed_with_stacks c.pieces_stay_placed.ensures c.args.pieces.now.items _ c.requires.placed
    (fit_later c.args.pieces.now.items c.args.stacks.now c.in-len1-up.len_at_least c.requires.stacks))).ascend

pub returns-in_ok-stack_piece-in-len1-up : goal.returns-in_ok-stack_piece-in-len1-up
returns-in_ok-stack_piece-in-len1-up t c =
    let none : Range = record { low = 0; high = 0 } in
    let whole =
    ap (λ (piece : Piece). with_piece piece c.put_stacks.new.pieces.items) c.in_ok-stack_piece-in-len1-up.ensures
    ∙ one_stack c.args.pieces.now.items c.args.stacks.now
    none c.put_stacks.new.pieces.items c.in-len1-up.len_at_least c.in_ok-put_stacks-in-len1-up.ensures in
    on_ok_weaker c.put_piece.result (λ e. e ∙ whole) c.put_piece.ensures.ok
