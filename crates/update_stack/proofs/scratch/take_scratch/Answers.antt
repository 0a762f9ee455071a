use Rattle.std.proofs.Common.{sym, ◌∙◌, ap, subst}
use Rattle.image_memory.specs.Contents.{Contents}
use Rattle.image_memory.specs.Changes.{HasPiece, after_drop}
use Rattle.update_stack.specs.StandsFor.{Seen, seen}
use Rattle.update_stack.proofs.DropScratchLaws.{one_dropped}
use Rattle.update_stack.proofs.scratch.take_scratch.Goals as goal

pub drop_piece-requires : goal.drop_piece-requires
drop_piece-requires g c =
    subst (λ (contents : Contents). HasPiece contents c.args.base) (sym c.space_mut.ensures.contents) c.requires

pub returns : goal.returns
returns g c =
    ap (λ (contents : Contents). let s : Seen = record (seen c.args.machine.now) { contents = contents } in s)
    (c.drop_piece.ensures.contents
    ∙ ap (λ (contents : Contents). after_drop contents c.args.base) c.space_mut.ensures.contents
    ∙ one_dropped c.args.machine.now.contents c.args.base)
