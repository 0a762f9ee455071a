use Rattle.std.proofs.Common.{sym, subst}
use Rattle.std.specs.List.{All}
use Rattle.image_memory.specs.Contents.{Contents}
use Rattle.image_memory.specs.Changes.{HasPiece, IsRetired}
use Rattle.update_stack.proofs.withdrawing.take_back.Goals as goal

pub withdraw-requires-clause-retired : goal.withdraw-requires-clause-retired
withdraw-requires-clause-retired g c =
    subst (λ (m : Contents). All (IsRetired m) c.as_slice-retired.result.now) (sym c.space_mut.ensures.contents)
    (subst (All (IsRetired c.args.machine.now.contents)) (sym c.as_slice-retired.ensures) c.requires.retired)

pub withdraw-requires-clause-there : goal.withdraw-requires-clause-there
withdraw-requires-clause-there g c =
    subst (λ (m : Contents). All (HasPiece m) c.as_slice-pieces.result.now) (sym c.space_mut.ensures.contents)
    (subst (All (HasPiece c.args.machine.now.contents)) (sym c.as_slice-pieces.ensures) c.requires.pieces)
