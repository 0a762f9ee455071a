use Rattle.std.proofs.Common.{List, ap, sym, subst, ◌∙◌}
use Rattle.image_memory.specs.declared.types.Piece.{Piece}
use Rattle.image_memory.specs.Contents.{Contents}
use Rattle.update_memory.specs.Added.{AreAddable, with_pieces}
use Rattle.update_memory.specs.Retired.{AreRetirable}
use Rattle.tests_of_updates.specs.Small.{small, retired}
use Rattle.tests_of_updates.proofs.SmallLaws.{addable, retirable}
use Rattle.tests_of_updates.proofs.changing.add_and_retire.Goals as goal

pub add_pieces-requires-clause-apart : goal.add_pieces-requires-clause-apart
add_pieces-requires-clause-apart c =
    subst (λ (contents : Contents). AreAddable contents c.args.pieces) (sym c.requires.contents)
    (subst (λ (pieces : List Piece). AreAddable small pieces) (sym c.requires.pieces) addable)

pub retire-requires-clause-apart : goal.retire-requires-clause-apart
retire-requires-clause-apart c =
    let filled = ap (λ (contents : Contents). with_pieces contents c.args.pieces) c.requires.contents in
    let given = ap (λ (pieces : List Piece). with_pieces small pieces) c.requires.pieces in
    let there = c.add_pieces.ensures.contents ∙ filled ∙ given in
    subst (λ (contents : Contents). AreRetirable contents retired) (sym there) retirable
