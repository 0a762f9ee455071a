use Rattle.std.proofs.Common.{◌==◌, arith}
use Rattle.std.proofs.lemmas.Bool.Decides.{nat_tests}
use Rattle.std.proofs.lemmas.List.Folds.{Any-from_list_any}
use Rattle.image_memory.specs.declared.types.Piece.{Piece}
use Rattle.tests_of_images.proofs.memory.drop_at.Goals as goal

pub drop_piece-requires : goal.drop_piece-requires
drop_piece-requires g c =
    let there =
    Any-from_list_any (λ (piece : Piece). piece.base == c.args.base) (g.S.Space.contents c.args.space.now).pieces c.requires in
    let same = there.4 in
    (there.0, there.1, there.2, there.3, grind (arith, nat_tests))
