use Rattle.std.proofs.Common.{List, [], ◌∷◌, sym, subst}
use Rattle.image_memory.specs.declared.types.Piece.{Piece}
use Rattle.image_memory.specs.Contents.{Contents}
use Rattle.image_memory.specs.Access.{after_write}
use Rattle.saved_data.specs.Saved.{CanBePutBack}
use Rattle.tests_of_hooks.specs.Data.{filled}
use Rattle.tests_of_hooks.proofs.SavedLaws.{fits}
use Rattle.tests_of_hooks.proofs.saving.change_back.Goals as goal

pub put_back-requires : goal.put_back-requires
put_back-requires c =
    subst (λ (contents : Contents). CanBePutBack contents.pieces c.args.saved.now) (sym c.requires.written)
    (subst (λ (pieces : List Piece). CanBePutBack (after_write filled 0x0080_0020 (5 ∷ 6 ∷ [])).pieces pieces)
    (sym c.requires.saved) fits)
