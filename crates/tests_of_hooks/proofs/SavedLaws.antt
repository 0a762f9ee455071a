-- What was saved may be put back.
use Rattle.std.specs.Prelude.{IsTrue, [], ◌∷◌}
use Rattle.std.proofs.Common.{refl}
use Rattle.std.proofs.lemmas.List.Elements.{All-nil, All-cons}
use Rattle.ks_base.specs.declared.places.Range.{Range}
use Rattle.image_memory.specs.Access.{after_write, overlaid}
use Rattle.image_memory.specs.Contents.{piece_range}
use Rattle.image_threads.specs.Spawning.{is_stack}
use Rattle.saved_data.specs.Saved.{CanBePutBack, writable_pieces}
use Rattle.tests_of_hooks.specs.Data.{numbers, filled}

pub fits : CanBePutBack (after_write filled 0x0080_0020 (5 ∷ 6 ∷ [])).pieces (writable_pieces filled.pieces)
unfolding filled overlaid
fits =
    let P = λ (range : Range). IsTrue (is_stack (after_write filled 0x0080_0020 (5 ∷ 6 ∷ [])).pieces range) in
    All-cons P (piece_range numbers) [] refl (All-nil P)
