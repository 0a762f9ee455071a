-- Memory from which pieces and retired ranges are taken away.
use Rattle.std.specs.Prelude.{ℕ, Bool, not, ◌==◌, List, [], ◌∷◌}
use Rattle.std.specs.List.{filter, list_any}
use Rattle.ks_base.specs.declared.places.Range.{Range}
use Rattle.image_memory.specs.declared.types.Piece.{Piece}
use Rattle.image_memory.specs.Ranges.{is_one_of}
use Rattle.image_memory.specs.Contents.{Contents}
use Rattle.image_memory.specs.Changes.{without_ranges}
use Rattle.splice_jump.specs.Jumps.{unjumped}

-- whether a piece begins at one of some addresses, and the pieces that don't
abbrev pub is_based_at : List ℕ → Piece → Bool
is_based_at bases piece = list_any (λ base. base == piece.base) bases

abbrev pub without_pieces : List ℕ → List Piece → List Piece
without_pieces bases pieces = filter (λ piece. not (is_based_at bases piece)) pieces

-- the ranges that are spare after the pieces were taken away that begin at some addresses: none, unless there are no
-- such addresses
abbrev pub spare_after : List ℕ → List Range → List Range
spare_after [] spare = spare
spare_after (base ∷ bases) spare = []

-- the ranges that are none of some
abbrev pub ranges_but : List Range → List Range → List Range
ranges_but taken ranges = filter (λ range. not (is_one_of taken range)) ranges

-- A memory after an update was taken back: old bytes are put back at homes, ranges are no longer retired, and the
-- pieces that begin at some addresses are gone.
unfoldable pub withdrawn_memory : List ℕ → List Range → List (ℕ × List ℕ) → Contents → Contents
withdrawn_memory bases taken olds contents =
    record {
      pieces = without_pieces bases (unjumped olds contents.pieces);
      fences = without_ranges taken contents.fences;
    }
