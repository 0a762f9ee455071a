-- Pieces that are added to a memory.
use Rattle.std.specs.Prelude.{◌≡◌, false, List, map}
use Rattle.std.specs.List.{fold, All, AllPairs}
use Rattle.image_memory.specs.declared.types.Piece.{Piece}
use Rattle.image_memory.specs.Ranges.{meets, MeetsNone}
use Rattle.image_memory.specs.Contents.{Contents, piece_range}
use Rattle.image_memory.specs.Changes.{after_add}

-- Pieces that can be added: no two of them share an address, and none shares one with a piece that is there.
pub record AreAddable (contents : Contents) (pieces : List Piece) : Type 0 where
  pub apart : AllPairs (λ range other. meets range other ≡ false) (map piece_range pieces)
  pub clear : All (λ range. MeetsNone piece_range range contents.pieces) (map piece_range pieces)

-- a memory with pieces more, added in their order
unfoldable pub with_pieces : Contents → List Piece → Contents
with_pieces contents pieces = fold after_add contents pieces
