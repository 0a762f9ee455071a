-- What a memory holds, and what is seen at one address of it.
use Rattle.std.specs.Prelude.{ℕ, ◌+◌, ◌-◌, ◌≤◌, Bool, ◌&&◌, ◌==◌, List, length, slice_index}
use Rattle.std.specs.Prelude.{Option}
use Rattle.std.specs.Option.{option_map}
use Rattle.std.specs.List.{find, list_any, All}
use native.Mathlib.Bridge.{le_prop}
use Rattle.ks_base.specs.declared.places.Range.{Range}
use Rattle.image_memory.specs.Ranges.{lies_in, Ascends, Ascends-prop}
use Rattle.image_memory.specs.declared.types.Kind.{Kind}
use Rattle.image_memory.specs.declared.types.Piece.{Piece}
use Rattle.image_memory.specs.declared.types.Fence.{Fence}

-- the pieces in ascending order of base, and the retired ranges in ascending order, each with whether
-- its low is a spliced home
pub record Contents : Type 0 where
  pub pieces : List Piece
  pub fences : List Fence

-- retired ranges, and how many more there is room for
pub record Retired : Type 0 where
  pub fences : List Fence
  pub spare : ℕ

-- what is kept spare for pieces and fences that are to be added
pub record Room : Type 0 where
  pub ranges : List Range
  pub fences : ℕ

abbrev pub piece_range : Piece → Range
piece_range piece = record { low = piece.base; high = piece.base + length piece.bytes }

-- what a piece is used for, and where it lies
abbrev pub shape_of : Piece → Kind × Range
shape_of piece = (piece.kind, piece_range piece)

abbrev pub fence_range : Fence → Range
fence_range fence = fence.range

-- no piece is empty, none ends above 0xFFFF0000, and they ascend and don't meet
pub record ArePlaced (pieces : List Piece) : Type 0 where
  pub ascend : Ascends piece_range 0 pieces
  pub end_below : All (λ piece. (piece_range piece).high ≤ 0xFFFF_0000) pieces

pub ArePlaced-prop : (pieces : List Piece) → IsProp (ArePlaced pieces)
ArePlaced-prop pieces = hlevel (Ascends-prop piece_range 0 pieces, le_prop)

-- what holds of each memory at every moment
pub record IsValid (contents : Contents) : Type 0 where
  pub placed : ArePlaced contents.pieces
  pub fenced : Ascends fence_range 0 contents.fences

-- the piece that has a byte at an address
abbrev pub holding : List Piece → ℕ → Option Piece
holding pieces address = find (λ piece. lies_in address (piece_range piece)) pieces

abbrev pub byte_in : ℕ → Piece → ℕ
byte_in address piece = slice_index piece.bytes (address - piece.base)

abbrev pub kind_and_byte : ℕ → Piece → Kind × ℕ
kind_and_byte address piece = (piece.kind, byte_in address piece)

-- the kind of the piece there and the byte, nothing where no piece holds the address
abbrev pub look_at : List Piece → ℕ → Option (Kind × ℕ)
look_at pieces address = option_map (kind_and_byte address) (holding pieces address)

-- whether an address is a spliced home
abbrev pub spliced_at : List Fence → ℕ → Bool
spliced_at fences address = list_any (λ fence. fence.jump && (fence.range.low == address)) fences
