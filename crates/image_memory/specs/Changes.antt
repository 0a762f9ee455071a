-- How the pieces, the retired ranges and what is spare change.
use Rattle.std.specs.Prelude.{◌≡◌, ℕ, ◌≤◌, ◌<◌, not, ◌==◌, List, [], ◌∷◌, map, if◌then◌else◌}
use Rattle.std.specs.List.{filter, All, Any, Contains}
use Rattle.ks_base.specs.declared.places.Range.{Range}
use Rattle.image_memory.specs.Ranges.{are_same, is_one_of, put_in}
use Rattle.image_memory.specs.Contents.{Contents, Room, piece_range, fence_range}
use Rattle.image_memory.specs.declared.types.Piece.{Piece}
use Rattle.image_memory.specs.declared.types.Fence.{Fence}

-- a piece put among pieces that ascend, and the pieces but that of a base
abbrev pub with_piece : Piece → List Piece → List Piece
with_piece piece pieces = put_in piece_range piece pieces

abbrev pub without_piece : ℕ → List Piece → List Piece
without_piece base pieces = filter (λ piece. not (piece.base == base)) pieces

-- a retired range put among those that ascend, the retired ranges but one, and those but some
abbrev pub with_fence : Fence → List Fence → List Fence
with_fence fence fences = put_in fence_range fence fences

abbrev pub without_fence : Range → List Fence → List Fence
without_fence range fences = filter (λ fence. not (are_same fence.range range)) fences

abbrev pub without_ranges : List Range → List Fence → List Fence
without_ranges taken fences = filter (λ fence. not (is_one_of taken fence.range)) fences

-- ranges but the first that is this one
abbrev pub without_first : Range → List Range → List Range
without_first range [] = []
without_first range (other ∷ others) = if are_same other range then others else other ∷ without_first range others

-- a range that a piece may have: it isn't empty, and doesn't end above 0xFFFF0000
abbrev pub IsPlaceable : Range → Type 0
IsPlaceable range = (range.low < range.high) × (range.high ≤ 0xFFFF_0000)

abbrev pub ArePlaceable : List Piece → Type 0
ArePlaceable pieces = All (λ piece. IsPlaceable (piece_range piece)) pieces

-- the range of a piece is spare
abbrev pub FitsSpare : Room → Piece → Type 0
FitsSpare room piece = Contains room.ranges (piece_range piece)

-- a piece begins at an address
abbrev pub HasPiece : Contents → ℕ → Type 0
HasPiece contents base = Any (λ piece. piece.base ≡ base) contents.pieces

-- a range is retired
abbrev pub IsRetired : Contents → Range → Type 0
IsRetired contents range = Contains (map fence_range contents.fences) range

-- contents after a piece was added or dropped, and after a range was retired, no longer is, or some no longer are
abbrev pub after_add : Contents → Piece → Contents
after_add contents piece = record contents { pieces = with_piece piece contents.pieces }

abbrev pub after_drop : Contents → ℕ → Contents
after_drop contents base = record contents { pieces = without_piece base contents.pieces }

abbrev pub after_fence : Contents → Fence → Contents
after_fence contents fence = record contents { fences = with_fence fence contents.fences }

abbrev pub after_unfence : Contents → Range → Contents
after_unfence contents range = record contents { fences = without_fence range contents.fences }

abbrev pub after_unfence_all : Contents → List Range → Contents
after_unfence_all contents ranges = record contents { fences = without_ranges ranges contents.fences }
