-- Memory with the jumps of many functions. A row is a home and the base of the newest version of its function.
use Rattle.std.specs.Prelude.{◌≡◌, ◌≢◌, ℕ, ◌+◌, ◌≤◌, true, List, map, ◌==◌, if◌then◌else◌}
use Rattle.std.specs.List.{fold, All, Any, AllPairs}
use Rattle.image_memory.specs.declared.types.Piece.{Piece}
use Rattle.image_memory.specs.declared.types.Fence.{Fence}
use Rattle.image_memory.specs.Contents.{Contents}
use Rattle.image_memory.specs.Fetch.{HasCode}
use Rattle.splice_jump.specs.Jump.{five_at, with_jump, with_old}

-- pieces with the jump to the base at the home of a row, and of each row
abbrev pub with_row : List Piece → ℕ × ℕ → List Piece
with_row pieces row = with_jump row.0 row.1 pieces

unfoldable pub jumped : List (ℕ × ℕ) → List Piece → List Piece
jumped rows pieces = fold with_row pieces rows

abbrev pub jumped_memory : List (ℕ × ℕ) → Contents → Contents
jumped_memory rows contents = record contents { pieces = jumped rows contents.pieces }

-- rows with another base at a home
abbrev pub row_with : ℕ → ℕ → ℕ × ℕ → ℕ × ℕ
row_with home base row = if row.0 == home then (home, base) else row

abbrev pub with_base : ℕ → ℕ → List (ℕ × ℕ) → List (ℕ × ℕ)
with_base home base rows = map (row_with home base) rows

-- homes with the old bytes that stood there: those of some pieces, and pieces after they were put back
abbrev pub old_at : List Piece → ℕ × ℕ → ℕ × List ℕ
old_at pieces row = (row.0, five_at pieces row.0)

abbrev pub olds_at : List Piece → List (ℕ × ℕ) → List (ℕ × List ℕ)
olds_at pieces rows = map (old_at pieces) rows

abbrev pub with_old_row : List Piece → ℕ × List ℕ → List Piece
with_old_row pieces old = with_old old.0 old.1 pieces

unfoldable pub unjumped : List (ℕ × List ℕ) → List Piece → List Piece
unjumped olds pieces = fold with_old_row pieces olds

-- a retired range that begins at a home, which it marks as spliced, and has its five bytes
pub record IsFenced (home : ℕ) (fence : Fence) : Type 0 where
  pub jump : fence.jump ≡ true
  pub low : fence.range.low ≡ home
  pub long : home + 5 ≤ fence.range.high

-- a spliced home: its five bytes lie in one code piece and in the retired range that begins there
pub record IsSpliced (contents : Contents) (home : ℕ) : Type 0 where
  pub code : HasCode contents.pieces home 5
  pub fence : Any (IsFenced home) contents.fences

-- the home of each row is spliced, and none stands twice
pub record AreSpliced (contents : Contents) (rows : List (ℕ × ℕ)) : Type 0 where
  pub each : All (λ row. IsSpliced contents row.0) rows
  pub once : AllPairs (λ row other. row.0 ≢ other.0) rows
