-- Which pages pieces have.
use Rattle.std.specs.Prelude.{ℕ, ◌/◌, List, IsSome}
use Rattle.std.specs.List.{Contains}
use Rattle.image_memory.specs.Contents.{holding}
use Rattle.image_memory.specs.declared.types.Piece.{Piece}

-- numbers of pages of 4,096 bytes, among which is that of each byte of a piece
abbrev pub HavePages : List ℕ → List Piece → Type 0
HavePages numbers pieces = (address : ℕ) → IsSome (holding pieces address) → Contains numbers (address / 4096)
