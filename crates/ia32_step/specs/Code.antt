-- Code beside data: which pieces a step leaves as they are, and when two memories differ in code alone.
use Rattle.std.specs.Prelude.{◌≡◌, ℕ, List, map, length, replicate, IsTrue, Some}
use Rattle.std.specs.List.{filter, slice_get}
use Rattle.image_memory.specs.declared.types.Kind.{Kind}
use Rattle.image_memory.specs.declared.types.Kind.TheVariants.{Code, ReadOnly, Writable}
use Rattle.image_memory.specs.declared.types.Piece.{Piece}
use Rattle.image_memory.specs.Fetch.{is_code}
use Rattle.ia32_step.specs.Step.{Left}

-- the pieces of code
abbrev pub code_pieces : List Piece → List Piece
code_pieces pieces = filter (λ piece. is_code piece.kind) pieces

-- each piece of code stays as it was, at its place among the pieces, and so do all of them in order
pub record KeepsCode (before after : List Piece) : Type 0 where
  pub each : (i : ℕ) (piece : Piece) → slice_get before i ≡ Some piece → IsTrue (is_code piece.kind)
      → slice_get after i ≡ Some piece
  pub whole : code_pieces after ≡ code_pieces before

-- zeros in place of code
abbrev pub data_bytes : Kind → List ℕ → List ℕ
data_bytes Code bytes = replicate (length bytes) 0
data_bytes ReadOnly bytes = bytes
data_bytes Writable bytes = bytes

abbrev pub without_code : Piece → Piece
without_code piece = record piece { bytes = data_bytes piece.kind piece.bytes }

-- Two memories are the same but for bytes of code: their pieces have the same kinds and addresses, and those that
-- aren't code the same bytes.
abbrev pub SameData : List Piece → List Piece → Type 0
SameData a b = map without_code a ≡ map without_code b

-- what two steps left is the same: pieces but for bytes of code, thread and outcome
pub record SameLeft (a b : Left) : Type 0 where
  pub memory : SameData a.contents.pieces b.contents.pieces
  pub thread : a.thread ≡ b.thread
  pub outcome : a.outcome ≡ b.outcome
