-- The bytes that a program may change, those of its writable pieces: saved, and put back.
use Rattle.std.specs.Prelude.{◌≡◌, Bool, not, List, map}
use Rattle.std.specs.List.{filter, fold}
use Rattle.ks_base.specs.declared.places.Range.{Range}
use Rattle.image_memory.specs.declared.types.Kind.{Kind}
use Rattle.image_memory.specs.declared.types.Piece.{Piece}
use Rattle.image_memory.specs.Contents.{Contents, piece_range, shape_of}
use Rattle.image_memory.specs.Access.{written}
use Rattle.image_threads.specs.Spawning.{is_writable, AreStacks}

abbrev pub writable_pieces : List Piece → List Piece
writable_pieces pieces = filter (λ (piece : Piece). is_writable piece.kind) pieces

abbrev pub unwritable_pieces : List Piece → List Piece
unwritable_pieces pieces = filter (λ (piece : Piece). not (is_writable piece.kind)) pieces

-- Pieces that can be put back: each begins and ends where a writable piece does.
abbrev pub CanBePutBack : (pieces saved : List Piece) → Type 0
CanBePutBack pieces saved = AreStacks pieces (map piece_range saved)

-- the bytes of saved pieces, written one piece after another where they begin
abbrev pub with_bytes : List Piece → Piece → List Piece
with_bytes pieces saved = written saved.base saved.bytes pieces

unfoldable pub put_back : Contents → List Piece → Contents
put_back contents saved = record contents { pieces = fold with_bytes contents.pieces saved }

-- Two memories that differ in bytes of writable pieces alone: the same is retired, their pieces have the same kinds and
-- ranges, and those that aren't writable the same bytes.
pub record DiffersInData (before after : Contents) : Type 0 where
  pub fences : after.fences ≡ before.fences
  pub shapes : map shape_of after.pieces ≡ map shape_of before.pieces
  pub fixed : unwritable_pieces after.pieces ≡ unwritable_pieces before.pieces

-- a memory without the pieces whose kind and range don't pass a test
abbrev pub OfShape : Type 0
OfShape = Kind × Range → Bool

abbrev pub filtered : OfShape → Contents → Contents
filtered test contents = record contents { pieces = filter (λ (p : Piece). test (shape_of p)) contents.pieces }
