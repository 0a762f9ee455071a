-- A memory of data.
use Rattle.std.specs.Prelude.{[], ◌∷◌}
use Rattle.image_memory.specs.declared.types.Kind.TheVariants.{ReadOnly, Writable}
use Rattle.image_memory.specs.declared.types.Piece.{Piece}
use Rattle.image_memory.specs.Contents.{Contents}

-- a constant and three bytes of data
abbrev pub constant : Piece
constant = record { kind = ReadOnly; base = 0x0020_0000; bytes = 1 ∷ [] }

abbrev pub numbers : Piece
numbers = record { kind = Writable; base = 0x0080_0020; bytes = 7 ∷ 8 ∷ 9 ∷ [] }

unfoldable pub filled : Contents
filled = record { pieces = constant ∷ numbers ∷ []; fences = [] }
