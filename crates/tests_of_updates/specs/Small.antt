-- A small memory, and the pieces and the retired range that an update adds to it.
use Rattle.std.specs.Prelude.{true, List, [], ◌∷◌}
use Rattle.image_memory.specs.declared.types.Kind.TheVariants.{Code, Writable}
use Rattle.image_memory.specs.declared.types.Piece.{Piece}
use Rattle.image_memory.specs.declared.types.Fence.{Fence}
use Rattle.image_memory.specs.Contents.{Contents}

abbrev pub running : Piece
running = record { kind = Code; base = 0x0010_0000; bytes = 0xB8 ∷ 1 ∷ 0 ∷ 0 ∷ 0 ∷ 0xC3 ∷ 0x90 ∷ [] }

unfoldable pub small : Contents
small = record { pieces = running ∷ []; fences = [] }

abbrev pub variable : Piece
variable = record { kind = Writable; base = 0x0080_0020; bytes = 7 ∷ [] }

abbrev pub newer : Piece
newer = record { kind = Code; base = 0x0080_0010; bytes = 0xB8 ∷ 2 ∷ 0 ∷ 0 ∷ 0 ∷ 0xC3 ∷ [] }

unfoldable pub added : List Piece
added = variable ∷ newer ∷ []

abbrev pub body : Fence
body = record { range = record { low = 0x0010_0000; high = 0x0010_0006 }; jump = true }

abbrev pub retired : List Fence
retired = body ∷ []
