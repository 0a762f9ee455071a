-- The jump at a replaced function's home (Intel SDM volume 2, JMP rel32): the byte E9, and the displacement from the
-- end of the jump's five bytes to where the newest version begins, the lowest byte first.
use Rattle.std.specs.Prelude.{ℕ, ◌+◌, ◌-◌, ◌%◌, ◌^◌, List, ◌∷◌}
use Rattle.std.specs.Int.{w32, to_le_bytes}
use Rattle.image_memory.specs.declared.types.Piece.{Piece}
use Rattle.image_memory.specs.Contents.{Contents}
use Rattle.image_memory.specs.Access.{bytes_at, written}

-- how far it is from the end of the jump at a home to a base, modulo 2^32
abbrev pub displacement : (home base : ℕ) → ℕ
displacement home base = (base + (2 ^ 32 - (home + 5) % 2 ^ 32)) % 2 ^ 32

abbrev pub jump_bytes : (home base : ℕ) → List ℕ
jump_bytes home base = 0xE9 ∷ to_le_bytes w32 (displacement home base)

-- the five bytes that stand at a home
abbrev pub five_at : List Piece → ℕ → List ℕ
five_at pieces home = bytes_at pieces home 5

-- the pieces after a jump was written at a home, and after old bytes were put back there; no other byte changes
abbrev pub with_jump : (home base : ℕ) → List Piece → List Piece
with_jump home base pieces = written home (jump_bytes home base) pieces

abbrev pub with_old : (home : ℕ) → List ℕ → List Piece → List Piece
with_old home old pieces = written home old pieces

-- memory with such pieces
abbrev pub after_jump : Contents → (home base : ℕ) → Contents
after_jump contents home base = record contents { pieces = with_jump home base contents.pieces }

abbrev pub after_old : Contents → (home : ℕ) → List ℕ → Contents
after_old contents home old = record contents { pieces = with_old home old contents.pieces }
