-- What decoding meets from start to end of some bytes.
use Rattle.std.specs.Prelude.{◌≡◌, ℕ, suc, ◌+◌, List, [], ◌∷◌, drop, Some, None}
use Rattle.ia32_decode.specs.declared.types.Decoded.{Decoded}
use Rattle.ia32_decode.specs.Decode.{decoded_from}

-- so many instructions, and so many bytes at which nothing decodes: it goes on after each instruction, and after each
-- such byte
pub data Meets : List ℕ → ℕ → ℕ → Type 0 where
  ends : Meets [] 0 0
  decodes : (bytes : List ℕ) (d : Decoded) (instructions undecoded : ℕ) → decoded_from bytes ≡ Some d
      → Meets (drop d.length bytes) instructions undecoded → Meets bytes (suc instructions) undecoded
  passes : (byte : ℕ) (bytes : List ℕ) (instructions undecoded : ℕ) → decoded_from (byte ∷ bytes) ≡ None
      → Meets bytes instructions undecoded → Meets (byte ∷ bytes) instructions (suc undecoded)

-- the same, in so many passes over the bytes
pub data MeetsIn (bytes : List ℕ) : ℕ → ℕ → ℕ → Type 0 where
  none : MeetsIn bytes 0 0 0
  one_more : (passes i u j v : ℕ) → MeetsIn bytes passes i u → Meets bytes j v
      → MeetsIn bytes (passes + 1) (i + j) (u + v)
