-- A jump that is written over a home in three separate writes, while threads run. The first makes the home's first byte
-- one that traps (Intel SDM volume 2, INT3), the second writes the displacement behind it, the third the byte E9. So
-- the jump's opcode never stands before another displacement than its own.
use Rattle.std.specs.Prelude.{◌≡◌, ◌≢◌, ℕ, ◌⊎◌, List, [], ◌∷◌, take, drop, length, Option, Some, None}
use Rattle.image_memory.specs.declared.types.Piece.{Piece}
use Rattle.image_memory.specs.Contents.{Contents, IsValid}
use Rattle.image_memory.specs.Access.{byte_at}
use Rattle.image_memory.specs.Fetch.{view_at, code_from, jump_at}
use Rattle.splice_jump.specs.declared.phase.Phase.{Phase}
use Rattle.splice_jump.specs.declared.phase.Phase.TheVariants.{Done, Marked, Tailed}
use Rattle.splice_jump.specs.Jump.{jump_bytes, with_old, after_old}
use Rattle.splice_jump.specs.Jumps.{IsSpliced}

abbrev pub trap_byte : ℕ
trap_byte = 0xCC

-- bytes of which the first is the one that traps
abbrev pub trapping : List ℕ → List ℕ
trapping bytes = trap_byte ∷ drop 1 bytes

-- the five bytes at a home in each phase of writing the jump to a base over the old ones
abbrev pub phase_bytes : Phase → (home base : ℕ) → (old : List ℕ) → List ℕ
phase_bytes Done home base old = jump_bytes home base
phase_bytes (Marked at) home base old = trapping old
phase_bytes (Tailed at) home base old = trapping (jump_bytes home base)

-- the home at which a jump is being written
abbrev pub open_home : Phase → Option ℕ
open_home Done = None
open_home (Marked home) = Some home
open_home (Tailed home) = Some home

-- what stands at a home after the first write, the second and the third, over old bytes
pub record EachWrite (home base : ℕ) (old : List ℕ) : Type 0 where
  -- the first changes the first byte alone
  pub mark : drop 1 (phase_bytes (Marked home) home base old) ≡ drop 1 old
  -- the second none but the four behind it
  pub tail : take 1 (phase_bytes (Tailed home) home base old) ≡ take 1 (phase_bytes (Marked home) home base old)
  -- the third the first one again
  pub seal : drop 1 (phase_bytes Done home base old) ≡ drop 1 (phase_bytes (Tailed home) home base old)

abbrev pub WritesChangeTheirBytes : Type 0
WritesChangeTheirBytes = (home base : ℕ) (old : List ℕ) → EachWrite home base old

-- In each phase the whole jump stands at the home, or its first byte traps.
abbrev pub JumpIsNeverHalf : Type 0
JumpIsNeverHalf =
    (phase : Phase) (home base : ℕ) (old : List ℕ)
    → (phase_bytes phase home base old ≡ jump_bytes home base)
    ⊎ (take 1 (phase_bytes phase home base old) ≡ trap_byte ∷ [])

-- Whatever five bytes stand at a spliced home, a thread meets the same at each address, at another spliced home it
-- fetches the same jump, and data are the same;
pub record AreNotLookedAt (contents : Contents) (home : ℕ) (five : List ℕ) : Type 0 where
  pub views : (pc : ℕ) → view_at (after_old contents home five) pc ≡ view_at contents pc
  pub jumps : (pc : ℕ) → IsSpliced contents pc → pc ≢ home
      → jump_at (with_old home five contents.pieces) pc ≡ jump_at contents.pieces pc
  pub data_bytes : (address : ℕ) → code_from contents.pieces address ≡ None
      → byte_at (with_old home five contents.pieces) address ≡ byte_at contents.pieces address

abbrev pub HomesAreNotLookedAt : Type 0
HomesAreNotLookedAt =
    (contents : Contents) (home : ℕ) (five : List ℕ) → IsValid contents → IsSpliced contents home → length five ≡ 5
    → AreNotLookedAt contents home five

-- and what is written there last stands there.
abbrev pub LastBytesStand : Type 0
LastBytesStand =
    (pieces : List Piece) (home : ℕ) (one other : List ℕ) → length one ≡ length other
    → with_old home other (with_old home one pieces) ≡ with_old home other pieces
