-- Laws of the bytes at one home, for the crates above: the last that are written there stand, and those of each phase are
-- five.
use Rattle.std.proofs.Common.{◌≡◌, ℕ, ◌+◌, ◌≤◌, ◌<◌, List, [], ◌∷◌, length, refl, sym, ap, ◌∙◌, ◌⊎◌, inl, inr}
use Rattle.image_memory.specs.declared.types.Piece.{Piece}
use Rattle.image_memory.specs.Access.{new_byte, overlaid}
use Rattle.image_memory.specs.laws.AccessLaws.{new_inside, new_outside}
use Rattle.splice_jump.specs.declared.phase.Phase.{Phase}
use Rattle.splice_jump.specs.declared.phase.Phase.TheVariants.{Done, Marked, Tailed}
use Rattle.splice_jump.specs.Jump.{with_old}
use Rattle.splice_jump.specs.Phases.{phase_bytes, trapping}
use Rattle.splice_jump.specs.laws.WriteLaws.{in_or_out}

-- one byte that is written twice, and the last bytes of as many that are written twice
byte_again : (home : ℕ) (one other : List ℕ) (a b : ℕ) → length one ≡ length other
    → new_byte home other a (new_byte home one a b) ≡ new_byte home other a b
byte_again home one other a b same =
    elim (in_or_out home (home + length other) a) [
      | inl here ↦
          new_inside home other a (new_byte home one a b) here.0 here.1
          ∙ sym (new_inside home other a b here.0 here.1)
      | inr out ↦
          let away : (a < home) ⊎ (home + length one ≤ a) = rw same out in
          ap (new_byte home other a) (new_outside home one a b away)
    ]

bytes_again : (home : ℕ) (one other : List ℕ) (a : ℕ) (xs : List ℕ) → length one ≡ length other
    → overlaid home other a (overlaid home one a xs) ≡ overlaid home other a xs
unfolding overlaid
bytes_again home one other a [] same = refl
bytes_again home one other a (x ∷ xs) same =
    rw (byte_again home one other a x same, bytes_again home one other (a + 1) xs same) refl

pub last_stands : (pieces : List Piece) (home : ℕ) (one other : List ℕ) → length one ≡ length other
    → with_old home other (with_old home one pieces) ≡ with_old home other pieces
last_stands [] home one other same = refl
last_stands (p ∷ ps) home one other same =
    rw (bytes_again home one other p.base p.bytes same, last_stands ps home one other same) refl

-- as many bytes with a first that traps
length-trapping : (old : List ℕ) → length old ≡ 5 → length (trapping old) ≡ 5
length-trapping [] five = absurd (cc)
length-trapping (x ∷ xs) five = five

pub length-phase_bytes : (phase : Phase) (home base : ℕ) (old : List ℕ) → length old ≡ 5
    → length (phase_bytes phase home base old) ≡ 5
length-phase_bytes Done home base old five = refl
length-phase_bytes (Marked at) home base old five = length-trapping old five
length-phase_bytes (Tailed at) home base old five = refl
