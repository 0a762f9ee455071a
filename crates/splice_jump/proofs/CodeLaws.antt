-- Bytes of code that lie in one piece.
use Rattle.std.proofs.Common.{◌≡◌, ℕ, ◌+◌, ◌-◌, List, [], ◌∷◌, drop}
use Rattle.std.proofs.Common.{Some, None, refl, arith}
use Rattle.image_memory.specs.declared.types.Piece.{Piece}
use Rattle.image_memory.specs.Fetch.{code_from}
use Rattle.image_memory.specs.Access.{byte_at, bytes_at}
use Rattle.splice_jump.specs.Jump.{five_at}
use Rattle.splice_jump.specs.laws.CodeLaws.{IsHeld}

-- the five bytes one by one
pub five_are : (pieces : List Piece) (home : ℕ)
    → byte_at pieces home ∷ byte_at pieces (home + 1) ∷ byte_at pieces (home + 2) ∷ byte_at pieces (home + 3)
    ∷ byte_at pieces (home + 4) ∷ []
    ≡ five_at pieces home
unfolding bytes_at
five_are pieces home =
    let two : home + 1 + 1 ≡ home + 2 = omega arith in
    let three : home + 2 + 1 ≡ home + 3 = omega arith in
    let four : home + 3 + 1 ≡ home + 4 = omega arith in
    rw (two, three, four) refl

pub no_data : (pieces : List Piece) (a : ℕ) → IsHeld pieces a 1 → code_from pieces a ≡ None → ⊥
no_data pieces a here none =
    let some : Some (drop (a - here.piece.base) here.piece.bytes) ≡ None = rw (here.found, here.code) at none in
    cc
