-- No memory holds an address of 2 ^ 32 or above.
use Rattle.std.proofs.Common.{◌≡◌, ℕ, ◌≤◌, ◌^◌, false, List, [], ◌∷◌, None, All, refl, arith}
use Rattle.std.proofs.lemmas.List.Elements.{All-head, All-tail}
use Rattle.image_memory.specs.declared.types.Piece.{Piece}
use Rattle.image_memory.specs.Ranges.{lies_in}
use Rattle.image_memory.specs.Contents.{Contents, IsValid, piece_range, holding}
use Rattle.image_memory.specs.Access.{byte_at}
use Rattle.match_constants.specs.Constants.{constant_at}

outside : (piece : Piece) (address : ℕ) → (piece_range piece).high ≤ address →
    lies_in address (piece_range piece) ≡ false
outside piece address above = grind arith

none_holds : (pieces : List Piece) (address : ℕ) → All (λ piece. (piece_range piece).high ≤ 0xFFFF_0000) pieces →
    0xFFFF_0000 ≤ address → holding pieces address ≡ None
none_holds [] address ends high = refl
none_holds (piece ∷ pieces) address ends high =
    let low : (piece_range piece).high ≤ 0xFFFF_0000 =
    All-head (λ (p : Piece). (piece_range p).high ≤ 0xFFFF_0000) piece pieces ends in
    rw (outside piece address (omega arith))
    (none_holds pieces address (All-tail (λ (p : Piece). (piece_range p).high ≤ 0xFFFF_0000) piece pieces ends)
    high)

pub nothing_high : (contents : Contents) (address : ℕ) → IsValid contents → 2 ^ 32 ≤ address →
    constant_at contents.pieces address ≡ None
nothing_high contents address valid high =
    rw (none_holds contents.pieces address valid.placed.end_below (omega arith)) refl

pub zero_high : (contents : Contents) (address : ℕ) → IsValid contents → 2 ^ 32 ≤ address →
    byte_at contents.pieces address ≡ 0
zero_high contents address valid high =
    rw (none_holds contents.pieces address valid.placed.end_below (omega arith)) refl
