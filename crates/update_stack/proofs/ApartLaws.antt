-- Writes that share no address go past each other.
use Rattle.std.proofs.Common.{◌≡◌, ℕ, ◌+◌, ◌≤◌, ◌<◌, List, ◌++◌, length, get_or, sym, ◌∙◌, ap, arith}
use Rattle.std.proofs.Common.{◌⊎◌, inl, inr}
use Rattle.std.specs.List.{All}
use Rattle.image_memory.specs.declared.types.Piece.{Piece}
use Rattle.image_memory.specs.Ranges.{Ascends}
use Rattle.image_memory.specs.Contents.{piece_range}
use Rattle.image_memory.specs.Access.{byte_at}
use Rattle.splice_jump.specs.Jumps.{unjumped}
use Rattle.splice_jump.specs.laws.WriteLaws.{byte_after, Misses, Away, byte_outside, byte_after-append, IsWritten}
use Rattle.splice_jump.specs.laws.WriteLaws.{written_or_not, unjumped-append, same_left}

-- each of some writes shares no address with any of others
abbrev pub AllAway : List (ℕ × List ℕ) → List (ℕ × List ℕ) → Type 0
AllAway ws vs = All (λ w. All (Away w) vs) ws

one_missed : (a low n other m : ℕ) → low ≤ a → a < low + n → (low + n ≤ other) ⊎ (other + m ≤ low)
    → (a < other) ⊎ (other + m ≤ a)
one_missed a low n other m from to away = elim away [ inl before ↦ inl (omega arith) | inr behind ↦ inr (omega arith) ]

missed : (ws vs : List (ℕ × List ℕ)) (a : ℕ) → AllAway ws vs → IsWritten ws a → All (Misses a) vs
missed ws vs a apart is k d l =
    let w = get_or ws is.index d in
    let v = get_or vs k d in
    one_missed a w.0 (length w.1) v.0 (length v.1) (is.low d) (is.high d) (apart is.index d is.in_list k d l)

either_order : (ws vs : List (ℕ × List ℕ)) (a b : ℕ) → AllAway ws vs
    → byte_after (ws ++ vs) a b ≡ byte_after (vs ++ ws) a b
either_order ws vs a b apart = elim (written_or_not ws a) [
  | inl is ↦
      let none = missed ws vs a apart is in
      byte_after-append ws vs a b ∙ byte_outside vs a (byte_after ws a b) none
      ∙ sym (byte_after-append vs ws a b ∙ ap (byte_after ws a) (byte_outside vs a b none))
  | inr none ↦
      byte_after-append ws vs a b ∙ ap (byte_after vs a) (byte_outside ws a b none)
      ∙ sym (byte_after-append vs ws a b ∙ byte_outside ws a (byte_after vs a b) none)
]

-- either may be made first
pub writes_swapped : (ws vs : List (ℕ × List ℕ)) (ps : List Piece) → Ascends piece_range 0 ps → AllAway ws vs
    → unjumped ws (unjumped vs ps) ≡ unjumped vs (unjumped ws ps)
writes_swapped ws vs ps up apart =
    sym (unjumped-append vs ws ps)
    ∙ same_left (vs ++ ws) (ws ++ vs) ps up (λ a. sym (either_order ws vs a (byte_at ps a) apart))
    ∙ unjumped-append ws vs ps
