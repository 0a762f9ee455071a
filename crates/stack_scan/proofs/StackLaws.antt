-- Why a part of a stack can be read.
use Rattle.std.proofs.Common.{◌≡◌, ℕ, zero, suc, ◌+◌, ◌-◌, ◌≤◌, ◌<◌, true, false, List, [], ◌∷◌}
use Rattle.std.proofs.Common.{length, get_or, Some, None, refl, arith}
use Rattle.std.specs.List.{Any}
use Rattle.std.proofs.lemmas.Bool.Decides.{nat_tests}
use Rattle.ks_base.specs.declared.places.Range.{Range}
use Rattle.image_memory.specs.declared.types.Piece.{Piece}
use Rattle.image_memory.specs.Ranges.{lies_in, Ascends}
use Rattle.image_memory.specs.Contents.{piece_range, holding}
use Rattle.image_memory.specs.Access.{first_fault, read_fault}
use Rattle.image_memory.specs.laws.AccessLaws.{all_good, good_at}
use Rattle.stack_scan.specs.Standing.{IsStack, LiesInWritable}

later_above : (floor : ℕ) (ps : List Piece) (i : ℕ) (d : Piece) → Ascends piece_range floor ps → i < length ps
    → floor ≤ (get_or ps i d).base
later_above floor [] i d up l = absurd (omega arith)
later_above floor (p ∷ ps) zero d up l = up.0
later_above floor (p ∷ ps) (suc i) d up l =
    let low = up.0 in
    let full = up.1 in
    let rest = later_above (piece_range p).high ps i d up.2 (omega arith) in
    omega arith

-- a piece holds each of its addresses
held_by : (floor : ℕ) (ps : List Piece) (i a : ℕ) (d : Piece) → Ascends piece_range floor ps → i < length ps
    → (get_or ps i d).base ≤ a → a < (piece_range (get_or ps i d)).high → holding ps a ≡ Some (get_or ps i d)
held_by floor [] i a d up l low high = absurd (omega arith)
held_by floor (p ∷ ps) zero a d up l low high =
    let here : lies_in a (piece_range p) ≡ true = grind (arith, nat_tests) in
    rw here refl
held_by floor (p ∷ ps) (suc i) a d up l low high =
    let later = later_above (piece_range p).high ps i d up.2 (omega arith) in
    let elsewhere : lies_in a (piece_range p) ≡ false = grind (arith, nat_tests) in
    rw elsewhere (held_by (piece_range p).high ps i a d up.2 (omega arith) low high)

readable_at : (pieces : List Piece) (stack : Range) (a : ℕ)
    → Ascends piece_range 0 pieces → Any (LiesInWritable stack) pieces
    → stack.low ≤ a → a < stack.high → read_fault pieces a ≡ None
readable_at pieces stack a up held low high =
    let i = held.0 in
    let piece = held.1 in
    let lies = held.4 in
    let is : get_or pieces i piece ≡ piece = held.3 in
    let here : holding pieces a ≡ Some (get_or pieces i piece) =
    held_by 0 pieces i a piece up held.2 (rw is (omega (arith, lies.low))) (rw is (omega (arith, lies.high))) in
    rw (here, is, lies.kind) refl

-- bytes of a stack can be read
pub stack_readable : (pieces : List Piece) (stack : Range) (a n : ℕ)
    → Ascends piece_range 0 pieces → IsStack pieces stack
    → stack.low ≤ a → a + n ≤ stack.high → first_fault (read_fault pieces) a n ≡ None
stack_readable pieces stack a n up is low high =
    all_good (read_fault pieces) a n (λ k l. readable_at pieces stack (a + k) up is.held (omega arith) (omega arith))

-- and so can a part of what can be read
pub part_readable : (pieces : List Piece) (a n b m : ℕ)
    → first_fault (read_fault pieces) a n ≡ None → a ≤ b → b + m ≤ a + n
    → first_fault (read_fault pieces) b m ≡ None
part_readable pieces a n b m h low high =
    all_good (read_fault pieces) b m (λ k l.
    let e : a + (b - a + k) ≡ b + k = omega arith in
    rw e at (good_at (read_fault pieces) a n (b - a + k) h (omega arith)))
