-- What is read of a whole piece.
use Rattle.std.proofs.Common.{◌≡◌, ℕ, zero, suc, ◌+◌, ◌-◌, ◌≤◌, ◌<◌, Bool, true, false, ◌&&◌, ◌||◌, List, [], ◌∷◌, length, get_or}
use Rattle.std.proofs.Common.{Option, Some, None, refl, ◌∙◌, ap, arith}
use Rattle.std.specs.List.{slice_get}
use Rattle.std.specs.Option.{option_map}
use Rattle.std.proofs.lemmas.List.{ext_get_or}
use Rattle.std.proofs.lemmas.Option.{slice_get_within, get_or_from_slice_get}
use Rattle.ks_base.specs.declared.places.Range.{Range}
use Rattle.image_memory.specs.declared.types.Kind.{Kind}
use Rattle.image_memory.specs.declared.types.Kind.TheVariants.{Code, ReadOnly, Writable}
use Rattle.image_memory.specs.declared.types.Piece.{Piece}
use Rattle.image_memory.specs.Ranges.{lies_in, are_same}
use Rattle.image_memory.specs.Contents.{Contents, IsValid, piece_range, holding}
use Rattle.image_memory.specs.Access.{first_fault, read_fault, write_fault, unreadable, unwritable, kind_of, bytes_at}
use Rattle.image_memory.specs.Access.{byte_at}
use Rattle.image_memory.specs.laws.AccessLaws.{all_good, good_at, length-bytes_at, get_or-bytes_at}
use Rattle.image_memory.specs.laws.RangeLaws.{within, found_here}
use Rattle.image_memory.specs.laws.ChangeLaws.{are_same_self}
use Rattle.image_threads.specs.Spawning.{is_writable, is_stack}
use Rattle.image_threads.specs.laws.StackLaws.{same_ends, stack_written}

readable : (kind : Option Kind) → unwritable kind ≡ None → unreadable kind ≡ None
readable None e = cc
readable (Some Code) e = cc
readable (Some ReadOnly) e = cc
readable (Some Writable) e = refl

-- the bytes of a writable piece can be read
pub piece_read : (contents : Contents) (range : Range) (n : ℕ) → IsValid contents
    → is_stack contents.pieces range ≡ true → range.low + n ≡ range.high
    → first_fault (read_fault contents.pieces) range.low n ≡ None
piece_read contents range n valid there whole =
    all_good (read_fault contents.pieces) range.low n (λ k l.
    readable (option_map kind_of (holding contents.pieces (range.low + k)))
    (good_at (write_fault contents.pieces) range.low n k (stack_written contents range n valid there whole) l))

-- it doesn't end before it begins
pub ends_in_order : (pieces : List Piece) (range : Range) → is_stack pieces range ≡ true → range.low ≤ range.high
ends_in_order [] range there = cc
ends_in_order (p ∷ ps) range there =
    elim (is_writable p.kind && are_same (piece_range p) range)
    as (λ b. (b || is_stack ps range) ≡ true → (is_writable p.kind && are_same (piece_range p) range) ≡ b
    → range.low ≤ range.high) [
      | true ↦ λ _ here.
          let s = same_ends (is_writable p.kind) p.base range.low (p.base + length p.bytes) range.high here in
          omega (arith, s.1, s.2)
      | false ↦ λ later _. ends_in_order ps range later
    ] there refl

or_later : (a b : Bool) → b ≡ true → a || b ≡ true
or_later true b e = refl
or_later false b e = e

-- a writable piece at a place is one among the pieces
pub is_there : (pieces : List Piece) (i : ℕ) (p : Piece) → slice_get pieces i ≡ Some p → is_writable p.kind ≡ true
    → is_stack pieces (piece_range p) ≡ true
is_there [] i p at writable = cc
is_there (x ∷ xs) zero p at writable =
    let e : x ≡ p = cc in
    rw (e, writable, are_same_self (piece_range p)) refl
is_there (x ∷ xs) (suc i) p at writable =
    or_later (is_writable x.kind && are_same (piece_range x) (piece_range p)) (is_stack xs (piece_range p))
    (is_there xs i p at writable)

-- all bytes of a piece are those that stand from its base on
pub whole_piece : (contents : Contents) (i : ℕ) (p : Piece) → IsValid contents → slice_get contents.pieces i ≡ Some p
    → bytes_at contents.pieces p.base (length p.bytes) ≡ p.bytes
whole_piece contents i p valid at =
    ext_get_or 0 _ _ (length-bytes_at contents.pieces p.base (length p.bytes)) (λ k l.
    let m : k < length p.bytes = rw (length-bytes_at contents.pieces p.base (length p.bytes)) at l in
    get_or-bytes_at contents.pieces p.base (length p.bytes) k m ∙ byte k m)
  where
    is : get_or contents.pieces i p ≡ p
    is = get_or_from_slice_get contents.pieces i p p at

    here : (k : ℕ) → k < length p.bytes → holding contents.pieces (p.base + k) ≡ Some p
    here k m =
        let inside : lies_in (p.base + k) (piece_range (get_or contents.pieces i p)) ≡ true =
        rw is (within (p.base + k) (piece_range p) (omega arith) (omega arith)) in
        found_here piece_range 0 contents.pieces (p.base + k) i p valid.placed.ascend
        (slice_get_within contents.pieces i p at) inside
        ∙ ap Some is

    byte : (k : ℕ) → k < length p.bytes → byte_at contents.pieces (p.base + k) ≡ get_or p.bytes k 0
    byte k m =
        let e : p.base + k - p.base ≡ k = omega arith in
        rw (here k m, e) refl

abbrev pub piece_of : Kind → ℕ → List ℕ → Piece
piece_of kind base bytes = record { kind = kind; base = base; bytes = bytes }

-- pieces of the same parts are the same
pub piece_is : (k l : Kind) (a b : ℕ) (xs ys : List ℕ) → k ≡ l → a ≡ b → xs ≡ ys
    → piece_of k a xs ≡ piece_of l b ys
piece_is k l a b xs ys same_kind same_base same_bytes = rw (same_kind, same_base, same_bytes) refl
