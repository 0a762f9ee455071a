-- Pieces that are gone through one after another.
use Rattle.std.proofs.Common.{◌≡◌, ℕ, zero, suc, ◌+◌, ◌-◌, ◌++◌, ◌≤◌, true, false, cond, List, [], ◌∷◌, length, drop}
use Rattle.std.proofs.Common.{Option, Some, None, refl, sym, ◌∙◌, ap, subst, arith}
use Rattle.std.specs.List.{slice_get, All}
use Rattle.std.specs.Option.{option_map}
use Rattle.std.proofs.lemmas.List.{append-nil, append_assoc, drop_all}
use Rattle.std.proofs.lemmas.List.Elements.{All-head, All-tail}
use Rattle.ks_base.specs.declared.places.Range.{Range}
use Rattle.image_memory.specs.declared.types.Kind.{Kind}
use Rattle.image_memory.specs.declared.types.Piece.{Piece}
use Rattle.image_memory.specs.Ranges.{Ascends}
use Rattle.image_memory.specs.Contents.{Contents, IsValid, piece_range, shape_of}
use Rattle.image_threads.specs.Spawning.{is_writable, is_stack}
use Rattle.image_memory.specs.Access.{bytes_at}
use Rattle.saved_data.specs.Saved.{writable_pieces}
use Rattle.saved_data.proofs.ReadLaws.{piece_of, piece_is, whole_piece, is_there}

-- the piece that has a shape
pub record HasShape (o : Option Piece) (kind : Kind) (range : Range) : Type 0 where
  pub piece : Piece
  pub there : o ≡ Some piece
  pub shape : shape_of piece ≡ (kind, range)

pub shaped : (o : Option Piece) (kind : Kind) (range : Range) → option_map shape_of o ≡ Some (kind, range)
    → HasShape o kind range
shaped None kind range e = cc
shaped (Some p) kind range e = record { piece = p; there = refl; shape = cc }

pub none_shaped : (o : Option Piece) → option_map shape_of o ≡ None → o ≡ None
none_shaped None e = refl
none_shaped (Some p) e = cc

-- the writable pieces from a place on: the one there, if it is writable, and those behind it
pub saved_from : (pieces : List Piece) (i : ℕ) (p : Piece) → slice_get pieces i ≡ Some p
    → writable_pieces (drop i pieces)
    ≡ cond (is_writable p.kind) (p ∷ writable_pieces (drop (suc i) pieces)) (writable_pieces (drop (suc i) pieces))
saved_from [] i p at = cc
saved_from (x ∷ xs) zero p at = let e : x ≡ p = cc in rw (← e) refl
saved_from (x ∷ xs) (suc i) p at = saved_from xs i p at

-- nothing is behind the end
pub none_behind : (pieces : List Piece) (i : ℕ) → slice_get pieces i ≡ None → drop i pieces ≡ []
none_behind [] zero at = refl
none_behind [] (suc i) at = refl
none_behind (x ∷ xs) zero at = cc
none_behind (x ∷ xs) (suc i) at = none_behind xs i at

-- pieces that aren't empty are no more than there are addresses
few : (floor : ℕ) (pieces : List Piece) → Ascends piece_range floor pieces
    → All (λ piece. (piece_range piece).high ≤ 0xFFFF_0000) pieces → floor ≤ 0xFFFF_0000
    → floor + length pieces ≤ 0xFFFF_0000
few floor [] up ends low = omega arith
few floor (p ∷ ps) up ends low =
    let above = up.0 in
    let full = up.1 in
    let high : (piece_range p).high ≤ 0xFFFF_0000 =
    All-head (λ (q : Piece). (piece_range q).high ≤ 0xFFFF_0000) p ps ends in
    let rest = few (piece_range p).high ps up.2
    (All-tail (λ (q : Piece). (piece_range q).high ≤ 0xFFFF_0000) p ps ends) high in
    omega arith

pub all_passed : (contents : Contents) (i : ℕ) → IsValid contents → 0xFFFF_FFFF ≤ i → drop i contents.pieces ≡ []
all_passed contents i valid le =
    let short = few 0 contents.pieces valid.placed.ascend valid.placed.end_below (omega arith) in
    drop_all i contents.pieces (omega arith)

-- the piece at a place is the one that is read there
read_there : (contents : Contents) (i : ℕ) (kind : Kind) (range : Range) (bytes : List ℕ) → IsValid contents
    → (at : HasShape (slice_get contents.pieces i) kind range)
    → bytes ≡ bytes_at contents.pieces range.low (range.high - range.low) → piece_of kind range.low bytes ≡ at.piece
read_there contents i kind range bytes valid at read =
    let p = at.piece in
    let kinds : kind ≡ p.kind = sym (ap (λ (s : Kind × Range). s.0) at.shape) in
    let lows : range.low ≡ p.base = sym (ap (λ (s : Kind × Range). s.1.low) at.shape) in
    let highs : range.high ≡ p.base + length p.bytes = sym (ap (λ (s : Kind × Range). s.1.high) at.shape) in
    let count : range.high - range.low ≡ length p.bytes = omega (arith, lows, highs) in
    let same : bytes ≡ p.bytes = read ∙ rw (lows, rw lows at count) (whole_piece contents i p valid at.there) in
    piece_is kind p.kind range.low p.base bytes p.bytes kinds lows same

-- a writable piece at a place is one among the pieces
pub stack_there : (pieces : List Piece) (i : ℕ) (kind : Kind) (range : Range)
    → option_map shape_of (slice_get pieces i) ≡ Some (kind, range) → is_writable kind ≡ true
    → is_stack pieces range ≡ true
stack_there pieces i kind range shape writable =
    let at = shaped (slice_get pieces i) kind range shape in
    let kinds : is_writable at.piece.kind ≡ true =
    ap (λ (s : Kind × Range). is_writable s.0) at.shape ∙ writable in
    let ranges : piece_range at.piece ≡ range = ap (λ (s : Kind × Range). s.1) at.shape in
    subst (λ (r : Range). is_stack pieces r ≡ true) ranges (is_there pieces i at.piece at.there kinds)

-- one more writable piece was saved, and one that isn't writable was passed
pub saved_next : (contents : Contents) (i : ℕ) (kind : Kind) (range : Range) (bytes : List ℕ) (saved all : List Piece)
    → IsValid contents → option_map shape_of (slice_get contents.pieces i) ≡ Some (kind, range)
    → is_writable kind ≡ true → bytes ≡ bytes_at contents.pieces range.low (range.high - range.low)
    → saved ++ writable_pieces (drop i contents.pieces) ≡ all
    → (saved ++ piece_of kind range.low bytes ∷ []) ++ writable_pieces (drop (i + 1) contents.pieces) ≡ all
saved_next contents i kind range bytes saved all valid shape writable read before =
    let at = shaped (slice_get contents.pieces i) kind range shape in
    let kinds : is_writable at.piece.kind ≡ true =
    ap (λ (s : Kind × Range). is_writable s.0) at.shape ∙ writable in
    let one : i + 1 ≡ suc i = omega arith in
    let from : writable_pieces (drop i contents.pieces) ≡ at.piece ∷ writable_pieces (drop (suc i) contents.pieces) =
    saved_from contents.pieces i at.piece at.there ∙ rw kinds refl in
    rw (one, read_there contents i kind range bytes valid at read)
    (append_assoc saved (at.piece ∷ []) (writable_pieces (drop (suc i) contents.pieces))
    ∙ ap (λ (l : List Piece). saved ++ l) (sym from) ∙ before)

pub passed_next : (pieces : List Piece) (i : ℕ) (kind : Kind) (range : Range) (saved all : List Piece)
    → option_map shape_of (slice_get pieces i) ≡ Some (kind, range) → is_writable kind ≡ false
    → saved ++ writable_pieces (drop i pieces) ≡ all → saved ++ writable_pieces (drop (i + 1) pieces) ≡ all
passed_next pieces i kind range saved all shape unwritable before =
    let at = shaped (slice_get pieces i) kind range shape in
    let kinds : is_writable at.piece.kind ≡ false =
    ap (λ (s : Kind × Range). is_writable s.0) at.shape ∙ unwritable in
    let one : i + 1 ≡ suc i = omega arith in
    let from : writable_pieces (drop i pieces) ≡ writable_pieces (drop (suc i) pieces) =
    saved_from pieces i at.piece at.there ∙ rw kinds refl in
    ap (λ (n : ℕ). saved ++ writable_pieces (drop n pieces)) one ∙ ap (λ (l : List Piece). saved ++ l) (sym from) ∙ before

-- all pieces were gone through
pub all_saved : (pieces saved all : List Piece) (i : ℕ) → drop i pieces ≡ []
    → saved ++ writable_pieces (drop i pieces) ≡ all → saved ≡ all
all_saved pieces saved all i past before =
    sym (append-nil saved) ∙ ap (λ (l : List Piece). saved ++ writable_pieces l) (sym past) ∙ before
