-- What is saved of a system's memory is what is saved of its machine's: jumps lie in code.
use Rattle.std.proofs.Common.{◌≡◌, ℕ, ◌+◌, ◌≤◌, ◌<◌, Bool, true, false, cond, List, [], ◌∷◌, length, get_or}
use Rattle.std.proofs.Common.{Some, refl, sym, ◌∙◌, ap, arith, ◌⊎◌, inl, inr}
use Rattle.std.specs.Option.{option_map}
use Rattle.std.specs.List.{All}
use Rattle.std.proofs.lemmas.List.Elements.{All-head, All-tail}
use Rattle.image_memory.specs.declared.types.Kind.{Kind}
use Rattle.image_memory.specs.declared.types.Kind.TheVariants.{Code, ReadOnly, Writable}
use Rattle.image_memory.specs.declared.types.Piece.{Piece}
use Rattle.image_memory.specs.Contents.{Contents, IsValid, piece_range, holding}
use Rattle.image_memory.specs.Access.{kind_of, overlaid_piece, written}
use Rattle.image_memory.specs.Fetch.{HasCode}
use Rattle.image_memory.specs.laws.AccessLaws.{overlaid_outside}
use Rattle.image_memory.specs.laws.RangeLaws.{within, found_here}
use Rattle.image_threads.specs.Spawning.{is_writable}
use Rattle.saved_data.specs.Saved.{writable_pieces}
use Rattle.splice_jump.specs.Jump.{jump_bytes}
use Rattle.splice_jump.specs.Jumps.{IsSpliced, AreSpliced, with_row, jumped}
use Rattle.splice_jump.specs.laws.CodeLaws.{code_kind}

-- bytes that are written past data
abbrev KeepsData : (start : ℕ) → List ℕ → List Piece → Type 0
KeepsData start bytes pieces =
    All (λ (piece : Piece). is_writable piece.kind ≡ true → overlaid_piece start bytes piece ≡ piece) pieces

inside_or_out : (start count a : ℕ) → ((start ≤ a) × (a < start + count)) ⊎ ((a < start) ⊎ (start + count ≤ a))
inside_or_out start count a = grind arith

not_both : (kind : Kind) → is_writable kind ≡ true → Some kind ≡ Some Code → ⊥
not_both Code is same = absurd cc
not_both ReadOnly is same = absurd cc
not_both Writable is same = absurd cc

-- what lies in code lies in no data
code_keeps : (contents : Contents) (start : ℕ) (bytes : List ℕ) → IsValid contents
    → HasCode contents.pieces start (length bytes) → KeepsData start bytes contents.pieces
code_keeps contents start bytes valid code i d l is =
    let piece = get_or contents.pieces i d in
    ap (λ (bs : List ℕ). let p : Piece = record piece { bytes = bs } in p)
    (overlaid_outside start bytes piece.base piece.bytes (λ j m. outside j m))
  where
    outside : (j : ℕ) → j < length (get_or contents.pieces i d).bytes
        → ((get_or contents.pieces i d).base + j < start)
        ⊎ (start + length bytes ≤ (get_or contents.pieces i d).base + j)
    outside j m =
        let piece = get_or contents.pieces i d in
        let a = piece.base + j in
        elim (inside_or_out start (length bytes) a) [
          | inl among ↦
              let here : holding contents.pieces a ≡ Some piece =
              found_here piece_range 0 contents.pieces a i d valid.placed.ascend l
              (within a (piece_range piece) (omega arith) (omega arith)) in
              absurd (not_both piece.kind is
              (sym (ap (option_map kind_of) here)
              ∙ code_kind contents start (length bytes) a valid code among.0 among.1))
          | inr out ↦ out
        ]

-- data stay where bytes are written past them, and what is saved of pieces with jumps has the jumps of what is saved
data_stay : (start : ℕ) (bytes : List ℕ) (pieces : List Piece) → KeepsData start bytes pieces
    → written start bytes (writable_pieces pieces) ≡ writable_pieces pieces
data_stay start bytes [] keeps = refl
data_stay start bytes (piece ∷ pieces) keeps =
    let P : Piece → Type 0 = λ p. is_writable p.kind ≡ true → overlaid_piece start bytes p ≡ p in
    by_kind (is_writable piece.kind) (All-head P piece pieces keeps)
    (data_stay start bytes pieces (All-tail P piece pieces keeps))
  where
    by_kind : (b : Bool) → (b ≡ true → overlaid_piece start bytes piece ≡ piece)
        → written start bytes (writable_pieces pieces) ≡ writable_pieces pieces
        → written start bytes (cond b (piece ∷ writable_pieces pieces) (writable_pieces pieces))
        ≡ cond b (piece ∷ writable_pieces pieces) (writable_pieces pieces)
    by_kind true same rest =
        ap (λ (p : Piece). p ∷ written start bytes (writable_pieces pieces)) (same refl)
        ∙ ap (λ (ps : List Piece). piece ∷ ps) rest
    by_kind false same rest = rest

data_of_written : (start : ℕ) (bytes : List ℕ) (pieces : List Piece)
    → writable_pieces (written start bytes pieces) ≡ written start bytes (writable_pieces pieces)
data_of_written start bytes [] = refl
data_of_written start bytes (piece ∷ pieces) = by_kind (is_writable piece.kind) (data_of_written start bytes pieces)
  where
    by_kind : (b : Bool) → writable_pieces (written start bytes pieces) ≡ written start bytes (writable_pieces pieces)
        → cond b (overlaid_piece start bytes piece ∷ writable_pieces (written start bytes pieces))
        (writable_pieces (written start bytes pieces))
        ≡ written start bytes (cond b (piece ∷ writable_pieces pieces) (writable_pieces pieces))
    by_kind true rest = ap (λ (ps : List Piece). overlaid_piece start bytes piece ∷ ps) rest
    by_kind false rest = rest

data_of_jumped : (rows : List (ℕ × ℕ)) (pieces : List Piece)
    → writable_pieces (jumped rows pieces) ≡ jumped rows (writable_pieces pieces)
unfolding jumped
data_of_jumped [] pieces = refl
data_of_jumped (row ∷ rows) pieces =
    data_of_jumped rows (with_row pieces row)
    ∙ ap (jumped rows) (data_of_written row.0 (jump_bytes row.0 row.1) pieces)

no_jumps : (contents : Contents) (rows : List (ℕ × ℕ)) → IsValid contents
    → All (λ (row : ℕ × ℕ). IsSpliced contents row.0) rows
    → jumped rows (writable_pieces contents.pieces) ≡ writable_pieces contents.pieces
unfolding jumped
no_jumps contents [] valid each = refl
no_jumps contents (row ∷ rows) valid each =
    let P : ℕ × ℕ → Type 0 = λ other. IsSpliced contents other.0 in
    let spliced = All-head P row rows each in
    ap (jumped rows)
    (data_stay row.0 (jump_bytes row.0 row.1) contents.pieces
    (code_keeps contents row.0 (jump_bytes row.0 row.1) valid spliced.code))
    ∙ no_jumps contents rows valid (All-tail P row rows each)

pub saved_past_jumps : (contents : Contents) (rows : List (ℕ × ℕ)) → IsValid contents → AreSpliced contents rows
    → writable_pieces (jumped rows contents.pieces) ≡ writable_pieces contents.pieces
saved_past_jumps contents rows valid spliced =
    data_of_jumped rows contents.pieces ∙ no_jumps contents rows valid spliced.each
