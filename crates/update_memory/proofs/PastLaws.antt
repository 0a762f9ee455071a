-- Pieces are added past writes over code, and an update is taken back whole.
use Rattle.std.proofs.Common.{◌≡◌, ℕ, ◌+◌, ◌-◌, ◌<◌, ◌≤◌, Bool, true, false, cond, nat_lt, List, [], ◌∷◌, ◌++◌}
use Rattle.std.proofs.Common.{map, length, get_or, refl, sym, ap, ◌∙◌, arith, inl, inr}
use Rattle.std.specs.List.{All, AllPairs}
use Rattle.std.proofs.lemmas.List.{length-map, get_or-map}
use Rattle.std.proofs.lemmas.List.Elements.{All-head, All-tail}
use Rattle.image_memory.specs.declared.types.Piece.{Piece}
use Rattle.image_memory.specs.declared.types.Fence.{Fence}
use Rattle.image_memory.specs.Ranges.{MeetsNone}
use Rattle.image_memory.specs.Contents.{Contents, IsValid, piece_range, fence_range}
use Rattle.image_memory.specs.Access.{byte_at}
use Rattle.image_memory.specs.Fetch.{HasCode}
use Rattle.image_memory.specs.Changes.{IsPlaceable, ArePlaceable, with_piece, after_add, without_ranges}
use Rattle.image_memory.specs.laws.AccessLaws.{length-bytes_at, get_or-bytes_at}
use Rattle.splice_jump.specs.Jumps.{jumped, jumped_memory, old_at, olds_at, unjumped, AreSpliced}
use Rattle.splice_jump.specs.laws.CodeLaws.{code_at, not_held_twice}
use Rattle.splice_jump.specs.laws.WriteLaws.{piece_after, unjumped-is, byte_after, Misses, Away, jumps_of, jumped_as}
use Rattle.splice_jump.specs.laws.WriteLaws.{byte_outside, byte_inside, byte_after-append, in_or_out, IsWritten}
use Rattle.splice_jump.specs.laws.WriteLaws.{written_or_not, all_outside, unjumped-append, same_left}
use Rattle.splice_jump.specs.laws.RowLaws.{writes_apart, misses_jumps}
use Rattle.update_memory.specs.Added.{AreAddable, with_pieces}
use Rattle.update_memory.specs.Retired.{AreRetirable, with_fences}
use Rattle.update_memory.specs.Withdrawn.{without_pieces, withdrawn_memory}
use Rattle.update_memory.proofs.PieceLaws.{none_added, first_added, first_clear, rest_addable, fences_stay, StayPlaced}
use Rattle.update_memory.proofs.PieceLaws.{along_pieces}
use Rattle.update_memory.proofs.FenceLaws.{pieces_stay, valid_retired}
use Rattle.update_memory.proofs.WithdrawLaws.{base_of, pieces_withdrawn, fences_withdrawn, dropped_past_olds}
use Rattle.update_memory.proofs.WithdrawLaws.{dropped_past_jumps}

-- memory with a change of its pieces
abbrev pub changed : (List Piece → List Piece) → Contents → Contents
changed change contents = record contents { pieces = change contents.pieces }

-- a change past which one piece is added where a fact holds that adding pieces keeps: all are added past it
pub added_past : StayPlaced → (change : List Piece → List Piece) → (P : Contents → Type 0)
    → ((contents : Contents) (piece : Piece) → IsValid contents
    → MeetsNone piece_range (piece_range piece) contents.pieces → P contents → P (after_add contents piece))
    → ((contents : Contents) (piece : Piece) → IsValid contents
    → MeetsNone piece_range (piece_range piece) contents.pieces → P contents
    → with_piece piece (change contents.pieces) ≡ change (with_piece piece contents.pieces))
    → (contents : Contents) (pieces : List Piece) → IsValid contents → ArePlaceable pieces
    → AreAddable contents pieces → P contents
    → (with_pieces (changed change contents) pieces).pieces ≡ change (with_pieces contents pieces).pieces
added_past stay change P keep step contents [] valid placeable can holds =
    ap (λ (m : Contents). m.pieces) (none_added (changed change contents))
    ∙ ap (λ (m : Contents). change m.pieces) (sym (none_added contents))
added_past stay change P keep step contents (piece ∷ pieces) valid placeable can holds =
    let clear = first_clear contents piece pieces can in
    let here = All-head (λ p. IsPlaceable (piece_range p)) piece pieces placeable in
    let valid_now : IsValid (after_add contents piece) =
    record { placed = stay piece contents.pieces valid.placed here clear; fenced = valid.fenced } in
    ap (λ (m : Contents). m.pieces) (first_added (changed change contents) piece pieces)
    ∙ (ap
    (λ (ps : List Piece). let m : Contents = record contents { pieces = ps } in (with_pieces m pieces).pieces)
    (step contents piece valid clear holds)
    ∙ (added_past stay change P keep step (after_add contents piece) pieces valid_now
    (All-tail (λ p. IsPlaceable (piece_range p)) piece pieces placeable) (rest_addable contents piece pieces can)
    (keep contents piece valid clear holds)
    ∙ ap (λ (m : Contents). change m.pieces) (sym (first_added contents piece pieces))))

-- a piece that no write reaches, put among pieces
put_past : (ws : List (ℕ × List ℕ)) (piece : Piece) (ps : List Piece) → piece_after ws piece ≡ piece
    → with_piece piece (map (piece_after ws) ps) ≡ map (piece_after ws) (with_piece piece ps)
put_past ws piece [] same = ap (λ (p : Piece). p ∷ []) (sym same)
put_past ws piece (p ∷ ps) same = by_order (nat_lt piece.base p.base) (put_past ws piece ps same)
  where
    by_order : (b : Bool) → with_piece piece (map (piece_after ws) ps) ≡ map (piece_after ws) (with_piece piece ps)
        → cond b (piece ∷ piece_after ws p ∷ map (piece_after ws) ps)
        (piece_after ws p ∷ with_piece piece (map (piece_after ws) ps))
        ≡ map (piece_after ws) (cond b (piece ∷ p ∷ ps) (p ∷ with_piece piece ps))
    by_order true rest = ap (λ (q : Piece). q ∷ piece_after ws p ∷ map (piece_after ws) ps) (sym same)
    by_order false rest = ap (λ (qs : List Piece). piece_after ws p ∷ qs) rest

abbrev pub OverCode : List (ℕ × List ℕ) → Contents → Type 0
OverCode olds contents = All (λ old. HasCode contents.pieces old.0 (length old.1)) olds

pub piece_past_olds : (olds : List (ℕ × List ℕ)) (contents : Contents) (piece : Piece) → IsValid contents
    → MeetsNone piece_range (piece_range piece) contents.pieces → OverCode olds contents
    → with_piece piece (unjumped olds contents.pieces) ≡ unjumped olds (with_piece piece contents.pieces)
piece_past_olds olds contents piece valid apart code =
    ap (with_piece piece) (unjumped-is olds contents.pieces)
    ∙ (put_past olds piece contents.pieces same ∙ sym (unjumped-is olds (with_piece piece contents.pieces)))
  where
    missed : (a : ℕ) → piece.base ≤ a → a < (piece_range piece).high → All (Misses a) olds
    missed a low high k d l =
        let old = get_or olds k d in
        elim (in_or_out old.0 (old.0 + length old.1) a) [
          | inr out ↦ out
          | inl among ↦
              absurd (not_held_twice contents.pieces piece a apart
              (code_at contents old.0 (length old.1) a valid (code k d l) among.0 among.1) low high)
        ]

    same : piece_after olds piece ≡ piece
    same = ap (λ (xs : List ℕ). let q : Piece = record piece { bytes = xs } in q)
        (all_outside olds piece.base piece.bytes (λ k l. missed (piece.base + k) (omega arith) (omega arith)))

-- old bytes that are put back over jumps at homes that lie apart
no_byte : (a b : ℕ) → byte_after [] a b ≡ b
unfolding byte_after
no_byte a b = refl

nothing_left : (ps : List Piece) → unjumped [] ps ≡ ps
unfolding unjumped
nothing_left ps = refl

pub put_back : (contents : Contents) (rows : List (ℕ × ℕ)) → IsValid contents
    → AllPairs Away (olds_at contents.pieces rows)
    → unjumped (olds_at contents.pieces rows) (jumped rows contents.pieces) ≡ contents.pieces
put_back contents rows valid apart =
    ap (unjumped (olds_at contents.pieces rows)) (jumped_as rows contents.pieces)
    ∙ (sym (unjumped-append (jumps_of rows) (olds_at contents.pieces rows) contents.pieces)
    ∙ (same_left (jumps_of rows ++ olds_at contents.pieces rows) [] contents.pieces valid.placed.ascend each
    ∙ nothing_left contents.pieces))
  where
    five : (row : ℕ × ℕ) → length (old_at contents.pieces row).1 ≡ 5
    five row = length-bytes_at contents.pieces row.0 5

    here : (a x : ℕ) → IsWritten (olds_at contents.pieces rows) a
        → byte_after (olds_at contents.pieces rows) a x ≡ byte_at contents.pieces a
    here a x at =
        let r : ℕ × ℕ = (0, 0) in
        let l : at.index < length rows = rw length-map at at.in_list in
        let row = get_or rows at.index r in
        let d = old_at contents.pieces r in
        let is = get_or-map (old_at contents.pieces) rows at.index r d l in
        let low : row.0 ≤ a = rw is at (at.low d) in
        let high : a < row.0 + 5 = rw (is, five row) at (at.high d) in
        let e : row.0 + (a - row.0) ≡ a = omega arith in
        let k : a - row.0 < 5 = omega arith in
        rw is at (byte_inside (olds_at contents.pieces rows) at.index d a x apart at.in_list (at.low d) (at.high d))
        ∙ rw e at (get_or-bytes_at contents.pieces row.0 5 (a - row.0) k)

    missed : (a : ℕ) → All (Misses a) (olds_at contents.pieces rows) → All (Misses a) (jumps_of rows)
    missed a out = misses_jumps rows a (λ i d l.
        let m : i < length (olds_at contents.pieces rows) = rw length-map l in
        rw (get_or-map (old_at contents.pieces) rows i d (old_at contents.pieces d) l, five (get_or rows i d))
        at (out i (old_at contents.pieces d) m))

    each : (a : ℕ)
        → byte_after (jumps_of rows ++ olds_at contents.pieces rows) a (byte_at contents.pieces a)
        ≡ byte_after [] a (byte_at contents.pieces a)
    each a =
        let b = byte_at contents.pieces a in
        byte_after-append (jumps_of rows) (olds_at contents.pieces rows) a b
        ∙ (elim (written_or_not (olds_at contents.pieces rows) a)
        as (λ _. byte_after (olds_at contents.pieces rows) a (byte_after (jumps_of rows) a b) ≡ b) [
          | inl at ↦ here a (byte_after (jumps_of rows) a b) at
          | inr out ↦
              byte_outside (olds_at contents.pieces rows) a (byte_after (jumps_of rows) a b) out
              ∙ byte_outside (jumps_of rows) a b (missed a out)
        ] ∙ sym (no_byte a b))

pub update_withdrawn : StayPlaced → (contents : Contents) (pieces : List Piece) (fences : List Fence)
    (rows : List (ℕ × ℕ)) (olds : List (ℕ × List ℕ))
    → IsValid contents → ArePlaceable pieces → AreAddable contents pieces → AreRetirable contents fences
    → AreSpliced (with_fences (with_pieces contents pieces) fences) rows → olds ≡ olds_at contents.pieces rows
    → withdrawn_memory (map base_of pieces) (map fence_range fences) olds
    (jumped_memory rows (with_fences (with_pieces contents pieces) fences))
    ≡ contents
unfolding withdrawn_memory
update_withdrawn stay contents pieces fences rows olds valid placeable can retirable spliced is =
    both pieces_back fences_back
  where
    with : Contents
    with = with_pieces contents pieces

    bases : List ℕ
    bases = map base_of pieces

    valid_with : IsValid (with_pieces contents pieces)
    valid_with =
        (along_pieces stay (λ _. Unit {0}) (λ m piece whole apart at. tt) contents pieces valid placeable can tt).0

    same_fences : (with_pieces contents pieces).fences ≡ contents.fences
    same_fences = fences_stay contents pieces

    retirable_with : AreRetirable (with_pieces contents pieces) fences
    retirable_with = record {
      full = retirable.full;
      apart = retirable.apart;
      clear = λ k d l. rw same_fences (retirable.clear k d l);
    }

    apart : AllPairs Away (olds_at contents.pieces rows)
    apart = writes_apart (with_fences (with_pieces contents pieces) fences) rows (old_at contents.pieces)
        (valid_retired (with_pieces contents pieces) fences valid_with retirable_with) spliced (λ row. refl)
        (λ row. length-bytes_at contents.pieces row.0 5)

    pieces_back : without_pieces (map base_of pieces)
        (unjumped olds (jumped rows (with_fences (with_pieces contents pieces) fences).pieces))
        ≡ contents.pieces
    pieces_back =
        ap (λ (ps : List Piece). without_pieces (map base_of pieces) (unjumped olds (jumped rows ps)))
        (pieces_stay (with_pieces contents pieces) fences)
        ∙ (dropped_past_olds (map base_of pieces) olds (jumped rows (with_pieces contents pieces).pieces)
        ∙ (ap (unjumped olds) (dropped_past_jumps (map base_of pieces) rows (with_pieces contents pieces).pieces
        ∙ ap (jumped rows) (pieces_withdrawn contents pieces valid placeable can))
        ∙ (ap (λ (os : List (ℕ × List ℕ)). unjumped os (jumped rows contents.pieces)) is
        ∙ put_back contents rows valid apart)))

    fences_back : without_ranges (map fence_range fences) (with_fences (with_pieces contents pieces) fences).fences
        ≡ contents.fences
    fences_back = fences_withdrawn (with_pieces contents pieces) fences valid_with retirable_with ∙ same_fences

    both : {ps : List Piece} {fs : List Fence} → ps ≡ contents.pieces → fs ≡ contents.fences
        → (let m : Contents = record { pieces = ps; fences = fs } in m) ≡ contents
    both {ps} {fs} p f =
        ap (λ (xs : List Piece). let m : Contents = record { pieces = xs; fences = fs } in m) p
        ∙ ap (λ (xs : List Fence). let m : Contents = record { pieces = contents.pieces; fences = xs } in m) f
