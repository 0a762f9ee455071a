-- How memory with jumps changes: pieces come and go, jumps are replaced and taken back.
use Rattle.std.proofs.Common.{◌≡◌, ℕ, ◌+◌, ◌-◌, ◌≤◌, ◌<◌, Bool, true, false, cond, not, ◌==◌}
use Rattle.std.proofs.Common.{List, [], ◌∷◌, ◌++◌, map, length, get_or, nat_lt}
use Rattle.std.proofs.Common.{refl, sym, ap, ◌∙◌, arith, ◌⊎◌, inl, inr}
use Rattle.std.specs.List.{All, Any, AllPairs}
use Rattle.std.proofs.lemmas.Bool.Decides.{nat_tests}
use Rattle.std.proofs.lemmas.Grind.{fold-append}
use Rattle.std.proofs.lemmas.List.{length-map, get_or-map, length-append, get_or_append_left, get_or_at}
use Rattle.image_memory.specs.declared.types.Piece.{Piece}
use Rattle.image_memory.specs.Ranges.{MeetsNone}
use Rattle.image_memory.specs.Contents.{Contents, IsValid, piece_range}
use Rattle.image_memory.specs.Access.{new_byte, byte_at}
use Rattle.image_memory.specs.Changes.{with_piece, without_piece}
use Rattle.image_memory.specs.laws.AccessLaws.{length-bytes_at, get_or-bytes_at, new_inside, new_outside}
use Rattle.splice_jump.specs.Jump.{jump_bytes, five_at, with_jump, with_old}
use Rattle.splice_jump.specs.Jumps.{with_row, jumped, row_with, with_base, old_at, olds_at, unjumped, AreSpliced}
use Rattle.splice_jump.specs.laws.CodeLaws.{not_held_twice, code_at}
use Rattle.splice_jump.specs.laws.WriteLaws.{byte_after, piece_after, Misses, Away, jump_of, jumps_of, jumped-is, jumped_as}
use Rattle.splice_jump.specs.laws.WriteLaws.{byte_outside, byte_inside, byte_after-append, in_or_out, IsWritten}
use Rattle.splice_jump.specs.laws.WriteLaws.{written_or_not, all_outside, unjumped-append, same_left}
use Rattle.splice_jump.specs.laws.RowLaws.{writes_apart, misses_jumps}
use Rattle.splice_jump.proofs.RowLaws.{homes_apart}
use Rattle.splice_jump.proofs.DataLaws.{last_write, last_byte}

-- a piece that no write reaches, put among pieces and taken out
put_after : (ws : List (ℕ × List ℕ)) (piece : Piece) (ps : List Piece) → piece_after ws piece ≡ piece
    → with_piece piece (map (piece_after ws) ps) ≡ map (piece_after ws) (with_piece piece ps)
put_after ws piece [] same = ap (λ (p : Piece). p ∷ []) (sym same)
put_after ws piece (p ∷ ps) same =
    by_order (nat_lt piece.base p.base) (put_after ws piece ps same)
  where
    by_order : (b : Bool) → with_piece piece (map (piece_after ws) ps) ≡ map (piece_after ws) (with_piece piece ps)
        → cond b (piece ∷ piece_after ws p ∷ map (piece_after ws) ps)
        (piece_after ws p ∷ with_piece piece (map (piece_after ws) ps))
        ≡ map (piece_after ws) (cond b (piece ∷ p ∷ ps) (p ∷ with_piece piece ps))
    by_order true rest = ap (λ (q : Piece). q ∷ piece_after ws p ∷ map (piece_after ws) ps) (sym same)
    by_order false rest = ap (λ (qs : List Piece). piece_after ws p ∷ qs) rest

dropped_after : (ws : List (ℕ × List ℕ)) (base : ℕ) (ps : List Piece)
    → without_piece base (map (piece_after ws) ps) ≡ map (piece_after ws) (without_piece base ps)
dropped_after ws base [] = refl
dropped_after ws base (p ∷ ps) = by_base (not (p.base == base)) (dropped_after ws base ps)
  where
    by_base : (b : Bool) → without_piece base (map (piece_after ws) ps) ≡ map (piece_after ws) (without_piece base ps)
        → cond b (piece_after ws p ∷ without_piece base (map (piece_after ws) ps))
        (without_piece base (map (piece_after ws) ps))
        ≡ map (piece_after ws) (cond b (p ∷ without_piece base ps) (without_piece base ps))
    by_base true rest = ap (λ (qs : List Piece). piece_after ws p ∷ qs) rest
    by_base false rest = rest

pub misses_piece : (contents : Contents) (rows : List (ℕ × ℕ)) (piece : Piece) (a : ℕ) → IsValid contents
    → AreSpliced contents rows
    → MeetsNone piece_range (piece_range piece) contents.pieces → piece.base ≤ a → a < (piece_range piece).high
    → All (Misses a) (jumps_of rows)
misses_piece contents rows piece a valid spliced apart low high = misses_jumps rows a each
  where
    each : All (λ row. (a < row.0) ⊎ (row.0 + 5 ≤ a)) rows
    each i d l = elim (in_or_out (get_or rows i d).0 ((get_or rows i d).0 + 5) a) [
      | inr out ↦ out
      | inl among ↦
          absurd (not_held_twice contents.pieces piece a apart
          (code_at contents (get_or rows i d).0 5 a valid (spliced.each i d l).code among.0 among.1) low high)
    ]

pub piece_added : (contents : Contents) (rows : List (ℕ × ℕ)) (piece : Piece) → IsValid contents
    → AreSpliced contents rows
    → MeetsNone piece_range (piece_range piece) contents.pieces
    → with_piece piece (jumped rows contents.pieces) ≡ jumped rows (with_piece piece contents.pieces)
piece_added contents rows piece valid spliced apart =
    ap (with_piece piece) (jumped-is rows contents.pieces)
    ∙ (put_after (jumps_of rows) piece contents.pieces same ∙ sym (jumped-is rows (with_piece piece contents.pieces)))
  where
    same : piece_after (jumps_of rows) piece ≡ piece
    same = ap (λ (xs : List ℕ). let q : Piece = record piece { bytes = xs } in q)
        (all_outside (jumps_of rows) piece.base piece.bytes
        (λ k l. misses_piece contents rows piece (piece.base + k) valid spliced apart (omega arith) (omega arith)))

pub piece_dropped : (rows : List (ℕ × ℕ)) (base : ℕ) (ps : List Piece)
    → without_piece base (jumped rows ps) ≡ jumped rows (without_piece base ps)
piece_dropped rows base ps =
    ap (without_piece base) (jumped-is rows ps)
    ∙ (dropped_after (jumps_of rows) base ps ∙ sym (jumped-is rows (without_piece base ps)))

-- a row more
pub row_appended : (rows : List (ℕ × ℕ)) (home base : ℕ) (ps : List Piece)
    → jumped (rows ++ (home, base) ∷ []) ps ≡ with_jump home base (jumped rows ps)
unfolding jumped
row_appended rows home base ps = fold-append with_row ps rows ((home, base) ∷ [])

-- another base at a home
same_elsewhere : (rows : List (ℕ × ℕ)) (home base a b : ℕ) → (a < home) ⊎ (home + 5 ≤ a)
    → byte_after (jumps_of rows) a b ≡ byte_after (jumps_of (with_base home base rows)) a b
unfolding byte_after
same_elsewhere [] home base a b out = refl
same_elsewhere (row ∷ rows) home base a b out =
    ap (byte_after (jumps_of rows) a) (by_home (row.0 == home) refl)
    ∙ (let next = row_with home base row in
    same_elsewhere rows home base a (new_byte next.0 (jump_bytes next.0 next.1) a b) out)
  where
    homes : row.0 == home ≡ true → row.0 ≡ home
    homes is = grind (arith, nat_tests)

    by_home : (c : Bool) → row.0 == home ≡ c
        → new_byte row.0 (jump_bytes row.0 row.1) a b
        ≡ new_byte (cond c (home, base) row).0 (jump_bytes (cond c (home, base) row).0 (cond c (home, base) row).1) a b
    by_home true is =
        let e = homes is in
        let misses : (a < row.0) ⊎ (row.0 + 5 ≤ a) = rw e out in
        new_outside row.0 (jump_bytes row.0 row.1) a b misses ∙ sym (new_outside home (jump_bytes home base) a b out)
    by_home false is = refl

row_with_home : (home base : ℕ) (row : ℕ × ℕ) → (row_with home base row).0 ≡ row.0
row_with_home home base row = by_home (row.0 == home) refl
  where
    by_home : (c : Bool) → row.0 == home ≡ c → (cond c (home, base) row).0 ≡ row.0
    by_home true is = grind (arith, nat_tests)
    by_home false is = refl

row_with_same : (home base : ℕ) (row : ℕ × ℕ) → row.0 ≡ home → row_with home base row ≡ (home, base)
row_with_same home base row is = let same : row.0 == home ≡ true = grind (arith, nat_tests) in rw same refl

pub spliced_with_base : (contents : Contents) (rows : List (ℕ × ℕ)) (home base : ℕ) → AreSpliced contents rows
    → AreSpliced contents (with_base home base rows)
spliced_with_base contents rows home base spliced = record {
  each = λ i d l.
      let m : i < length rows = rw length-map at l in
      rw (get_or-map (row_with home base) rows i d d m, row_with_home home base (get_or rows i d)) (spliced.each i d m);
  once = λ i j d first l.
      let m : j < length rows = rw length-map at l in
      let n : i < length rows = omega arith in
      rw (
        get_or-map (row_with home base) rows i d d n,
        get_or-map (row_with home base) rows j d d m,
        row_with_home home base (get_or rows i d),
        row_with_home home base (get_or rows j d),
      )
      (spliced.once i j d first m);
}

pub base_exchanged : (contents : Contents) (rows : List (ℕ × ℕ)) (home base : ℕ) → IsValid contents
    → AreSpliced contents rows
    → Any (λ row. row.0 ≡ home) rows
    → with_jump home base (jumped rows contents.pieces) ≡ jumped (with_base home base rows) contents.pieces
base_exchanged contents rows home base valid spliced at =
    ap (with_jump home base) (jumped_as rows contents.pieces)
    ∙ (last_write (jump_of (home, base)) (jumps_of rows) contents.pieces
    ∙ (same_left (jumps_of rows ++ jump_of (home, base) ∷ []) (jumps_of (with_base home base rows)) contents.pieces
    valid.placed.ascend (λ a. each a (byte_at contents.pieces a))
    ∙ sym (jumped_as (with_base home base rows) contents.pieces)))
  where
    m : at.0 < length (jumps_of (with_base home base rows))
    m = rw (length-map, length-map) at.2

    there : (d : ℕ × List ℕ) → get_or (jumps_of (with_base home base rows)) at.0 d ≡ jump_of (home, base)
    there d =
        let l = at.2 in
        let n : at.0 < length (with_base home base rows) = rw length-map l in
        let r : row_with home base (get_or rows at.0 at.1) ≡ (home, base) =
        rw at.3 (row_with_same home base at.1 at.4) in
        get_or-map jump_of (with_base home base rows) at.0 at.1 d n
        ∙ ap jump_of (get_or-map (row_with home base) rows at.0 at.1 at.1 l ∙ r)

    each : (a b : ℕ)
        → byte_after (jumps_of rows ++ jump_of (home, base) ∷ []) a b
        ≡ byte_after (jumps_of (with_base home base rows)) a b
    each a b = elim (in_or_out home (home + 5) a) [
      | inl here ↦
          let w = jump_of (home, base) in
          let e = there w in
          last_byte w (jumps_of rows) a b
          ∙ (new_inside home (jump_bytes home base) a (byte_after (jumps_of rows) a b) here.0 here.1
          ∙ sym (rw e at (byte_inside (jumps_of (with_base home base rows)) at.0 w a b
          (homes_apart contents (with_base home base rows) valid (spliced_with_base contents rows home base spliced)) m
          (rw e here.0) (rw e here.1))))
      | inr out ↦
          last_byte (jump_of (home, base)) (jumps_of rows) a b
          ∙ (new_outside home (jump_bytes home base) a (byte_after (jumps_of rows) a b) out
          ∙ same_elsewhere rows home base a b out)
    ]

-- a row fewer
misses_others : (contents : Contents) (rows : List (ℕ × ℕ)) (home base a : ℕ) → IsValid contents
    → AreSpliced contents (rows ++ (home, base) ∷ []) → home ≤ a → a < home + 5 → All (Misses a) (jumps_of rows)
misses_others contents rows home base a valid spliced low high i d l =
    let m : i < length rows = rw length-map at l in
    let e : ℕ × ℕ = (home, base) in
    let long = length-append rows (e ∷ []) in
    let one = get_or_append_left rows (e ∷ []) e i m in
    let last = get_or_at rows e [] e (length rows) refl in
    let n : length rows < length (map jump_of (rows ++ e ∷ [])) = rw length-map (rw long (omega arith)) in
    let o : i < length (rows ++ e ∷ []) = rw long (omega arith) in
    let q : length rows < length (rows ++ e ∷ []) = rw long (omega arith) in
    let away = homes_apart contents (rows ++ e ∷ []) valid spliced i (length rows) d m n in
    let apart =
    rw (get_or-map jump_of (rows ++ e ∷ []) i e d o, get_or-map jump_of (rows ++ e ∷ []) (length rows) e d q, one, last)
    at away in
    rw (get_or-map jump_of rows i e d m)
    (elim apart [ inl before ↦ inr (omega arith) | inr behind ↦ inl (omega arith) ])

pub jump_taken_back : (contents : Contents) (rows : List (ℕ × ℕ)) (home base : ℕ) → IsValid contents
    → AreSpliced contents (rows ++ (home, base) ∷ [])
    → with_old home (five_at contents.pieces home) (jumped (rows ++ (home, base) ∷ []) contents.pieces)
    ≡ jumped rows contents.pieces
jump_taken_back contents rows home base valid spliced =
    ap (with_old home (five_at contents.pieces home)) (row_appended rows home base contents.pieces
    ∙ (ap (with_jump home base) (jumped_as rows contents.pieces)
    ∙ last_write (jump_of (home, base)) (jumps_of rows) contents.pieces))
    ∙ (last_write (old_at contents.pieces (home, base)) (jumps_of rows ++ jump_of (home, base) ∷ []) contents.pieces
    ∙ (same_left ((jumps_of rows ++ jump_of (home, base) ∷ []) ++ old_at contents.pieces (home, base) ∷ [])
    (jumps_of rows) contents.pieces valid.placed.ascend each ∙ sym (jumped_as rows contents.pieces)))
  where
    five : length (five_at contents.pieces home) ≡ 5
    five = length-bytes_at contents.pieces home 5

    each : (a : ℕ)
        → byte_after ((jumps_of rows ++ jump_of (home, base) ∷ []) ++ old_at contents.pieces (home, base) ∷ []) a
        (byte_at contents.pieces a)
        ≡ byte_after (jumps_of rows) a (byte_at contents.pieces a)
    each a =
        let b = byte_at contents.pieces a in
        let old = five_at contents.pieces home in
        let js = jumps_of rows in
        let jump : ℕ × List ℕ = jump_of (home, base) in
        let all = js ++ jump ∷ [] in
        last_byte (old_at contents.pieces (home, base)) all a b
        ∙ elim (in_or_out home (home + 5) a) as (λ _. new_byte home old a (byte_after all a b) ≡ byte_after js a b) [
          | inl here ↦
              let high : a < home + length old = rw five here.1 in
              let e : home + (a - home) ≡ a = let low = here.0 in omega arith in
              let k : a - home < 5 = let low = here.0 in let h = here.1 in omega arith in
              new_inside home old a (byte_after all a b) here.0 high
              ∙ (rw e at (get_or-bytes_at contents.pieces home 5 (a - home) k)
              ∙ sym (byte_outside js a b (misses_others contents rows home base a valid spliced here.0 here.1)))
          | inr out ↦
              let outside : (a < home) ⊎ (home + length old ≤ a) = rw five out in
              new_outside home old a (byte_after all a b) outside
              ∙ (last_byte jump js a b ∙ new_outside home (jump_bytes home base) a (byte_after js a b) out)
        ]

-- all rows taken back
nothing_left : (ps : List Piece) → unjumped [] ps ≡ ps
unfolding unjumped
nothing_left ps = refl

no_byte : (a b : ℕ) → byte_after [] a b ≡ b
unfolding byte_after
no_byte a b = refl

pub all_taken_back : (contents : Contents) (rows : List (ℕ × ℕ)) → IsValid contents → AreSpliced contents rows
    → unjumped (olds_at contents.pieces rows) (jumped rows contents.pieces) ≡ contents.pieces
all_taken_back contents rows valid spliced =
    ap (unjumped (olds_at contents.pieces rows)) (jumped_as rows contents.pieces)
    ∙ (sym (unjumped-append (jumps_of rows) (olds_at contents.pieces rows) contents.pieces)
    ∙ (same_left (jumps_of rows ++ olds_at contents.pieces rows) [] contents.pieces valid.placed.ascend each
    ∙ nothing_left contents.pieces))
  where
    olds : List (ℕ × List ℕ)
    olds = olds_at contents.pieces rows

    five : (row : ℕ × ℕ) → length (old_at contents.pieces row).1 ≡ 5
    five row = length-bytes_at contents.pieces row.0 5

    apart : AllPairs Away (olds_at contents.pieces rows)
    apart = writes_apart contents rows (old_at contents.pieces) valid spliced (λ row. refl) five

    here : (a x : ℕ) → IsWritten (olds_at contents.pieces rows) a
        → byte_after (olds_at contents.pieces rows) a x ≡ byte_at contents.pieces a
    here a x at =
        let r : ℕ × ℕ = (0, 0) in
        let l : at.index < length rows = rw length-map at at.in_list in
        let row = get_or rows at.index r in
        let d = old_at contents.pieces r in
        let is = get_or-map (old_at contents.pieces) rows at.index r d l in
        let low : row.0 ≤ a = rw is at (at.low d) in
        let high : a < row.0 + 5 = rw (is, five row) at (at.high d) in
        let e : row.0 + (a - row.0) ≡ a = omega arith in
        let k : a - row.0 < 5 = omega arith in
        rw is at (byte_inside (olds_at contents.pieces rows) at.index d a x apart at.in_list (at.low d) (at.high d))
        ∙ rw e at (get_or-bytes_at contents.pieces row.0 5 (a - row.0) k)

    missed : (a : ℕ) → All (Misses a) (olds_at contents.pieces rows) → All (Misses a) (jumps_of rows)
    missed a out = misses_jumps rows a (λ i d l.
        let m : i < length (olds_at contents.pieces rows) = rw length-map l in
        rw (get_or-map (old_at contents.pieces) rows i d (old_at contents.pieces d) l, five (get_or rows i d))
        at (out i (old_at contents.pieces d) m))

    each : (a : ℕ)
        → byte_after (jumps_of rows ++ olds_at contents.pieces rows) a (byte_at contents.pieces a)
        ≡ byte_after [] a (byte_at contents.pieces a)
    each a =
        let b = byte_at contents.pieces a in
        byte_after-append (jumps_of rows) (olds_at contents.pieces rows) a b
        ∙ (elim (written_or_not (olds_at contents.pieces rows) a)
        as (λ _. byte_after (olds_at contents.pieces rows) a (byte_after (jumps_of rows) a b) ≡ b) [
          | inl at ↦ here a (byte_after (jumps_of rows) a b) at
          | inr out ↦
              byte_outside (olds_at contents.pieces rows) a (byte_after (jumps_of rows) a b) out
              ∙ byte_outside (jumps_of rows) a b (missed a out)
        ] ∙ sym (no_byte a b))
