-- Jumps change bytes of code alone, so data are written past them.
use Rattle.std.proofs.Common.{◌≡◌, ℕ, ◌+◌, ◌-◌, ◌≤◌, ◌<◌, false, List, [], ◌∷◌, ◌++◌, map, length, get_or}
use Rattle.std.proofs.Common.{Option, Some, None, refl, sym, ap, ◌∙◌, arith, ◌⊎◌, inl, inr}
use Rattle.std.specs.Option.{option_map, unwrap_or}
use Rattle.std.specs.List.{All}
use Rattle.std.proofs.lemmas.List.Elements.{All-cons, All-head}
use Rattle.std.proofs.lemmas.Grind.{fold-append}
use Rattle.image_memory.specs.declared.types.Kind.{Kind}
use Rattle.image_memory.specs.declared.types.Kind.TheVariants.{Code, ReadOnly, Writable}
use Rattle.image_memory.specs.declared.types.Piece.{Piece}
use Rattle.image_memory.specs.Ranges.{lies_in, Ascends}
use Rattle.image_memory.specs.Contents.{Contents, IsValid, piece_range, holding, byte_in, kind_and_byte, look_at}
use Rattle.image_memory.specs.Access.{kind_of, unwritable, write_fault, first_fault, new_byte, byte_at, written}
use Rattle.image_memory.specs.Fetch.{is_code, code_in, code_from, HasCode}
use Rattle.image_memory.specs.laws.RangeLaws.{found as found_at}
use Rattle.image_memory.specs.laws.AccessLaws.{good_at, new_outside}
use Rattle.splice_jump.specs.Jump.{with_old}
use Rattle.splice_jump.specs.Jumps.{jumped, AreSpliced, with_old_row, unjumped}
use Rattle.splice_jump.specs.laws.WriteLaws.{same_left, one_write, byte_after, piece_after, Misses, length-bytes_after}
use Rattle.splice_jump.specs.laws.WriteLaws.{jumps_of, jumped-is, jumped_as, in_or_out, byte_outside, byte_after-append}
use Rattle.splice_jump.specs.laws.WriteLaws.{holding-after, byte_in_after, unjumped-is}
use Rattle.splice_jump.specs.laws.CodeLaws.{code_at}
use Rattle.splice_jump.specs.laws.RowLaws.{misses_jumps}
use Rattle.splice_jump.proofs.CodeLaws.{no_data}

-- the pieces' kinds and ranges
kinds_after : (ws : List (ℕ × List ℕ)) (ps : List Piece) → map kind_of (map (piece_after ws) ps) ≡ map kind_of ps
kinds_after ws [] = refl
kinds_after ws (p ∷ ps) = ap (λ (ks : List Kind). p.kind ∷ ks) (kinds_after ws ps)

ranges_after : (ws : List (ℕ × List ℕ)) (ps : List Piece)
    → map piece_range (map (piece_after ws) ps) ≡ map piece_range ps
ranges_after ws [] = refl
ranges_after ws (p ∷ ps) = rw (length-bytes_after ws p.base p.bytes, ranges_after ws ps) refl

pub kinds_stay : (rows : List (ℕ × ℕ)) (ps : List Piece) → map kind_of (jumped rows ps) ≡ map kind_of ps
kinds_stay rows ps = ap (map kind_of) (jumped-is rows ps) ∙ kinds_after (jumps_of rows) ps

pub ranges_stay : (rows : List (ℕ × ℕ)) (ps : List Piece) → map piece_range (jumped rows ps) ≡ map piece_range ps
ranges_stay rows ps = ap (map piece_range) (jumped-is rows ps) ∙ ranges_after (jumps_of rows) ps

-- the kind of the piece at an address
pub kind_stays : (rows : List (ℕ × ℕ)) (ps : List Piece) (a : ℕ)
    → option_map kind_of (holding (jumped rows ps) a) ≡ option_map kind_of (holding ps a)
kind_stays rows ps a = rw (jumped-is rows ps, holding-after (jumps_of rows) ps a) (each (holding ps a))
  where
    each : (o : Option Piece) → option_map kind_of (option_map (piece_after (jumps_of rows)) o) ≡ option_map kind_of o
    each None = refl
    each (Some p) = refl

-- what is seen where nothing was written
look_outside : (ws : List (ℕ × List ℕ)) (ps : List Piece) (a : ℕ) → All (Misses a) ws
    → look_at (map (piece_after ws) ps) a ≡ look_at ps a
look_outside ws ps a misses = rw (holding-after ws ps a) (each (holding ps a) refl)
  where
    each : (o : Option Piece) → holding ps a ≡ o
        → option_map (kind_and_byte a) (option_map (piece_after ws) o) ≡ option_map (kind_and_byte a) o
    each None is = refl
    each (Some p) is =
        let here = (found_at (λ piece. lies_in a (piece_range piece)) ps p is).passes in
        ap (λ (b : ℕ). let seen : Option (Kind × ℕ) = Some (p.kind, b) in seen)
        (byte_in_after ws p a here ∙ byte_outside ws a (byte_in a p) misses)

byte_outside_at : (ws : List (ℕ × List ℕ)) (ps : List Piece) (a : ℕ) → All (Misses a) ws
    → byte_at (map (piece_after ws) ps) a ≡ byte_at ps a
byte_outside_at ws ps a misses = rw (holding-after ws ps a) (each (holding ps a) refl)
  where
    each : (o : Option Piece) → holding ps a ≡ o
        → unwrap_or (option_map (byte_in a) (option_map (piece_after ws) o)) 0
        ≡ unwrap_or (option_map (byte_in a) o) 0
    each None is = refl
    each (Some p) is =
        byte_in_after ws p a (found_at (λ piece. lies_in a (piece_range piece)) ps p is).passes
        ∙ byte_outside ws a (byte_in a p) misses

pub look_stays : (rows : List (ℕ × ℕ)) (ps : List Piece) (a : ℕ) → All (λ row. (a < row.0) ⊎ (row.0 + 5 ≤ a)) rows
    → look_at (jumped rows ps) a ≡ look_at ps a
look_stays rows ps a out =
    ap (λ (qs : List Piece). look_at qs a) (jumped-is rows ps)
    ∙ look_outside (jumps_of rows) ps a (misses_jumps rows a out)

pub byte_stays : (rows : List (ℕ × ℕ)) (ps : List Piece) (a : ℕ) → All (λ row. (a < row.0) ⊎ (row.0 + 5 ≤ a)) rows
    → byte_at (jumped rows ps) a ≡ byte_at ps a
byte_stays rows ps a out =
    ap (λ (qs : List Piece). byte_at qs a) (jumped-is rows ps)
    ∙ byte_outside_at (jumps_of rows) ps a (misses_jumps rows a out)

-- no jump stands where there is no code
pub no_jump : (contents : Contents) (rows : List (ℕ × ℕ)) (a : ℕ) → IsValid contents → AreSpliced contents rows
    → code_from contents.pieces a ≡ None → All (λ row. (a < row.0) ⊎ (row.0 + 5 ≤ a)) rows
no_jump contents rows a valid spliced none i d l =
    elim (in_or_out (get_or rows i d).0 ((get_or rows i d).0 + 5) a) [
      | inr out ↦ out
      | inl among ↦
          absurd (no_data contents.pieces a
          (code_at contents (get_or rows i d).0 5 a valid (spliced.each i d l).code among.0 among.1) none)
    ]

pub data_looks_same : (contents : Contents) (rows : List (ℕ × ℕ)) (a : ℕ) → IsValid contents
    → AreSpliced contents rows
    → code_from contents.pieces a ≡ None → look_at (jumped rows contents.pieces) a ≡ look_at contents.pieces a
data_looks_same contents rows a valid spliced none =
    look_stays rows contents.pieces a (no_jump contents rows a valid spliced none)

pub data_stays : (contents : Contents) (rows : List (ℕ × ℕ)) (a : ℕ) → IsValid contents → AreSpliced contents rows
    → code_from contents.pieces a ≡ None → byte_at (jumped rows contents.pieces) a ≡ byte_at contents.pieces a
data_stays contents rows a valid spliced none =
    byte_stays rows contents.pieces a (no_jump contents rows a valid spliced none)

-- no other five bytes at a home are data either
pub data_past_five : (contents : Contents) (home : ℕ) (five : List ℕ) (a : ℕ) → IsValid contents
    → AreSpliced contents ((home, 0) ∷ []) → length five ≡ 5 → code_from contents.pieces a ≡ None
    → byte_at (with_old home five contents.pieces) a ≡ byte_at contents.pieces a
data_past_five contents home five a valid spliced is none =
    let away = All-head (λ (row : ℕ × ℕ). (a < row.0) ⊎ (row.0 + 5 ≤ a)) (home, 0) []
    (no_jump contents ((home, 0) ∷ []) a valid spliced none) in
    let out : Misses a (home, five) = rw is away in
    rw (one_write home five contents.pieces, unjumped-is ((home, five) ∷ []) contents.pieces)
    (byte_outside_at ((home, five) ∷ []) contents.pieces a
    (All-cons (Misses a) (home, five) [] out (λ i d l. absurd (omega arith))))

-- one write after or before others
pub last_write : (w : ℕ × List ℕ) (ws : List (ℕ × List ℕ)) (ps : List Piece)
    → written w.0 w.1 (unjumped ws ps) ≡ unjumped (ws ++ w ∷ []) ps
unfolding unjumped
last_write w ws ps = sym (fold-append with_old_row ps ws (w ∷ []))

first_write : (w : ℕ × List ℕ) (ws : List (ℕ × List ℕ)) (ps : List Piece)
    → unjumped ws (written w.0 w.1 ps) ≡ unjumped (w ∷ ws) ps
unfolding unjumped
first_write w ws ps = refl

pub last_byte : (w : ℕ × List ℕ) (ws : List (ℕ × List ℕ)) (a b : ℕ)
    → byte_after (ws ++ w ∷ []) a b ≡ new_byte w.0 w.1 a (byte_after ws a b)
unfolding byte_after
last_byte w ws a b = byte_after-append ws (w ∷ []) a b

first_byte : (w : ℕ × List ℕ) (ws : List (ℕ × List ℕ)) (a b : ℕ)
    → byte_after (w ∷ ws) a b ≡ byte_after ws a (new_byte w.0 w.1 a b)
unfolding byte_after
first_byte w ws a b = refl

-- a write that shares no address with others may come before them or after them
swapped : (w : ℕ × List ℕ) (ws : List (ℕ × List ℕ)) (ps : List Piece) → Ascends piece_range 0 ps
    → ((a : ℕ) → w.0 ≤ a → a < w.0 + length w.1 → All (Misses a) ws)
    → written w.0 w.1 (unjumped ws ps) ≡ unjumped ws (written w.0 w.1 ps)
swapped w ws ps up apart =
    last_write w ws ps
    ∙ (same_left (ws ++ w ∷ []) (w ∷ ws) ps up (λ a. each a (byte_at ps a)) ∙ sym (first_write w ws ps))
  where
    each : (a b : ℕ) → byte_after (ws ++ w ∷ []) a b ≡ byte_after (w ∷ ws) a b
    each a b = elim (in_or_out w.0 (w.0 + length w.1) a) [
      | inl here ↦
          let misses = apart a here.0 here.1 in
          last_byte w ws a b ∙ (ap (new_byte w.0 w.1 a) (byte_outside ws a b misses)
          ∙ (sym (byte_outside ws a (new_byte w.0 w.1 a b) misses) ∙ sym (first_byte w ws a b)))
      | inr out ↦
          last_byte w ws a b ∙ (new_outside w.0 w.1 a (byte_after ws a b) out
          ∙ (ap (byte_after ws a) (sym (new_outside w.0 w.1 a b out)) ∙ sym (first_byte w ws a b)))
    ]

-- where data can be written there is no code
not_code : (kind : Kind) → unwritable (Some kind) ≡ None → is_code kind ≡ false
not_code Code h = cc
not_code ReadOnly h = cc
not_code Writable h = refl

no_code : (a : ℕ) (o : Option Piece) → unwritable (option_map kind_of o) ≡ None → code_in a o ≡ None
no_code a None h = refl
no_code a (Some p) h = rw (not_code p.kind h) refl

pub writes_past : (contents : Contents) (rows : List (ℕ × ℕ)) (start : ℕ) (bytes : List ℕ) → IsValid contents
    → AreSpliced contents rows → first_fault (write_fault contents.pieces) start (length bytes) ≡ None
    → written start bytes (jumped rows contents.pieces) ≡ jumped rows (written start bytes contents.pieces)
writes_past contents rows start bytes valid spliced good =
    ap (written start bytes) (jumped_as rows contents.pieces)
    ∙ (swapped (start, bytes) (jumps_of rows) contents.pieces valid.placed.ascend misses
    ∙ sym (jumped_as rows (written start bytes contents.pieces)))
  where
    misses : (a : ℕ) → start ≤ a → a < start + length bytes → All (Misses a) (jumps_of rows)
    misses a low high =
        let e : start + (a - start) ≡ a = omega arith in
        let fine =
        rw e at (good_at (write_fault contents.pieces) start (length bytes) (a - start) good (omega arith)) in
        misses_jumps rows a (no_jump contents rows a valid spliced (no_code a (holding contents.pieces a) fine))

pub writes_past_old : (contents : Contents) (home start : ℕ) (old bytes : List ℕ) → IsValid contents
    → HasCode contents.pieces home (length old)
    → first_fault (write_fault contents.pieces) start (length bytes) ≡ None
    → with_old home old (written start bytes contents.pieces) ≡ written start bytes (with_old home old contents.pieces)
writes_past_old contents home start old bytes valid code good =
    one_write home old (written start bytes contents.pieces)
    ∙ (sym (swapped (start, bytes) ((home, old) ∷ []) contents.pieces valid.placed.ascend misses)
    ∙ ap (written start bytes) (sym (one_write home old contents.pieces)))
  where
    apart : (a : ℕ) → code_in a (holding contents.pieces a) ≡ None → Misses a (home, old)
    apart a none = elim (in_or_out home (home + length old) a) [
      | inr out ↦ out
      | inl among ↦
          absurd (no_data contents.pieces a
          (code_at contents home (length old) a valid code among.0 among.1) none)
    ]

    misses : (a : ℕ) → start ≤ a → a < start + length bytes → All (Misses a) ((home, old) ∷ [])
    misses a low high =
        let e : start + (a - start) ≡ a = omega arith in
        let fine =
        rw e at (good_at (write_fault contents.pieces) start (length bytes) (a - start) good (omega arith)) in
        All-cons (Misses a) (home, old) [] (apart a (no_code a (holding contents.pieces a) fine))
        (λ k d l. absurd (omega arith))
