-- Laws of bytes of code that lie in one piece, for the crates above: each of them is code, they end below the limit,
-- they stay code when something is written, and no other piece has them.
use Rattle.std.proofs.Common.{◌≡◌, ℕ, ◌+◌, ◌-◌, ◌≤◌, ◌<◌, Bool, true, false, List, [], length, drop, Option, Some, None}
use Rattle.std.proofs.Common.{refl, arith, get_or, ◌∷◌, map, ◌∙◌}
use Rattle.std.specs.Option.{option_map, unwrap_or}
use Rattle.std.proofs.lemmas.List.{length-drop}
use Rattle.std.proofs.lemmas.Bool.Decides.{nat_tests}
use Rattle.std.proofs.lemmas.List.Folds.{list_any_at}
use Rattle.std.specs.List.{Any}
use Rattle.ks_base.specs.declared.places.Range.{Range}
use Rattle.image_memory.specs.declared.types.Kind.{Kind}
use Rattle.image_memory.specs.declared.types.Kind.TheVariants.{Code, ReadOnly, Writable}
use Rattle.image_memory.specs.declared.types.Piece.{Piece}
use Rattle.image_memory.specs.Contents.{Contents, IsValid, piece_range, holding}
use Rattle.image_memory.specs.Fetch.{is_code, code_in, HasCode, code_from}
use Rattle.image_memory.specs.Access.{kind_of, written, after_write}
use Rattle.image_memory.specs.Ranges.{lies_in, meets, MeetsNone}
use Rattle.image_memory.specs.laws.RangeLaws.{inside, found as found_at, found_along}
use Rattle.splice_jump.specs.Jumps.{IsFenced, AreSpliced}
use Rattle.splice_jump.specs.laws.WriteLaws.{bytes_after, piece_after, length-bytes_after, unjumped-is, code_from-after}
use Rattle.splice_jump.specs.laws.WriteLaws.{one_write}

-- the piece of code that has so many bytes from an address on
pub record IsHeld (pieces : List Piece) (home count : ℕ) : Type 0 where
  pub piece : Piece
  pub found : holding pieces home ≡ Some piece
  pub code : is_code piece.kind ≡ true
  pub low : piece.base ≤ home
  pub room : home + count ≤ (piece_range piece).high

-- where there is code of so many bytes, some piece has it
pub held : (pieces : List Piece) (home count : ℕ) → 0 < count → HasCode pieces home count → IsHeld pieces home count
held pieces home count some code = each (holding pieces home) refl code
  where
    in_piece : (p : Piece) → holding pieces home ≡ Some p → (b : Bool) → is_code p.kind ≡ b
        → count ≤ length (unwrap_or (code_in home (Some p)) []) → IsHeld pieces home count
    in_piece p here true is room =
        let at = found_at (λ piece. lies_in home (piece_range piece)) pieces p here in
        let low = inside home (piece_range p) at.passes in
        let left : count ≤ length (drop (home - p.base) p.bytes) = rw is at room in
        let fits : count ≤ length p.bytes - (home - p.base) = rw length-drop at left in
        record { piece = p; found = here; code = is; low = low.0; room = omega arith }
    in_piece p here false is room =
        let none : count ≤ 0 = rw is at room in
        absurd (omega arith)

    each : (o : Option Piece) → holding pieces home ≡ o → count ≤ length (unwrap_or (code_in home o) [])
        → IsHeld pieces home count
    each None is room = absurd (omega arith)
    each (Some p) is room = in_piece p is (is_code p.kind) refl room

-- no code stands above 0xFFFF0000
pub ends_below : (contents : Contents) (home count : ℕ) → IsValid contents → 0 < count
    → HasCode contents.pieces home count
    → home + count ≤ 0xFFFF_0000
ends_below contents home count valid some code =
    let here = held contents.pieces home count some code in
    let at = found_at (λ piece. lies_in home (piece_range piece)) contents.pieces here.piece here.found in
    let high : (piece_range here.piece).high ≤ 0xFFFF_0000 =
    rw (at.at here.piece) at (valid.placed.end_below at.index here.piece at.in_list) in
    let room = here.room in
    omega arith

-- each of the bytes is code
pub code_at : (contents : Contents) (home count a : ℕ) → IsValid contents → HasCode contents.pieces home count
    → home ≤ a → a < home + count → IsHeld contents.pieces a 1
code_at contents home count a valid code low high =
    let here = held contents.pieces home count (omega arith) code in
    let base = here.low in
    let room = here.room in
    record {
      piece = here.piece;
      found =
          found_along piece_range 0 contents.pieces home a here.piece valid.placed.ascend here.found low (omega arith);
      code = here.code;
      low = omega arith;
      room = omega arith;
    }

pub only_code : (kind : Kind) → is_code kind ≡ true → kind ≡ Code
only_code Code h = refl
only_code ReadOnly h = cc
only_code Writable h = cc

-- so the piece there is one of code
pub code_kind : (contents : Contents) (home count a : ℕ) → IsValid contents → HasCode contents.pieces home count
    → home ≤ a → a < home + count → option_map kind_of (holding contents.pieces a) ≡ Some Code
code_kind contents home count a valid code low high =
    let here = code_at contents home count a valid code low high in
    rw (here.found, only_code here.piece.kind here.code) refl

-- a piece that meets none holds no byte of another
both_hold : (a : ℕ) (r s : Range) → r.low ≤ a → a < r.high → s.low ≤ a → a < s.high → meets r s ≡ true
both_hold a r s rl rh sl sh = grind (arith, nat_tests)

-- so no byte that some piece holds is one of such a piece
pub not_held_twice : (pieces : List Piece) (piece : Piece) (a : ℕ) → MeetsNone piece_range (piece_range piece) pieces
    → IsHeld pieces a 1 → piece.base ≤ a → a < (piece_range piece).high → ⊥
not_held_twice pieces piece a apart here low high =
    let at = found_at (λ p. lies_in a (piece_range p)) pieces here.piece here.found in
    let there = inside a (piece_range here.piece) at.passes in
    let met = both_hold a (piece_range piece) (piece_range here.piece) low high there.0 there.1 in
    let hit : meets (piece_range piece) (piece_range (get_or pieces at.index here.piece)) ≡ true =
    rw (at.at here.piece) met in
    let all = list_any_at (λ p. meets (piece_range piece) (piece_range p)) pieces at.index here.piece at.in_list hit in
    cc

-- homes stay spliced where their code does and their fences do
pub still_spliced : (before after : Contents) (rows : List (ℕ × ℕ)) → AreSpliced before rows
    → ((home : ℕ) → HasCode before.pieces home 5 → HasCode after.pieces home 5)
    → ((home : ℕ) → Any (IsFenced home) before.fences → Any (IsFenced home) after.fences) → AreSpliced after rows
still_spliced before after rows spliced codes fences = record {
  each = λ k d l.
      let one = spliced.each k d l in
      record { code = codes (get_or rows k d).0 one.code; fence = fences (get_or rows k d).0 one.fence };
  once = spliced.once;
}

-- code and spliced homes stay when something is written
pub code_after : (ws : List (ℕ × List ℕ)) (ps : List Piece) (home count : ℕ) → HasCode ps home count
    → HasCode (map (piece_after ws) ps) home count
code_after ws ps home count code = rw (code_from-after ws ps home) (each (code_from ps home) code)
  where
    each : (o : Option (List ℕ)) → count ≤ length (unwrap_or o [])
        → count ≤ length (unwrap_or (option_map (bytes_after ws home) o) [])
    each None room = room
    each (Some code) room = rw (length-bytes_after ws home code) room

-- and so where one write is made
pub code_written : (ps : List Piece) (start : ℕ) (bytes : List ℕ) (home count : ℕ) → HasCode ps home count
    → HasCode (written start bytes ps) home count
code_written ps start bytes home count code =
    rw (one_write start bytes ps ∙ unjumped-is ((start, bytes) ∷ []) ps)
    (code_after ((start, bytes) ∷ []) ps home count code)

-- what is code after that was code before
pub code_unwritten : (ps : List Piece) (start : ℕ) (bytes : List ℕ) (home count : ℕ)
    → HasCode (written start bytes ps) home count → HasCode ps home count
code_unwritten ps start bytes home count code =
    let ws : List (ℕ × List ℕ) = (start, bytes) ∷ [] in
    each ws (code_from ps home)
    (rw (one_write start bytes ps ∙ unjumped-is ws ps, code_from-after ws ps home) at code)
  where
    each : (ws : List (ℕ × List ℕ)) (o : Option (List ℕ)) → count ≤ length (unwrap_or (option_map (bytes_after ws home) o) [])
        → count ≤ length (unwrap_or o [])
    each ws None room = room
    each ws (Some code) room = rw (length-bytes_after ws home code) at room

-- homes stay spliced then
pub spliced_written : (contents : Contents) (rows : List (ℕ × ℕ)) (start : ℕ) (bytes : List ℕ)
    → AreSpliced contents rows
    → AreSpliced (after_write contents start bytes) rows
spliced_written contents rows start bytes spliced =
    still_spliced contents (after_write contents start bytes) rows spliced
    (λ home code. code_written contents.pieces start bytes home 5 code) (λ home fence. fence)
