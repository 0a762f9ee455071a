-- What stays true of memory with jumps: it is a memory, and its homes stay spliced while it changes.
use Rattle.std.proofs.Common.{◌≡◌, ◌≢◌, ℕ, zero, suc, ◌+◌, ◌≤◌, ◌<◌, Bool, true, false, cond}
use Rattle.std.proofs.Common.{List, [], ◌∷◌, ◌++◌, map, length, get_or, nat_lt}
use Rattle.std.proofs.Common.{Option, refl, ap, ◌∙◌, arith, inl, inr}
use Rattle.std.specs.Option.{option_map, unwrap_or}
use Rattle.std.specs.List.{All, Any}
use Rattle.std.proofs.lemmas.List.{length-map, get_or-map, length-append, get_or_append_left}
use Rattle.std.proofs.lemmas.List.Elements.{All-push}
use Rattle.std.proofs.lemmas.List.Quantifiers.{all_pairs_push}
use Rattle.image_memory.specs.declared.types.Fence.{Fence}
use Rattle.image_memory.specs.declared.types.Piece.{Piece}
use Rattle.image_memory.specs.Ranges.{lies_in, MeetsNone, Ascends}
use Rattle.image_memory.specs.Contents.{Contents, ArePlaced, IsValid, piece_range, holding, byte_in}
use Rattle.image_memory.specs.Access.{byte_at, bytes_at}
use Rattle.image_memory.specs.Fetch.{HasCode}
use Rattle.image_memory.specs.Changes.{with_piece, with_fence, after_add, after_fence}
use Rattle.image_memory.specs.laws.RangeLaws.{above, below}
use Rattle.splice_jump.specs.Jumps.{jumped_memory, IsFenced, IsSpliced, AreSpliced}
use Rattle.splice_jump.specs.laws.CodeLaws.{still_spliced, code_after, code_at, not_held_twice}
use Rattle.splice_jump.specs.laws.WriteLaws.{piece_after, length-bytes_after, jumps_of, jumped-is, in_or_out}

-- pieces stay in their places
Ascends-after : (ws : List (ℕ × List ℕ)) (floor : ℕ) (ps : List Piece) → Ascends piece_range floor ps
    → Ascends piece_range floor (map (piece_after ws) ps)
Ascends-after ws floor [] up = tt
Ascends-after ws floor (p ∷ ps) up =
    rw (length-bytes_after ws p.base p.bytes) (up.0, up.1, Ascends-after ws (piece_range p).high ps up.2)

placed_after : (ws : List (ℕ × List ℕ)) (ps : List Piece) → ArePlaced ps → ArePlaced (map (piece_after ws) ps)
placed_after ws ps placed = record {
  ascend = Ascends-after ws 0 ps placed.ascend;
  end_below = λ k d l.
      let m : k < length ps = rw length-map at l in
      let p = get_or ps k d in
      rw (get_or-map (piece_after ws) ps k d d m, length-bytes_after ws p.base p.bytes) (placed.end_below k d m);
}

pub valid_jumped : (contents : Contents) (rows : List (ℕ × ℕ)) → IsValid contents
    → IsValid (jumped_memory rows contents)
valid_jumped contents rows valid = record {
  placed = rw (jumped-is rows contents.pieces) (placed_after (jumps_of rows) contents.pieces valid.placed);
  fenced = valid.fenced;
}

pub spliced_jumped : (contents : Contents) (rows others : List (ℕ × ℕ)) → AreSpliced contents rows
    → AreSpliced (jumped_memory others contents) rows
spliced_jumped contents rows others spliced =
    still_spliced contents (jumped_memory others contents) rows spliced
    (λ home code. rw (jumped-is others contents.pieces) (code_after (jumps_of others) contents.pieces home 5 code))
    (λ home fence. fence)

-- a piece more holds no other addresses than its own
holding-put : (piece : Piece) (ps : List Piece) (a : ℕ) → lies_in a (piece_range piece) ≡ false
    → holding (with_piece piece ps) a ≡ holding ps a
holding-put piece [] a out = rw out refl
holding-put piece (p ∷ ps) a out = by_order (nat_lt piece.base p.base) (holding-put piece ps a out)
  where
    by_order : (b : Bool) → holding (with_piece piece ps) a ≡ holding ps a
        → holding (cond b (piece ∷ p ∷ ps) (p ∷ with_piece piece ps)) a ≡ holding (p ∷ ps) a
    by_order true rest = rw out refl
    by_order false rest = rw rest refl

-- and none where code is
not_added : (contents : Contents) (piece : Piece) (home count a : ℕ) → IsValid contents
    → MeetsNone piece_range (piece_range piece) contents.pieces → HasCode contents.pieces home count
    → home ≤ a → a < home + count → lies_in a (piece_range piece) ≡ false
not_added contents piece home count a valid apart code from to =
    elim (in_or_out piece.base (piece_range piece).high a) [
      | inr (inl low) ↦ below a (piece_range piece) low
      | inr (inr high) ↦ above a (piece_range piece) high
      | inl among ↦
          absurd (not_held_twice contents.pieces piece a apart
          (code_at contents home count a valid code from to) among.0 among.1)
    ]

pub code_added : (contents : Contents) (piece : Piece) (home count : ℕ) → IsValid contents
    → MeetsNone piece_range (piece_range piece) contents.pieces → HasCode contents.pieces home count
    → HasCode (with_piece piece contents.pieces) home count
code_added contents piece home zero valid apart code = omega arith
code_added contents piece home (suc count) valid apart code =
    rw (holding-put piece contents.pieces home
    (not_added contents piece home (suc count) home valid apart code (omega arith) (omega arith))) code

bytes_same : (ps qs : List Piece) (a n : ℕ)
    → ((b : ℕ) → a ≤ b → b < a + n → byte_at ps b ≡ byte_at qs b) → bytes_at ps a n ≡ bytes_at qs a n
unfolding bytes_at
bytes_same ps qs a zero each = refl
bytes_same ps qs a (suc n) each =
    ap (λ (b : ℕ). b ∷ bytes_at ps (a + 1) n) (each a (omega arith) (omega arith))
    ∙ ap (λ (rest : List ℕ). byte_at qs a ∷ rest)
    (bytes_same ps qs (a + 1) n (λ b low high. each b (omega arith) (omega arith)))

pub bytes_added : (contents : Contents) (piece : Piece) (home count : ℕ) → IsValid contents
    → MeetsNone piece_range (piece_range piece) contents.pieces → HasCode contents.pieces home count
    → bytes_at (with_piece piece contents.pieces) home count ≡ bytes_at contents.pieces home count
bytes_added contents piece home count valid apart code =
    bytes_same (with_piece piece contents.pieces) contents.pieces home count
    (λ b low high. ap (λ (o : Option Piece). unwrap_or (option_map (byte_in b) o) 0)
    (holding-put piece contents.pieces b (not_added contents piece home count b valid apart code low high)))

pub spliced_added : (contents : Contents) (rows : List (ℕ × ℕ)) (piece : Piece) → IsValid contents
    → AreSpliced contents rows
    → MeetsNone piece_range (piece_range piece) contents.pieces → AreSpliced (after_add contents piece) rows
spliced_added contents rows piece valid spliced apart =
    still_spliced contents (after_add contents piece) rows spliced
    (λ home code. code_added contents piece home 5 valid apart code) (λ home fence. fence)

-- a fence more
any_put : (P : Fence → Type 0) (fence : Fence) (fences : List Fence) (k : ℕ) (y : Fence) → k < length fences
    → get_or fences k y ≡ y → P y → Any P (with_fence fence fences)
any_put P fence [] k y l is h = absurd (omega arith)
any_put P fence (x ∷ xs) zero y l is h = by_order (nat_lt fence.range.low x.range.low)
  where
    by_order : (b : Bool) → Any P (cond b (fence ∷ x ∷ xs) (x ∷ with_fence fence xs))
    by_order true = (1, y, omega arith, is, h)
    by_order false = (0, y, omega arith, is, h)
any_put P fence (x ∷ xs) (suc k) y l is h =
    by_order (nat_lt fence.range.low x.range.low) (any_put P fence xs k y (omega arith) is h)
  where
    by_order : (b : Bool) → Any P (with_fence fence xs) → Any P (cond b (fence ∷ x ∷ xs) (x ∷ with_fence fence xs))
    by_order true rest = (suc (suc k), y, omega arith, is, h)
    by_order false rest = let m = rest.2 in (suc rest.0, rest.1, omega arith, rest.3, rest.4)

pub spliced_fenced : (contents : Contents) (rows : List (ℕ × ℕ)) (fence : Fence) → AreSpliced contents rows
    → AreSpliced (after_fence contents fence) rows
spliced_fenced contents rows fence spliced =
    still_spliced contents (after_fence contents fence) rows spliced (λ home code. code)
    (λ home at. any_put (IsFenced home) fence contents.fences at.0 at.1 at.2 at.3 at.4)

-- a row more and a row fewer
pub spliced_appended : (contents : Contents) (rows : List (ℕ × ℕ)) (home base : ℕ) → AreSpliced contents rows
    → IsSpliced contents home → All (λ row. row.0 ≢ home) rows → AreSpliced contents (rows ++ (home, base) ∷ [])
spliced_appended contents rows home base spliced one other = record {
  each = All-push (λ row. IsSpliced contents row.0) rows (home, base) spliced.each one;
  once = all_pairs_push (λ row next. row.0 ≢ next.0) rows (home, base) spliced.once other;
}

pub spliced_before : (contents : Contents) (rows : List (ℕ × ℕ)) (home base : ℕ)
    → AreSpliced contents (rows ++ (home, base) ∷ []) → AreSpliced contents rows
spliced_before contents rows home base spliced =
    let last : List (ℕ × ℕ) = (home, base) ∷ [] in
    let long = length-append rows last in
    record {
      each = λ k d l. rw (get_or_append_left rows last d k l) at (spliced.each k d (rw long (omega arith)));
      once = λ i j d first l.
          let m : i < length rows = omega arith in
          rw (get_or_append_left rows last d i m, get_or_append_left rows last d j l)
          at (spliced.once i j d first (rw long (omega arith)));
    }
