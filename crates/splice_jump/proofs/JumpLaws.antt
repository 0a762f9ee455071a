-- What jumps leave as it was: what a thread meets, and all bytes but theirs.
use Rattle.std.proofs.Common.{◌≡◌, ◌≢◌, ℕ, zero, suc, ◌+◌, ◌-◌, ◌≤◌, ◌<◌, Bool, true, false, cond, List, [], ◌∷◌, map}
use Rattle.std.proofs.Common.{◌⊎◌, inl, inr}
use Rattle.std.proofs.Common.{length, get_or, take, Option, Some, None, refl, sym, ap, ◌∙◌, arith, nat_lt}
use Rattle.std.specs.Option.{option_map, unwrap_or}
use Rattle.std.specs.List.{find, list_any, All, AllPairs}
use Rattle.std.proofs.lemmas.List.{ext_get_or, length-map, get_or-map, length-take-le, get_or-take}
use Rattle.ks_base.specs.declared.places.Range.{Range}
use Rattle.image_memory.specs.Ranges.{lies_in}
use Rattle.image_memory.specs.Contents.{Contents, IsValid, fence_range, spliced_at}
use Rattle.image_memory.specs.Fetch.{AtHome, Stray, Bytes, code_from, cut_before, window_of, seen_in, view, view_at}
use Rattle.image_memory.specs.Fetch.{jump_at}
use Rattle.std.proofs.lemmas.List.Elements.{All-cons, All-head}
use Rattle.splice_jump.specs.Jump.{jump_bytes, with_old, after_old}
use Rattle.splice_jump.specs.Jumps.{jumped, jumped_memory, IsSpliced, AreSpliced}
use Rattle.splice_jump.specs.laws.WriteLaws.{all_outside, bytes_after, Misses, Away, length-bytes_after, get_or-bytes_after}
use Rattle.splice_jump.specs.laws.WriteLaws.{jump_of, jumps_of, jumped-is, byte_outside, byte_inside, code_from-after}
use Rattle.splice_jump.specs.laws.WriteLaws.{one_write, piece_after, unjumped-is}
use Rattle.splice_jump.specs.laws.RowLaws.{Before, two_apart}
use Rattle.splice_jump.proofs.RowLaws.{homes_apart, before_jumps}

-- code that no write reaches
take_outside : (ws : List (ℕ × List ℕ)) (n pc : ℕ) (xs : List ℕ) → ((k : ℕ) → k < n → All (Misses (pc + k)) ws)
    → take n (bytes_after ws pc xs) ≡ take n xs
unfolding bytes_after
take_outside ws zero pc xs h = refl
take_outside ws (suc n) pc [] h = refl
take_outside ws (suc n) pc (x ∷ xs) h =
    let e : pc + 0 ≡ pc = omega arith in
    let first = byte_outside ws pc x (rw e at (h 0 (omega arith))) in
    let rest = take_outside ws n (pc + 1) xs (λ k l.
    let f : pc + suc k ≡ (pc + 1) + k = omega arith in
    rw f at (h (suc k) (omega arith))) in
    rw (first, rest) refl

cut_outside : (ws : List (ℕ × List ℕ)) (pc : ℕ) (next : Option Range) (xs : List ℕ)
    → ((a : ℕ) → pc ≤ a → Before a next → All (Misses a) ws)
    → cut_before pc next (bytes_after ws pc xs) ≡ cut_before pc next xs
cut_outside ws pc None xs h = all_outside ws pc xs (λ k l. h (pc + k) (omega arith) tt)
cut_outside ws pc (Some range) xs h =
    take_outside ws (range.low - pc) pc xs (λ k l. h (pc + k) (omega arith) (omega arith))

-- what is met where no write reaches code that is met
view_after : (contents : Contents) (ws : List (ℕ × List ℕ)) (pc : ℕ)
    → (list_any (lies_in pc) (map fence_range contents.fences) ≡ false → (a : ℕ) → pc ≤ a
    → Before a (find (λ range. nat_lt pc range.low) (map fence_range contents.fences)) → All (Misses a) ws)
    → view (spliced_at contents.fences) (map fence_range contents.fences) (map (piece_after ws) contents.pieces) pc
    ≡ view_at contents pc
unfolding view
view_after contents ws pc misses =
    rw (code_from-after ws contents.pieces pc) (by_code (code_from contents.pieces pc))
  where
    by_fence : (code : List ℕ) (b : Bool) → list_any (lies_in pc) (map fence_range contents.fences) ≡ b
        → cond b Stray (Bytes (window_of (map fence_range contents.fences) pc (bytes_after ws pc code)))
        ≡ cond b Stray (Bytes (window_of (map fence_range contents.fences) pc code))
    by_fence code true is = refl
    by_fence code false is =
        ap (λ (bytes : List ℕ). Bytes (take 15 bytes))
        (cut_outside ws pc (find (λ range. nat_lt pc range.low) (map fence_range contents.fences)) code (misses is))

    by_home : (code : List ℕ) (b : Bool)
        → cond b AtHome (cond (list_any (lies_in pc) (map fence_range contents.fences)) Stray
        (Bytes (window_of (map fence_range contents.fences) pc (bytes_after ws pc code))))
        ≡ cond b AtHome (cond (list_any (lies_in pc) (map fence_range contents.fences)) Stray
        (Bytes (window_of (map fence_range contents.fences) pc code)))
    by_home code true = refl
    by_home code false = by_fence code (list_any (lies_in pc) (map fence_range contents.fences)) refl

    by_code : (code : Option (List ℕ))
        → seen_in (spliced_at contents.fences) (map fence_range contents.fences) pc
        (option_map (bytes_after ws pc) code)
        ≡ seen_in (spliced_at contents.fences) (map fence_range contents.fences) pc code
    by_code None = refl
    by_code (Some code) = by_home code (spliced_at contents.fences pc)

-- what is met past jumps
pub view_stays : (contents : Contents) (rows : List (ℕ × ℕ)) (pc : ℕ) → IsValid contents → AreSpliced contents rows
    → view_at (jumped_memory rows contents) pc ≡ view_at contents pc
view_stays contents rows pc valid spliced =
    rw (jumped-is rows contents.pieces)
    (view_after contents (jumps_of rows) pc (λ out a from before.
    before_jumps contents rows pc a valid spliced from out before))

-- A spliced home alone. Where a jump at it doesn't reach, no other five bytes there do.
pub only_home : (contents : Contents) (home : ℕ) → IsSpliced contents home → AreSpliced contents ((home, 0) ∷ [])
only_home contents home spliced = record {
  each = All-cons (λ (row : ℕ × ℕ). IsSpliced contents row.0) (home, 0) [] spliced (λ i d l. absurd (omega arith));
  once = λ i j d before l. absurd (omega arith);
}

five_missed : (home a : ℕ) (five : List ℕ) → length five ≡ 5 → All (Misses a) (jumps_of ((home, 0) ∷ []))
    → All (Misses a) ((home, five) ∷ [])
five_missed home a five is misses =
    let away = All-head (Misses a) (jump_of (home, 0)) [] misses in
    let out : Misses a (home, five) = rw is away in
    All-cons (Misses a) (home, five) [] out (λ i d l. absurd (omega arith))

-- what is met past any five bytes at a spliced home
pub view_past_five : (contents : Contents) (home : ℕ) (five : List ℕ) (pc : ℕ) → IsValid contents
    → IsSpliced contents home → length five ≡ 5 → view_at (after_old contents home five) pc ≡ view_at contents pc
view_past_five contents home five pc valid spliced is =
    rw (one_write home five contents.pieces, unjumped-is ((home, five) ∷ []) contents.pieces)
    (view_after contents ((home, five) ∷ []) pc (λ out a from before.
    five_missed home a five is
    (before_jumps contents ((home, 0) ∷ []) pc a valid (only_home contents home spliced) from out before)))

-- the jump at another home
pub jump_past_five : (contents : Contents) (home : ℕ) (five : List ℕ) (pc : ℕ) → IsValid contents
    → IsSpliced contents home → length five ≡ 5 → IsSpliced contents pc → pc ≢ home
    → jump_at (with_old home five contents.pieces) pc ≡ jump_at contents.pieces pc
jump_past_five contents home five pc valid spliced is there differ =
    rw (
      one_write home five contents.pieces,
      unjumped-is ((home, five) ∷ []) contents.pieces,
      code_from-after ((home, five) ∷ []) contents.pieces pc,
    ) (by_code (code_from contents.pieces pc))
  where
    away : (pc + 5 ≤ home) ⊎ (home + 5 ≤ pc)
    away = two_apart 0 contents.fences pc home valid.fenced there.fence spliced.fence differ

    misses : (k : ℕ) → k < 5 → All (Misses (pc + k)) ((home, five) ∷ [])
    misses k less =
        let out : Misses (pc + k) (home, five) = elim away [
          | inl before ↦ inl (omega arith)
          | inr behind ↦ inr (omega arith)
        ] in
        All-cons (Misses (pc + k)) (home, five) [] out (λ i d l. absurd (omega arith))

    by_code : (code : Option (List ℕ))
        → take 5 (unwrap_or (option_map (bytes_after ((home, five) ∷ []) pc) code) []) ≡ take 5 (unwrap_or code [])
    by_code None = refl
    by_code (Some code) = take_outside ((home, five) ∷ []) 5 pc code misses

-- the jump at a home
jump_after : (ws : List (ℕ × List ℕ)) (i : ℕ) (d : ℕ × List ℕ) (home : ℕ) (bytes code : List ℕ) → AllPairs Away ws
    → i < length ws
    → (get_or ws i d).0 ≡ home → (get_or ws i d).1 ≡ bytes → length bytes ≡ 5 → 5 ≤ length code
    → take 5 (bytes_after ws home code) ≡ bytes
jump_after ws i d home bytes code apart l low is five room =
    let long : 5 ≤ length (bytes_after ws home code) = rw (length-bytes_after ws home code) room in
    ext_get_or 0 _ _ (length-take-le 5 (bytes_after ws home code) long ∙ sym five) (λ k m.
    let n : k < 5 = rw (length-take-le 5 (bytes_after ws home code) long) at m in
    let high : home + k < (get_or ws i d).0 + length (get_or ws i d).1 = rw (low, is, five) (omega arith) in
    let e : home + k - (get_or ws i d).0 ≡ k = rw low (omega arith) in
    get_or-take 5 (bytes_after ws home code) k 0 n
    ∙ (get_or-bytes_after ws home code k (omega arith)
    ∙ (byte_inside ws i d (home + k) (get_or code k 0) apart l (rw low (omega arith)) high
    ∙ rw (e, is) refl)))

pub jump_stands : (contents : Contents) (rows : List (ℕ × ℕ)) → IsValid contents → AreSpliced contents rows
    → All (λ row. jump_at (jumped rows contents.pieces) row.0 ≡ jump_bytes row.0 row.1) rows
jump_stands contents rows valid spliced i d l =
    let row = get_or rows i d in
    let e = get_or-map jump_of rows i d (jump_of d) l in
    let m : i < length (jumps_of rows) = rw length-map l in
    rw (jumped-is rows contents.pieces, code_from-after (jumps_of rows) contents.pieces row.0)
    (by_code (code_from contents.pieces row.0) (spliced.each i d l).code m e)
  where
    by_code : (code : Option (List ℕ)) → 5 ≤ length (unwrap_or code []) → i < length (jumps_of rows)
        → get_or (jumps_of rows) i (jump_of d) ≡ jump_of (get_or rows i d)
        → take 5 (unwrap_or (option_map (bytes_after (jumps_of rows) (get_or rows i d).0) code) [])
        ≡ jump_bytes (get_or rows i d).0 (get_or rows i d).1
    by_code None room m e = absurd (omega arith)
    by_code (Some code) room m e =
        let row = get_or rows i d in
        jump_after (jumps_of rows) i (jump_of d) row.0 (jump_bytes row.0 row.1) code
        (homes_apart contents rows valid spliced) m (ap (λ (w : ℕ × List ℕ). w.0) e)
        (ap (λ (w : ℕ × List ℕ). w.1) e) refl room
