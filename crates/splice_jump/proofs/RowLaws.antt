-- The homes of rows lie apart, each in code and at the low end of a retired range.
use Rattle.std.proofs.Common.{◌≡◌, ℕ, zero, suc, ◌≤◌, ◌<◌, Bool, true, false, cond, ◌||◌, nat_lt, List, []}
use Rattle.std.proofs.Common.{◌∷◌, map, length, get_or, Some, refl, arith, ◌⊎◌, inl, inr}
use Rattle.std.specs.List.{find, list_any, All, AllPairs}
use Rattle.std.proofs.lemmas.Bool.Decides.{nat_tests}
use Rattle.ks_base.specs.declared.places.Range.{Range}
use Rattle.image_memory.specs.declared.types.Fence.{Fence}
use Rattle.image_memory.specs.Ranges.{lies_in, Ascends}
use Rattle.image_memory.specs.Contents.{Contents, IsValid, fence_range}
use Rattle.image_memory.specs.laws.RangeLaws.{each_above}
use Rattle.splice_jump.specs.Jumps.{AreSpliced}
use Rattle.splice_jump.specs.laws.RowLaws.{fence_at, writes_apart, misses_jumps, Before}
use Rattle.splice_jump.specs.laws.WriteLaws.{Misses, Away, jump_of, jumps_of}

pub homes_apart : (contents : Contents) (rows : List (ℕ × ℕ)) → IsValid contents → AreSpliced contents rows
    → AllPairs Away (jumps_of rows)
homes_apart contents rows valid spliced = writes_apart contents rows jump_of valid spliced (λ row. refl) (λ row. refl)

-- an address from pc on that lies before the next retired range is in none, where pc is in none
beyond : (floor : ℕ) (fences : List Fence) (pc a : ℕ) → Ascends fence_range floor fences → pc ≤ a
    → list_any (lies_in pc) (map fence_range fences) ≡ false
    → Before a (find (λ range. nat_lt pc range.low) (map fence_range fences))
    → (k : ℕ) (d : Fence) → k < length fences
    → (a < (get_or fences k d).range.low) ⊎ ((get_or fences k d).range.high ≤ a)
beyond floor [] pc a up from out before k d l = absurd (omega arith)
beyond floor (x ∷ xs) pc a up from out before k d l =
    by_low (nat_lt pc x.range.low) refl (or_right (lies_in pc x.range) (list_any (lies_in pc) (map fence_range xs)) out)
    (beyond x.range.high xs pc a up.2 from) before k d l
  where
    or_left : (b c : Bool) → (b || c) ≡ false → b ≡ false
    or_left true c h = h
    or_left false c h = refl

    or_right : (b c : Bool) → (b || c) ≡ false → c ≡ false
    or_right true c h = absurd (cc)
    or_right false c h = h

    behind : (y : Range) → lies_in pc y ≡ false → nat_lt pc y.low ≡ false → y.high ≤ pc
    behind y apart later = grind (arith, nat_tests)

    by_low : (b : Bool) → nat_lt pc x.range.low ≡ b → list_any (lies_in pc) (map fence_range xs) ≡ false
        → (list_any (lies_in pc) (map fence_range xs) ≡ false
        → Before a (find (λ range. nat_lt pc range.low) (map fence_range xs))
        → (j : ℕ) (e : Fence) → j < length xs → (a < (get_or xs j e).range.low) ⊎ ((get_or xs j e).range.high ≤ a))
        → Before a (cond b (Some x.range) (find (λ range. nat_lt pc range.low) (map fence_range xs)))
        → (j : ℕ) (e : Fence) → j < length (x ∷ xs)
        → (a < (get_or (x ∷ xs) j e).range.low) ⊎ ((get_or (x ∷ xs) j e).range.high ≤ a)
    by_low true is none rest first zero e m = inl first
    by_low true is none rest first (suc j) e m =
        let next = each_above fence_range x.range.high xs j e up.2 (omega arith) in
        let low = next.0 in
        let full = up.1 in
        inl (omega arith)
    by_low false is none rest first zero e m =
        let high = behind x.range (or_left (lies_in pc x.range) (list_any (lies_in pc) (map fence_range xs)) out) is in
        inr (omega arith)
    by_low false is none rest first (suc j) e m = rest none first j e (omega arith)

-- no jump stands before the next retired range
pub before_jumps : (contents : Contents) (rows : List (ℕ × ℕ)) (pc a : ℕ) → IsValid contents
    → AreSpliced contents rows → pc ≤ a
    → list_any (lies_in pc) (map fence_range contents.fences) ≡ false
    → Before a (find (λ range. nat_lt pc range.low) (map fence_range contents.fences))
    → All (Misses a) (jumps_of rows)
before_jumps contents rows pc a valid spliced from out before = misses_jumps rows a (λ i e m.
    let x = (spliced.each i e m).fence in
    let fence = x.4 in
    let apart =
    rw (fence_at contents.fences (get_or rows i e).0 x x.1)
    at (beyond 0 contents.fences pc a valid.fenced from out before x.0 x.1 x.2) in
    elim apart [
      | inl l ↦ let low = fence.low in inl (omega arith)
      | inr h ↦ let long = fence.long in inr (omega arith)
    ])
