-- Laws of the homes of rows, for the crates above: they lie apart, each at the low end of a retired range.
use Rattle.std.proofs.Common.{◌≡◌, ◌≢◌, ℕ, ◌+◌, ◌≤◌, ◌<◌, List, map, length, get_or, Option, Some, None, sym, ap, ◌∙◌}
use Rattle.std.proofs.Common.{arith, ◌⊎◌, inl, inr}
use Rattle.std.specs.List.{All, Any, AllPairs}
use Rattle.std.proofs.lemmas.List.{get_or_default, length-map, get_or-map}
use Rattle.ks_base.specs.declared.places.Range.{Range}
use Rattle.image_memory.specs.declared.types.Fence.{Fence}
use Rattle.image_memory.specs.Ranges.{Ascends}
use Rattle.image_memory.specs.Contents.{Contents, IsValid, fence_range}
use Rattle.image_memory.specs.laws.RangeLaws.{one_after}
use Rattle.splice_jump.specs.Jumps.{IsFenced, AreSpliced}
use Rattle.splice_jump.specs.laws.WriteLaws.{Misses, Away, jump_of, jumps_of}

three_ways : (k n : ℕ) → (k < n) ⊎ ((n < k) ⊎ (k ≡ n))
three_ways k n = grind arith

-- the fence of a home, at whatever default
pub fence_at : (fences : List Fence) (home : ℕ) (x : Any (IsFenced home) fences) (d : Fence) → get_or fences x.0 d ≡ x.1
fence_at fences home x d = get_or_default fences x.0 d x.1 x.2 ∙ x.3

one_first : (floor : ℕ) (fences : List Fence) (h g : ℕ) → Ascends fence_range floor fences
    → (x : Any (IsFenced h) fences) (y : Any (IsFenced g) fences)
    → x.0 < y.0 → h + 5 ≤ g
one_first floor fences h g up x y before =
    let apart = one_after fence_range floor fences x.0 y.0 y.1 up before y.2 in
    let first : x.1.range.high ≤ y.1.range.low = rw (fence_at fences h x y.1, fence_at fences g y y.1) at apart in
    let long = x.4.long in
    let low = y.4.low in
    omega arith

-- the five bytes at two homes share no address
pub two_apart : (floor : ℕ) (fences : List Fence) (h g : ℕ) → Ascends fence_range floor fences → Any (IsFenced h) fences
    → Any (IsFenced g) fences
    → h ≢ g → (h + 5 ≤ g) ⊎ (g + 5 ≤ h)
two_apart floor fences h g up x y differ =
    elim (three_ways x.0 y.0) [
      | inl before ↦ inl (one_first floor fences h g up x y before)
      | inr (inl behind) ↦ inr (one_first floor fences g h up y x behind)
      | inr (inr same) ↦
          let one : x.1 ≡ y.1 =
          sym (fence_at fences h x x.1) ∙ (ap (λ (k : ℕ). get_or fences k x.1) same ∙ fence_at fences g y x.1) in
          absurd (differ (sym x.4.low ∙ (ap (λ (f : Fence). f.range.low) one ∙ y.4.low)))
    ]

-- the homes' five bytes, as those of any writes there
pub writes_apart : (contents : Contents) (rows : List (ℕ × ℕ)) (write : ℕ × ℕ → ℕ × List ℕ) → IsValid contents
    → AreSpliced contents rows
    → ((row : ℕ × ℕ) → (write row).0 ≡ row.0) → ((row : ℕ × ℕ) → length (write row).1 ≡ 5)
    → AllPairs Away (map write rows)
writes_apart contents rows write valid spliced home five i j d first l =
    let e : ℕ × ℕ = (0, 0) in
    let m : j < length rows = rw length-map at l in
    let k : i < length rows = omega arith in
    let one = get_or rows i e in
    let other = get_or rows j e in
    rw (get_or-map write rows i e d k, get_or-map write rows j e d m, home one, home other, five one, five other)
    (two_apart 0 contents.fences one.0 other.0 valid.fenced (spliced.each i e k).fence (spliced.each j e m).fence
    (spliced.once i j e first m))

-- an address is none of those of the jumps
pub misses_jumps : (rows : List (ℕ × ℕ)) (a : ℕ) → All (λ row. (a < row.0) ⊎ (row.0 + 5 ≤ a)) rows
    → All (Misses a) (jumps_of rows)
misses_jumps rows a h k d l =
    let e : ℕ × ℕ = (0, 0) in
    let m : k < length rows = rw length-map at l in
    rw (get_or-map jump_of rows k e d m) (h k e m)

-- an address lies before the next range
abbrev pub Before : ℕ → Option Range → Type 0
Before a None = Unit {0}
Before a (Some range) = a < range.low
