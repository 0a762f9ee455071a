-- What ranges leave that are retired one after another.
use Rattle.std.proofs.Common.{◌≡◌, ℕ, zero, suc, ◌<◌, ◌≤◌, Bool, true, false, cond, nat_lt, List, [], ◌∷◌, map}
use Rattle.std.proofs.Common.{◌+◌, length, get_or, drop, refl, sym, ap, subst, ◌∙◌, arith}
use Rattle.std.proofs.lemmas.List.{at_drop_more, at_drop_all}
use Rattle.std.specs.List.{Contains}
use Rattle.std.proofs.lemmas.List.Elements.{All-head, All-tail}
use Rattle.ks_base.specs.declared.places.Range.{Range}
use Rattle.image_memory.specs.declared.types.Fence.{Fence}
use Rattle.image_memory.specs.Ranges.{meets, MeetsNone, put_in}
use Rattle.image_memory.specs.Contents.{Contents, IsValid, fence_range}
use Rattle.image_memory.specs.Changes.{with_fence, after_fence}
use Rattle.image_memory.specs.laws.PutLaws.{Ascends-put, Contains-put}
use Rattle.update_memory.specs.Retired.{AreRetirable, with_fences, with_ranges}
use Rattle.update_memory.proofs.PutLaws.{still_clear, pairs_tail, there_now}

-- one range after another
pub none_retired : (contents : Contents) → with_fences contents [] ≡ contents
unfolding with_fences
none_retired contents = refl

pub first_retired : (contents : Contents) (fence : Fence) (fences : List Fence)
    → with_fences contents (fence ∷ fences) ≡ with_fences (after_fence contents fence) fences
unfolding with_fences
first_retired contents fence fences = refl

pub first_full : (contents : Contents) (fence : Fence) (fences : List Fence) → AreRetirable contents (fence ∷ fences)
    → fence.range.low < fence.range.high
first_full contents fence fences can =
    All-head (λ (r : Range). r.low < r.high) fence.range (map fence_range fences) can.full

pub first_apart : (contents : Contents) (fence : Fence) (fences : List Fence) → AreRetirable contents (fence ∷ fences)
    → MeetsNone fence_range fence.range contents.fences
first_apart contents fence fences can =
    All-head (λ own. MeetsNone fence_range own contents.fences) fence.range (map fence_range fences) can.clear

pub rest_retirable : (contents : Contents) (fence : Fence) (fences : List Fence)
    → AreRetirable contents (fence ∷ fences) → AreRetirable (after_fence contents fence) fences
rest_retirable contents fence fences can = record {
  full = All-tail (λ (r : Range). r.low < r.high) fence.range (map fence_range fences) can.full;
  apart = pairs_tail (λ a b. meets a b ≡ false) fence.range (map fence_range fences) can.apart;
  clear = still_clear fence_range fence fences contents.fences can.apart can.clear;
}

-- what one more range leaves of those that are left
rest_is : (fences : List Fence) (i : ℕ) (d : Fence) → i < length fences
    → drop i fences ≡ get_or fences i d ∷ drop (i + 1) fences
rest_is fences i d l = at_drop_more (λ (xs : List Fence). xs) fences i d l

pub next_full : (contents : Contents) (fences : List Fence) (i : ℕ) (d : Fence) → i < length fences
    → AreRetirable contents (drop i fences) → (get_or fences i d).range.low < (get_or fences i d).range.high
next_full contents fences i d l can =
    first_full contents (get_or fences i d) (drop (i + 1) fences)
    (subst (AreRetirable contents) (rest_is fences i d l) can)

pub next_apart : (contents : Contents) (fences : List Fence) (i : ℕ) (d : Fence) → i < length fences
    → AreRetirable contents (drop i fences) → MeetsNone fence_range (get_or fences i d).range contents.fences
next_apart contents fences i d l can =
    first_apart contents (get_or fences i d) (drop (i + 1) fences)
    (subst (AreRetirable contents) (rest_is fences i d l) can)

pub next_retirable : (contents now : Contents) (fences : List Fence) (i : ℕ) (d : Fence) → i < length fences
    → now ≡ after_fence contents (get_or fences i d) → AreRetirable contents (drop i fences)
    → AreRetirable now (drop (i + 1) fences)
next_retirable contents now fences i d l is can =
    subst (λ (m : Contents). AreRetirable m (drop (i + 1) fences)) (sym is)
    (rest_retirable contents (get_or fences i d) (drop (i + 1) fences)
    (subst (AreRetirable contents) (rest_is fences i d l) can))

pub next_retired : (contents now : Contents) (fences : List Fence) (i : ℕ) (d : Fence) → i < length fences
    → now ≡ after_fence contents (get_or fences i d)
    → with_fences now (drop (i + 1) fences) ≡ with_fences contents (drop i fences)
next_retired contents now fences i d l is =
    ap (λ (m : Contents). with_fences m (drop (i + 1) fences)) is
    ∙ (sym (first_retired contents (get_or fences i d) (drop (i + 1) fences))
    ∙ sym (at_drop_more (with_fences contents) fences i d l))

pub all_retired : (contents : Contents) (fences : List Fence) (i : ℕ) → length fences ≤ i
    → contents ≡ with_fences contents (drop i fences)
all_retired contents fences i l = sym (none_retired contents) ∙ sym (at_drop_all (with_fences contents) fences i l)

pub valid_retired : (contents : Contents) (fences : List Fence) → IsValid contents → AreRetirable contents fences
    → IsValid (with_fences contents fences)
valid_retired contents [] valid can = rw (none_retired contents) valid
valid_retired contents (fence ∷ fences) valid can =
    let now : IsValid (after_fence contents fence) = record {
      placed = valid.placed;
      fenced =
          Ascends-put fence_range 0 fence contents.fences (omega arith) (first_full contents fence fences can)
          (first_apart contents fence fences can) valid.fenced;
    } in
    rw (first_retired contents fence fences)
    (valid_retired (after_fence contents fence) fences now (rest_retirable contents fence fences can))

pub pieces_stay : (contents : Contents) (fences : List Fence) → (with_fences contents fences).pieces ≡ contents.pieces
pieces_stay contents [] = ap (λ (m : Contents). m.pieces) (none_retired contents)
pieces_stay contents (fence ∷ fences) =
    ap (λ (m : Contents). m.pieces) (first_retired contents fence fences)
    ∙ pieces_stay (after_fence contents fence) fences

-- the retired ranges
range_put : (fence : Fence) (fences : List Fence)
    → map fence_range (with_fence fence fences) ≡ put_in (λ (r : Range). r) fence.range (map fence_range fences)
range_put fence [] = refl
range_put fence (x ∷ xs) = by_order (nat_lt fence.range.low x.range.low) (range_put fence xs)
  where
    by_order : (b : Bool)
        → map fence_range (with_fence fence xs) ≡ put_in (λ (r : Range). r) fence.range (map fence_range xs)
        → map fence_range (cond b (fence ∷ x ∷ xs) (x ∷ with_fence fence xs))
        ≡ cond b (fence.range ∷ x.range ∷ map fence_range xs)
        (x.range ∷ put_in (λ (r : Range). r) fence.range (map fence_range xs))
    by_order true rest = refl
    by_order false rest = ap (λ (rs : List Range). x.range ∷ rs) rest

pub ranges_retired : (contents : Contents) (fences : List Fence)
    → map fence_range (with_fences contents fences).fences
    ≡ with_ranges (map fence_range contents.fences) (map fence_range fences)
ranges_retired contents [] = ap (λ (m : Contents). map fence_range m.fences) (none_retired contents)
ranges_retired contents (fence ∷ fences) =
    ap (λ (m : Contents). map fence_range m.fences) (first_retired contents fence fences)
    ∙ (ranges_retired (after_fence contents fence) fences
    ∙ ap (λ (rs : List Range). with_ranges rs (map fence_range fences)) (range_put fence contents.fences))

pub fence_kept : (contents : Contents) (fences : List Fence) (fence : Fence) → Contains contents.fences fence
    → Contains (with_fences contents fences).fences fence
fence_kept contents [] fence at = rw (none_retired contents) at
fence_kept contents (first ∷ fences) fence at =
    rw (first_retired contents first fences)
    (fence_kept (after_fence contents first) fences fence (Contains-put fence_range first fence contents.fences at))

pub fence_given : (contents : Contents) (fences : List Fence) (fence : Fence) (k : ℕ) → k < length fences
    → get_or fences k fence ≡ fence → Contains (with_fences contents fences).fences fence
fence_given contents [] fence k l is = absurd (omega arith)
fence_given contents (first ∷ fences) fence zero l is =
    let there = subst (Contains (after_fence contents first).fences) is (there_now fence_range first contents.fences) in
    rw (first_retired contents first fences) (fence_kept (after_fence contents first) fences fence there)
fence_given contents (first ∷ fences) fence (suc k) l is =
    rw (first_retired contents first fences) (fence_given (after_fence contents first) fences fence k (omega arith) is)
