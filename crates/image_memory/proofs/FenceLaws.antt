-- What the retired range that holds an address tells of it, and where a range stands among the retired ones.
use Rattle.std.proofs.Common.{◌≡◌, ◌≢◌, ℕ, zero, suc, ◌≤◌, ◌<◌, Bool, true, false, cond, ◌&&◌, ◌||◌, ◌==◌, List}
use Rattle.std.proofs.Common.{[], ◌∷◌, length, get_or, map, refl, sym, ◌∙◌, arith, ◌⊎◌, inl, inr, Some, None, min, take}
use Rattle.std.specs.List.{find, list_any, slice_get, Contains}
use Rattle.std.proofs.lemmas.Bool.Decides.{nat_tests}
use Rattle.std.proofs.lemmas.List.{take-take, take_all, length-take, length-map, get_or-map}
use Rattle.std.proofs.lemmas.List.Folds.{list_any_none}
use Rattle.ks_base.specs.declared.places.Range.{Range}
use Rattle.image_memory.specs.Ranges.{lies_in, Ascends}
use Rattle.image_memory.specs.Contents.{fence_range, spliced_at}
use Rattle.image_memory.specs.declared.types.Fence.{Fence}
use Rattle.image_memory.specs.laws.RangeLaws.{inside, within, each_above}

not_low : (jump : Bool) (low pc : ℕ) → low ≢ pc → (jump && (low == pc)) ≡ false
not_low jump low pc h = elim jump as (λ b. (b && (low == pc)) ≡ false) [
  | true ↦ grind (arith, nat_tests)
  | false ↦
      refl
]

or_false : (b : Bool) → (b || false) ≡ b
or_false true = refl
or_false false = refl

spliced_late : (floor : ℕ) (fences : List Fence) (pc : ℕ) → Ascends fence_range floor fences → pc < floor
    → spliced_at fences pc ≡ false
spliced_late floor fences pc up h =
    list_any_none (λ fence. fence.jump && (fence.range.low == pc)) fences (λ k d l.
    let low = each_above fence_range floor fences k d up l in
    let apart : (get_or fences k d).range.low ≢ pc = omega arith in
    not_low (get_or fences k d).jump (get_or fences k d).range.low pc apart)

pub spliced_found : (floor : ℕ) (fences : List Fence) (pc : ℕ) (found : Fence) → Ascends fence_range floor fences
    → find (λ fence. lies_in pc (fence_range fence)) fences ≡ Some found
    → spliced_at fences pc ≡ (found.jump && (found.range.low == pc))
spliced_found floor [] pc found up h = cc
spliced_found floor (x ∷ xs) pc found up h =
    elim (lies_in pc x.range) as (λ b. cond b (Some x) (find (λ fence. lies_in pc (fence_range fence)) xs) ≡ Some found
    → lies_in pc x.range ≡ b → spliced_at (x ∷ xs) pc ≡ (found.jump && (found.range.low == pc))) [
      | true ↦ λ same e.
          let here : x ≡ found = cc in
          let rest = spliced_late x.range.high xs pc up.2 (inside pc x.range e).1 in
          rw (rest, or_false, here) refl
      | false ↦ λ later e.
          let full = up.1 in
          let apart : x.range.low ≢ pc = λ eq. let hit = within pc x.range (omega arith) (omega arith) in cc in
          rw (not_low x.jump x.range.low pc apart) (spliced_found x.range.high xs pc found up.2 later)
    ] h refl

pub spliced_nowhere : (floor : ℕ) (fences : List Fence) (pc : ℕ) → Ascends fence_range floor fences
    → find (λ fence. lies_in pc (fence_range fence)) fences ≡ None → spliced_at fences pc ≡ false
spliced_nowhere floor [] pc up h = refl
spliced_nowhere floor (x ∷ xs) pc up h =
    elim (lies_in pc x.range) as (λ b. cond b (Some x) (find (λ fence. lies_in pc (fence_range fence)) xs) ≡ None
    → lies_in pc x.range ≡ b → spliced_at (x ∷ xs) pc ≡ false) [
      | true ↦ λ same e. cc
      | false ↦ λ later e.
          let full = up.1 in
          let apart : x.range.low ≢ pc = λ eq. let hit = within pc x.range (omega arith) (omega arith) in cc in
          rw (not_low x.jump x.range.low pc apart) (spliced_nowhere x.range.high xs pc up.2 later)
    ] h refl

pub any_found : {X : Type 0} (p : X → Bool) (xs : List X) (y : X) → find p xs ≡ Some y → list_any p xs ≡ true
any_found p [] y h = cc
any_found p (x ∷ xs) y h =
    elim (p x) as (λ b. cond b (Some x) (find p xs) ≡ Some y → (b || list_any p xs) ≡ true) [
      | true ↦ λ same. refl
      | false ↦ λ later. any_found p xs y later
    ] h

pub any_nowhere : {X : Type 0} (p : X → Bool) (xs : List X) → find p xs ≡ None → list_any p xs ≡ false
any_nowhere p [] h = refl
any_nowhere p (x ∷ xs) h =
    elim (p x) as (λ b. cond b (Some x) (find p xs) ≡ None → (b || list_any p xs) ≡ false) [
      | true ↦ λ same. cc
      | false ↦ λ later. any_nowhere p xs later
    ] h

-- the first thing that passes a test that all things fail before a place and pass from it on
pub found_parted : {X : Type 0} (p : X → Bool) (xs : List X) (n : ℕ)
    → ((k : ℕ) (d : X) → k < n → k < length xs → p (get_or xs k d) ≡ false)
    → ((k : ℕ) (d : X) → n ≤ k → k < length xs → p (get_or xs k d) ≡ true)
    → find p xs ≡ slice_get xs n
found_parted p [] n before after = refl
found_parted p (x ∷ xs) zero before after = rw (after 0 x (omega arith) (omega arith)) refl
found_parted p (x ∷ xs) (suc n) before after =
    rw (before 0 x (omega arith) (omega arith)) (found_parted p xs n
    (λ k d l m. before (suc k) d (omega arith) (omega arith))
    (λ k d l m. after (suc k) d (omega arith) (omega arith)))

pub take_min : (m n : ℕ) (xs : List ℕ) → take m (take n xs) ≡ take (min m n) xs
take_min m n xs = elim (cases m n) [
  | inl l ↦ let e : min m n ≡ m = omega arith in rw e (take-take m n xs l)
  | inr l ↦
      let e : min m n ≡ n = omega arith in
      rw e (take_all m (take n xs) (simp length-take (omega arith)))
]
  where
    cases : (m n : ℕ) → (m ≤ n) ⊎ (n ≤ m)
    cases m n = grind arith

-- where a range stands among those that are retired
pub in_list : (fences : List Fence) (range : Range) (at : Contains (map fence_range fences) range) → at.0 < length fences
in_list fences range at = let l = at.1 in rw length-map at l

pub is_range : (fences : List Fence) (range : Range) (at : Contains (map fence_range fences) range) (d : Fence)
    → (get_or fences at.0 d).range ≡ range
is_range fences range at d = sym (get_or-map fence_range fences at.0 d range (in_list fences range at)) ∙ at.2
