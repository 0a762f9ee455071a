-- What is retired of functions that lie apart, as fences: none is empty, no two meet, none meets one that is retired
-- already, and each begins at a base of its own.
use Rattle.std.proofs.Common.{◌≡◌, inl, inr, ◌+◌, ◌<◌, Bool, true, false, cond, List, map, max}
use Rattle.std.proofs.Common.{refl, sym, ap, subst, arith}
use Rattle.std.specs.List.{All, AllPairs, Contains, filter}
use Rattle.std.proofs.lemmas.Bool.{and_parts, eqb-true}
use Rattle.ks_base.specs.declared.places.Range.{Range}
use Rattle.image_memory.specs.declared.types.Fence.{Fence}
use Rattle.image_memory.specs.Ranges.{meets, MeetsNone, from_to}
use Rattle.image_memory.specs.Contents.{Contents, fence_range}
use Rattle.splice_jump.specs.Jumps.{IsFenced}
use Rattle.update_retired.specs.declared.types.OldFunction.{OldFunction}
use Rattle.update_retired.specs.Retired.{body_range, is_first, is_replaced, is_retired, retired_by}
use Rattle.update_retired.specs.Retired.{retired_range, takes_jump}
use Rattle.update_retired.specs.Overlaps.{LieApart}
use Rattle.image_memory.specs.laws.RangeLaws.{meet_where}
use Rattle.update_plan.specs.Plan.{fence_of, fences_of}
use Rattle.update_plan.specs.Sound.{AreListed}
use Rattle.update_plan.proofs.SoundLists.{Has, Pairs, all_has, all_of, all_pairs, any_false, any_none, has_filter}
use Rattle.update_plan.proofs.SoundLists.{has_map, has_of, map_has, map_pairs, pairs_map, pairs_of, two_of}

abbrev retired_of : List OldFunction → List OldFunction
retired_of olds = filter (λ old. is_retired old.fate) olds

abbrev with_jump : OldFunction → Range
with_jump old = from_to old.home (old.home + max old.length 5)

low_by : (old : OldFunction) (b : Bool) → takes_jump old ≡ b →
    (cond b (with_jump old) (body_range old)).low ≡ old.base
low_by old true takes = sym (eqb-true old.base old.home (and_parts (is_replaced old.fate) (is_first old) takes).1)
low_by old false takes = refl

-- what is retired begins at the newest version's base
pub low_is_base : (old : OldFunction) → (retired_range old).low ≡ old.base
low_is_base old = low_by old (takes_jump old) refl

-- and has some bytes, as the function has
pub retired_full : (old : OldFunction) → 0 < old.length → (retired_range old).low < (retired_range old).high
retired_full old some = by (takes_jump old)
  where
    by : (b : Bool) → (cond b (with_jump old) (body_range old)).low < (cond b (with_jump old) (body_range old)).high
    by true = omega arith
    by false = omega arith

pub jump_is_fenced : (old : OldFunction) → takes_jump old ≡ true → IsFenced old.home (fence_of old)
jump_is_fenced old takes =
    let is : retired_range old ≡ with_jump old = ap (λ b. cond b (with_jump old) (body_range old)) takes in
    record {
      jump = takes;
      low = ap (λ (r : Range). r.low) is;
      long = (let high = ap (λ (r : Range). r.high) is in omega (arith, high));
    }

module _ (olds : List OldFunction) (retired : List Range) (lies : LieApart (retired_by olds) retired) where
  range_full : (old : OldFunction) → Has (retired_of olds) old → (retired_range old).low < (retired_range old).high
  unfolding retired_by
  range_full old has =
      all_has (λ (r : Range). r.low < r.high) (map retired_range (retired_of olds)) (retired_range old) lies.full
      (has_map retired_range (retired_of olds) old has)

  ranges_apart : Pairs (λ (a b : OldFunction). meets (retired_range a) (retired_range b) ≡ false) (retired_of olds)
  unfolding retired_by
  ranges_apart =
      map_pairs retired_range (λ a b. meets a b ≡ false) (retired_of olds)
      (pairs_of (λ a b. meets a b ≡ false) (map retired_range (retired_of olds)) lies.apart)

  pub full : All (λ (fence : Fence). fence.range.low < fence.range.high) (fences_of olds)
  full =
      all_of (λ (fence : Fence). fence.range.low < fence.range.high) (fences_of olds)
      (λ fence has.
      let (old, has_old, is) = map_has fence_of (retired_of olds) fence has in
      subst (λ (f : Fence). f.range.low < f.range.high) is (range_full old has_old))

  pub fences_apart : AllPairs (λ (a b : Fence). meets a.range b.range ≡ false) (fences_of olds)
  fences_apart =
      all_pairs (λ (a b : Fence). meets a.range b.range ≡ false) (fences_of olds)
      (pairs_map fence_of (λ (a b : Fence). meets a.range b.range ≡ false) (retired_of olds) ranges_apart)

  -- none meets a range that is retired already, where each of these is listed
  pub from_fences : (contents : Contents) → AreListed contents retired →
      All (λ (fence : Fence). MeetsNone fence_range fence.range contents.fences) (fences_of olds)
  unfolding retired_by
  from_fences contents listed =
      all_of (λ (fence : Fence). MeetsNone fence_range fence.range contents.fences) (fences_of olds)
      (λ fence has.
      let (old, has_old, is) = map_has fence_of (retired_of olds) fence has in
      let apart = all_has (λ (r : Range). MeetsNone (λ (other : Range). other) r retired)
      (map retired_range (retired_of olds)) (retired_range old) lies.from_retired
      (has_map retired_range (retired_of olds) old has_old) in
      subst (λ (f : Fence). MeetsNone fence_range f.range contents.fences) is
      (any_none (λ (f : Fence). meets (retired_range old) f.range) contents.fences (λ f there.
      any_false (λ (r : Range). meets (retired_range old) r) retired f.range apart
      (has_of retired f.range
      (all_has (λ (f : Fence). Contains retired f.range) contents.fences f listed there)))))

  -- no two that are retired have one base
  met : (a b : OldFunction) → Has (retired_of olds) a → Has (retired_of olds) b → a.base ≡ b.base →
      meets (retired_range a) (retired_range b) ≡ true
  met a b has_a has_b same =
      let low_a = low_is_base a in
      let low_b = low_is_base b in
      let full_a = range_full a has_a in
      let full_b = range_full b has_b in
      meet_where (retired_range a) (retired_range b) (omega (arith, low_a, low_b, same, full_b))
      (omega (arith, low_a, low_b, same, full_a)) full_a full_b

  pub one_base : (a b : OldFunction) → Has olds a → Has olds b → is_retired a.fate ≡ true → is_retired b.fate ≡ true →
      a.base ≡ b.base → a ≡ b
  one_base a b has_a has_b gone_a gone_b same =
      let in_a = has_filter (λ (old : OldFunction). is_retired old.fate) olds a has_a gone_a in
      let in_b = has_filter (λ (old : OldFunction). is_retired old.fate) olds b has_b gone_b in
      elim (two_of (λ (x y : OldFunction). meets (retired_range x) (retired_range y) ≡ false) (retired_of olds) a b
      ranges_apart in_a in_b) [
        | inl is ↦ is
        | inr apart ↦ elim apart [
          | inl ab ↦ let hit = met a b in_a in_b same in absurd cc
          | inr ba ↦ let hit = met b a in_b in_a (sym same) in absurd cc
        ]
      ]
