-- What is left of retired ranges when some were made empty where they stand.
use Rattle.std.proofs.Common.{◌≡◌, ◌≢◌, ℕ, zero, suc, ◌+◌, ◌-◌, ◌≤◌, ◌<◌, Bool, true, false, not, cond, List, [], ◌∷◌, nat_lt}
use Rattle.std.proofs.Common.{map, length, get_or, set, take, refl, sym, ap, ◌∙◌, arith}
use Rattle.std.proofs.Math.Bool.{or-false, or-true}
use Rattle.std.specs.List.{filter, AllWithin, Contains}
use Rattle.std.specs.List.Sorted.{IsNonDecreasingBy}
use Rattle.std.proofs.lemmas.Bool.Decides.{nat_tests}
use Rattle.std.proofs.lemmas.List.{length-map, get_or-map}
use Rattle.std.proofs.lemmas.List.Folds.{list_any_more, map_fixed}
use Rattle.ks_base.specs.declared.places.Range.{Range}
use Rattle.image_memory.specs.Ranges.{Ascends, are_same, is_one_of}
use Rattle.image_memory.specs.Contents.{fence_range}
use Rattle.image_memory.specs.Changes.{without_ranges}
use Rattle.image_memory.specs.declared.types.Fence.{Fence}
use Rattle.image_memory.specs.laws.RangeLaws.{lows_rise}
use Rattle.image_memory.specs.laws.PutLaws.{not_above, is_above}
use Rattle.image_memory.specs.laws.ChangeLaws.{begin_apart, are_same_self, place_of}
use Rattle.image_memory.proofs.FenceLaws.{in_list, is_range}

-- a retired range, made empty where it is one of some
abbrev pub emptied : List Range → Fence → Fence
emptied taken fence =
    record {
      range = record {
        low = fence.range.low;
        high = cond (is_one_of taken fence.range) fence.range.low fence.range.high;
      };
      jump = fence.jump;
    }

abbrev pub is_full : Fence → Bool
is_full fence = nat_lt fence.range.low fence.range.high

-- at first none is
pub none_emptied : (fences : List Fence) → fences ≡ map (emptied []) fences
none_emptied fences = sym (map_fixed (emptied []) fences (λ k d l. refl))

-- they begin where they did, in order, so that the place of each is found
low_still : (taken : List Range) (fences : List Fence) (k : ℕ) (d : Fence) → k < length fences
    → (get_or (map (emptied taken) fences) k d).range.low ≡ (get_or fences k d).range.low
low_still taken fences k d l = ap (λ (f : Fence). f.range.low) (get_or-map (emptied taken) fences k d d l)

pub still_rise : (taken : List Range) (fences : List Fence) → Ascends fence_range 0 fences
    → IsNonDecreasingBy (λ fence. fence.range.low) (map (emptied taken) fences)
still_rise taken fences up i j d l m =
    let n : j < length fences = rw length-map at m in
    let o : i < length fences = omega arith in
    rw (low_still taken fences i d o, low_still taken fences j d n) (lows_rise fence_range 0 fences up i j d l n)

pub place_still : (taken : List Range) (fences now : List Fence) (range : Range) (n : ℕ) → Ascends fence_range 0 fences
    → now ≡ map (emptied taken) fences → (at : Contains (map fence_range fences) range) → n ≤ length now
    → AllWithin (λ fence. fence.range.low ≤ range.low) now 0 n
    → AllWithin (λ fence. range.low < fence.range.low) now n (length now) → n ≡ suc at.0
place_still taken fences now range n up is at bound below above =
    place_of fence_range 0 fences range.low at.0 n up (in_list fences range at)
    (λ d. ap (λ (r : Range). r.low) (is_range fences range at d)) (omega (arith, same))
    (λ k d l. let m : k < length fences = omega (arith, same) in rw (low k d m) at (below k d (omega arith) l))
    (λ k d l m. rw (low k d m) at (above k d l (omega (arith, same))))
  where
    same : length now ≡ length fences
    same = ap length is ∙ length-map fences (emptied taken)

    low : (k : ℕ) (d : Fence) → k < length fences → (get_or now k d).range.low ≡ (get_or fences k d).range.low
    low k d l = ap (λ (fs : List Fence). (get_or fs k d).range.low) is ∙ low_still taken fences k d l

-- the next one is made empty
lows_differ : (r s : Range) → r.low ≢ s.low → are_same r s ≡ false
lows_differ r s apart = grind (arith, nat_tests)

made_empty : (ranges : List Range) (i : ℕ) (d : Range) (fence : Fence) → i < length ranges
    → fence.range ≡ get_or ranges i d
    → record { range = record { low = fence.range.low; high = (get_or ranges i d).low }; jump = fence.jump }
    ≡ emptied (take (i + 1) ranges) fence
made_empty ranges i d fence l is =
    let here : are_same fence.range (get_or ranges i d) ≡ true = rw is (are_same_self (get_or ranges i d)) in
    rw (list_any_more (are_same fence.range) ranges i d l, here, or-true, is) refl

left_alone : (ranges : List Range) (i : ℕ) (d : Range) (fence : Fence) → i < length ranges
    → fence.range.low ≢ (get_or ranges i d).low
    → emptied (take i ranges) fence ≡ emptied (take (i + 1) ranges) fence
left_alone ranges i d fence l apart =
    rw (list_any_more (are_same fence.range) ranges i d l, lows_differ fence.range (get_or ranges i d) apart, or-false) refl

alike : (f g : Fence → Fence) (fences : List Fence)
    → ((k : ℕ) (d : Fence) → k < length fences → f (get_or fences k d) ≡ g (get_or fences k d))
    → map f fences ≡ map g fences
alike f g [] same = refl
alike f g (fence ∷ fences) same =
    rw (same 0 fence (omega arith))
    (ap (λ (fs : List Fence). g fence ∷ fs) (alike f g fences (λ k d l. same (suc k) d (omega arith))))

changed_at : (f g : Fence → Fence) (fences : List Fence) (j : ℕ) (e : Fence) → j < length fences
    → ((k : ℕ) (d : Fence) → k < length fences → k ≢ j → f (get_or fences k d) ≡ g (get_or fences k d))
    → set (map f fences) j (g (get_or fences j e)) ≡ map g fences
changed_at f g [] j e l same = absurd (omega arith)
changed_at f g (fence ∷ fences) zero e l same =
    ap (λ (fs : List Fence). g fence ∷ fs) (alike f g fences (λ k d m. same (suc k) d (omega arith) (omega arith)))
changed_at f g (fence ∷ fences) (suc j) e l same =
    rw (same 0 fence (omega arith) (omega arith))
    (ap (λ (fs : List Fence). g fence ∷ fs) (changed_at f g fences j e (omega arith)
    (λ k d m apart. same (suc k) d (omega arith) (omega arith))))

pub next_emptied : (ranges : List Range) (fences now : List Fence) (i n : ℕ) (d : Range) (e : Fence)
    → Ascends fence_range 0 fences → now ≡ map (emptied (take i ranges)) fences → i < length ranges
    → (at : Contains (map fence_range fences) (get_or ranges i d)) → n ≡ suc at.0
    → set now (n - 1) (record {
      range = record { low = (get_or now (n - 1) e).range.low; high = (get_or ranges i d).low };
      jump = (get_or now (n - 1) e).jump;
    }) ≡ map (emptied (take (i + 1) ranges)) fences
next_emptied ranges fences now i n d e up is l at place =
    let same : n - 1 ≡ at.0 = omega arith in
    let m : at.0 < length fences = in_list fences (get_or ranges i d) at in
    let range = is_range fences (get_or ranges i d) at in
    rw (
      same,
      is,
      get_or-map (emptied (take i ranges)) fences at.0 e e m,
      made_empty ranges i d (get_or fences at.0 e) l (range e),
    )
    (changed_at (emptied (take i ranges)) (emptied (take (i + 1) ranges)) fences at.0 e m
    (λ k f o apart. left_alone ranges i d (get_or fences k f) l
    (λ low. begin_apart fence_range 0 fences k at.0 f up o m apart (low ∙ sym (ap (λ (r : Range). r.low) (range f))))))

-- those that aren't empty are those that aren't taken
pub left_full : (taken : List Range) (floor : ℕ) (fences : List Fence) → Ascends fence_range floor fences
    → filter is_full (map (emptied taken) fences) ≡ without_ranges taken fences
left_full taken floor [] up = refl
left_full taken floor (fence ∷ fences) up =
    by_test (is_one_of taken fence.range) (left_full taken fence.range.high fences up.2)
  where
    by_test : (b : Bool) → filter is_full (map (emptied taken) fences) ≡ without_ranges taken fences
        → cond (nat_lt fence.range.low (cond b fence.range.low fence.range.high))
        (record {
          range = record { low = fence.range.low; high = cond b fence.range.low fence.range.high };
          jump = fence.jump;
        } ∷ filter is_full (map (emptied taken) fences)) (filter is_full (map (emptied taken) fences))
        ≡ cond (not b) (fence ∷ without_ranges taken fences) (without_ranges taken fences)
    by_test true rest = rw (not_above fence.range.low fence.range.low (omega arith)) rest
    by_test false rest = rw (is_above fence.range.low fence.range.high up.1) (ap (λ (fs : List Fence). fence ∷ fs) rest)
