-- Laws of things in order after one was put among them or taken out, for the crates above.
use Rattle.std.proofs.Common.{◌≡◌, ◌≢◌, ℕ, zero, suc, ◌+◌, ◌-◌, ◌≤◌, ◌<◌, Bool, true, false}
use Rattle.std.proofs.Common.{not, cond, nat_lt, List, [], ◌∷◌, length, get_or, drop}
use Rattle.std.proofs.Common.{refl, sym, ◌∙◌, ap, arith, ◌⊎◌, inl, inr, Option, Some}
use Rattle.std.specs.List.{filter, remove, position, position_or_len, All, Contains}
use Rattle.std.proofs.lemmas.List.Sums.{prefix_len_passes}
use Rattle.std.proofs.lemmas.Bool.Decides.{nat_tests}
use Rattle.std.proofs.lemmas.List.{drop-drop}
use Rattle.std.proofs.lemmas.List.Elements.{All-cons, All-head, All-tail}
use Rattle.ks_base.specs.declared.places.Range.{Range}
use Rattle.image_memory.specs.Ranges.{Ascends, are_same}
use Rattle.image_memory.specs.Changes.{without_first}
use Rattle.image_memory.specs.laws.RangeLaws.{each_above, one_after}

module _ {X : Type 0} (range : X → Range) where
  ascends_lower : (floor low : ℕ) (xs : List X) → low ≤ floor → Ascends range floor xs → Ascends range low xs
  ascends_lower floor low [] l up = tt
  ascends_lower floor low (x ∷ xs) l up = let h = up.0 in (omega arith, up.1, up.2)

  pub Ascends-remove : (floor : ℕ) (xs : List X) (i : ℕ) → Ascends range floor xs → Ascends range floor (remove xs i)
  Ascends-remove floor [] zero up = tt
  Ascends-remove floor [] (suc i) up = tt
  Ascends-remove floor (x ∷ xs) zero up =
      let low = up.0 in
      let full = up.1 in
      ascends_lower (range x).high floor xs (omega arith) up.2
  Ascends-remove floor (x ∷ xs) (suc i) up = (up.0, up.1, Ascends-remove (range x).high xs i up.2)

  pub Ascends-filter : (keep : X → Bool) (floor : ℕ) (xs : List X) → Ascends range floor xs
      → Ascends range floor (filter keep xs)
  Ascends-filter keep floor [] up = tt
  Ascends-filter keep floor (x ∷ xs) up = by_keep (keep x) (Ascends-filter keep (range x).high xs up.2)
    where
      lower : floor ≤ (range x).high
      lower = let low = up.0 in let full = up.1 in omega arith

      by_keep : (b : Bool) → Ascends range (range x).high (filter keep xs)
          → Ascends range floor (cond b (x ∷ filter keep xs) (filter keep xs))
      by_keep true rest = (up.0, up.1, rest)
      by_keep false rest = ascends_lower (range x).high floor (filter keep xs) lower rest

  -- of things that ascend only one begins at an address
  pub begin_apart : (floor : ℕ) (xs : List X) (i j : ℕ) (d : X) → Ascends range floor xs → i < length xs → j < length xs
      → i ≢ j
      → (range (get_or xs i d)).low ≢ (range (get_or xs j d)).low
  begin_apart floor xs i j d up l m apart =
      λ same.
      let a = each_above range floor xs i d up l in
      let b = each_above range floor xs j d up m in
      let before : i < j → (range (get_or xs i d)).high ≤ (range (get_or xs j d)).low =
      λ h. one_after range floor xs i j d up h m in
      let behind : j < i → (range (get_or xs j d)).high ≤ (range (get_or xs i d)).low =
      λ h. one_after range floor xs j i d up h l in
      grind arith

  -- the last of those that begin at or below an address is the one that begins there
  pub place_of : (floor : ℕ) (xs : List X) (a j n : ℕ) → Ascends range floor xs → j < length xs
      → ((d : X) → (range (get_or xs j d)).low ≡ a) → n ≤ length xs
      → ((k : ℕ) (d : X) → k < n → (range (get_or xs k d)).low ≤ a)
      → ((k : ℕ) (d : X) → n ≤ k → k < length xs → a < (range (get_or xs k d)).low)
      → n ≡ suc j
  place_of floor [] a j n up l at bound before after = absurd (omega arith)
  place_of floor (x ∷ xs) a j n up l at bound before after =
      let here = at x in
      let within : n ≤ j → a < (range (get_or (x ∷ xs) j x)).low = λ h. after j x h l in
      let last : suc j < n → (range (get_or (x ∷ xs) j x)).high ≤ (range (get_or (x ∷ xs) (n - 1) x)).low
      = λ h. one_after range floor (x ∷ xs) j (n - 1) x up (omega arith) (omega arith) in
      let low : 0 < n → (range (get_or (x ∷ xs) (n - 1) x)).low ≤ a = λ h. before (n - 1) x (omega arith) in
      let full = each_above range floor (x ∷ xs) j x up l in
      grind arith

  -- what is left without the one thing that begins at an address
  pub removed_at : (test : X → Bool) (floor : ℕ) (xs : List X) (a j : ℕ) → Ascends range floor xs → j < length xs
      → ((d : X) → (range (get_or xs j d)).low ≡ a) → ((d : X) → test (get_or xs j d) ≡ true)
      → ((x : X) → (range x).low ≢ a → test x ≡ false) → remove xs j ≡ filter (λ x. not (test x)) xs
  removed_at test floor xs a j up l at hit miss =
      remove_is_filter test xs j l hit
      (λ k d m apart. miss (get_or xs k d) (λ same. begin_apart floor xs k j d up m l apart (same ∙ sym (at d))))
    where
      all_kept : (test : X → Bool) (xs : List X) → ((k : ℕ) (d : X) → k < length xs → test (get_or xs k d) ≡ false)
          → xs ≡ filter (λ x. not (test x)) xs
      all_kept test [] miss = refl
      all_kept test (x ∷ xs) miss =
          rw (miss 0 x (omega arith)) (ap (λ (ys : List X). x ∷ ys)
          (all_kept test xs (λ k d l. miss (suc k) d (omega arith))))

      remove_is_filter : (test : X → Bool) (xs : List X) (j : ℕ) → j < length xs
          → ((d : X) → test (get_or xs j d) ≡ true)
          → ((k : ℕ) (d : X) → k < length xs → k ≢ j → test (get_or xs k d) ≡ false)
          → remove xs j ≡ filter (λ x. not (test x)) xs
      remove_is_filter test [] j l hit miss = absurd (omega arith)
      remove_is_filter test (x ∷ xs) zero l hit miss =
          rw (hit x) (all_kept test xs (λ k d m. miss (suc k) d (omega arith) (omega arith)))
      remove_is_filter test (x ∷ xs) (suc j) l hit miss =
          rw (miss 0 x (omega arith) (omega arith))
          (ap (λ (ys : List X). x ∷ ys) (remove_is_filter test xs j (omega arith) hit
          (λ k d m apart. miss (suc k) d (omega arith) (omega arith))))

  -- what is left after the last of those that begin at or below an address was taken out
  pub taken_out : (test : X → Bool) (floor : ℕ) (xs : List X) (a j n : ℕ) → Ascends range floor xs → j < length xs
      → ((d : X) → (range (get_or xs j d)).low ≡ a) → ((d : X) → test (get_or xs j d) ≡ true)
      → ((x : X) → (range x).low ≢ a → test x ≡ false) → n ≡ suc j → remove xs (n - 1) ≡ filter (λ x. not (test x)) xs
  taken_out test floor xs a j n up l at hit miss place =
      let e : n - 1 ≡ j = omega arith in
      rw e (removed_at test floor xs a j up l at hit miss)

pub All-without_first : (P : Range → Type 0) (range : Range) (ranges : List Range) → All P ranges
    → All P (without_first range ranges)
All-without_first P range [] all = all
All-without_first P range (other ∷ others) all =
    let rest = All-without_first P range others (All-tail P other others all) in
    elim (are_same other range) as (λ b. All P (cond b others (other ∷ without_first range others))) [
      | true ↦ All-tail P other others all
      | false ↦ All-cons P other (without_first range others) (All-head P other others all) rest
    ]

pub are_same_self : (range : Range) → are_same range range ≡ true
are_same_self range = grind (arith, nat_tests)

remove_later : (x : Range) (xs : List Range) (n : ℕ) → remove (x ∷ xs) (1 + n) ≡ x ∷ remove xs n
remove_later x xs n = let e : 1 + n ≡ suc n = omega arith in rw e refl

remove_first : (range : Range) (ranges : List Range)
    → remove ranges (position_or_len (λ other. are_same other range) ranges) ≡ without_first range ranges
remove_first range [] = refl
remove_first range (other ∷ others) =
    let n = position_or_len (λ x. are_same x range) others in
    elim (are_same other range)
    as (λ b. remove (other ∷ others) (cond (not b) (1 + n) 0) ≡ cond b others (other ∷ without_first range others)) [
      | true ↦ refl
      | false ↦ remove_later other others n ∙ ap (λ (rs : List Range). other ∷ rs) (remove_first range others)
    ]

-- a range that is one of some is found, at the first place where it stands
found_first : (range : Range) (ranges : List Range) → Contains ranges range
    → position_or_len (λ other. are_same other range) ranges < length ranges
found_first range ranges (k, l, at) = elim (cases (position_or_len (λ x. are_same x range) ranges) (length ranges)) [
  | inl h ↦ h
  | inr h ↦
      let passes = prefix_len_passes (λ x. not (are_same x range)) ranges k range (omega arith) in
      let hit : are_same (get_or ranges k range) range ≡ true = rw at (are_same_self range) in
      let missed : not true ≡ true = rw hit at passes in
      absurd (cc)
]
  where
    cases : (m n : ℕ) → (m < n) ⊎ (n ≤ m)
    cases m n = grind arith

abbrev pub first_place : Range → List Range → Option ℕ
first_place range ranges = position (λ other. are_same other range) ranges

pub first_is : (range : Range) (ranges : List Range) → Contains ranges range
    → first_place range ranges ≡ Some (position_or_len (λ other. are_same other range) ranges)
first_is range ranges there =
    let n = position_or_len (λ other. are_same other range) ranges in
    let l = found_first range ranges there in
    let hit : nat_lt n (length ranges) ≡ true = grind (arith, nat_tests) in
    rw hit refl

pub removed_first : (range : Range) (ranges : List Range) (place : ℕ) → Contains ranges range
    → first_place range ranges ≡ Some place → remove ranges place ≡ without_first range ranges
removed_first range ranges place there at =
    let n = position_or_len (λ other. are_same other range) ranges in
    let same : place ≡ n = let e = sym at ∙ first_is range ranges there in cc in
    rw same (remove_first range ranges)

-- what is left of a list from a place on, after the thing there or a later one was taken out
pub front_passed : (n : ℕ) (ranges : List Range) → remove (drop n ranges) 0 ≡ drop (n + 1) ranges
front_passed n ranges = drop-drop 1 n ranges

remove_none : (k : ℕ) → remove {X = Range} [] k ≡ []
remove_none zero = refl
remove_none (suc k) = refl

pub removed_behind : (n j : ℕ) (ranges : List Range) → drop n (remove ranges (n + j)) ≡ remove (drop n ranges) j
removed_behind zero j ranges = let e : 0 + j ≡ j = omega arith in rw e refl
removed_behind (suc n) j [] = ap (drop (suc n)) (remove_none (suc n + j)) ∙ sym (remove_none j)
removed_behind (suc n) j (range ∷ ranges) =
    let e : suc n + j ≡ 1 + (n + j) = omega arith in
    rw e (ap (drop (suc n)) (remove_later range ranges (n + j)) ∙ removed_behind n j ranges)
