-- Where no body of a function that is retired overlaps another one, what is retired lies apart.
use Rattle.std.proofs.Common.{◌≡◌, ◌≢◌, ℕ, zero, suc, ◌+◌, ◌<◌, ◌≤◌, Bool, true, false, cond, not, ◌||◌}
use Rattle.std.proofs.Common.{◌⊎◌, inl, inr, List, [], ◌∷◌, ◌++◌, map, length, get_or, max, Option, Some, None}
use Rattle.std.proofs.Common.{option_map, refl, sym, ap, ◌∙◌, arith}
use Rattle.std.specs.List.{All, AllPairs, IsDistinct, filter, find, list_any}
use Rattle.std.specs.Option.{option_or}
use Rattle.std.specs.Cmp.Lexicographic.{bytes_decides}
use Rattle.std.proofs.lemmas.Bool.{eqb-true, and_parts, cases_Bool}
use Rattle.std.proofs.lemmas.List.Folds.{find-append}
use Rattle.std.proofs.lemmas.List.Elements.{All-head, All-tail, All-cons}
use Rattle.std.proofs.lemmas.Map.Made.{AllPairs-from_IsDistinct}
use Rattle.ks_base.specs.declared.places.Range.{Range}
use Rattle.ks_base.specs.declared.refusals.Refusal.TheVariants.{Overlap}
use Rattle.i386_reloc.specs.BelowLaws.{none_second}
use Rattle.i386_reloc.specs.Normal.{same_bytes}
use Rattle.i386_reloc.specs.Refused.{first_among}
use Rattle.image_memory.specs.Ranges.{meets, MeetsNone, from_to}
use Rattle.image_memory.specs.Contents.{Contents}
use Rattle.image_memory.specs.Fetch.{jump_length}
use Rattle.symbol_table.specs.declared.symbols.Symbol.{Symbol}
use Rattle.image_memory.specs.laws.RangeLaws.{they_meet, meet_where}
use Rattle.update_retired.specs.declared.types.OldFunction.{OldFunction}
use Rattle.update_retired.specs.Retired.{body_range, is_first, is_replaced, is_retired, retired_by}
use Rattle.update_retired.specs.Retired.{retired_range, section_of, takes_jump}
use Rattle.update_retired.specs.Overlaps.{LieApart, code_refusal, is_other, other_bodies, overlap_refusal, overlap_with}
use Rattle.update_retired.specs.Overlaps.{room_refusal}
use Rattle.update_retired.proofs.ListLaws.{among_none, find_none}

-- ---- lists of which some items are taken
All-taken : {X Y : Type 0} (f : X → Y) (p : X → Bool) (P : Y → Type 0) (xs : List X) →
    All (λ x. p x ≡ true → P (f x)) xs → All P (map f (filter p xs))
All-taken f p P [] all = λ k d less. absurd (omega arith)
All-taken {X} {Y} f p P (x ∷ xs) all =
    let rest = All-taken f p P xs (All-tail (λ y. p y ≡ true → P (f y)) x xs all) in
    elim (p x) as (λ b. p x ≡ b → All P (map f (cond b (x ∷ filter p xs) (filter p xs)))) [
      | true ↦ λ e. All-cons P (f x) (map f (filter p xs)) (All-head (λ y. p y ≡ true → P (f y)) x xs all e) rest
      | false ↦ λ e. rest
    ] refl

pairs_cons : {Y : Type 0} (R : Y → Y → Type 0) (y : Y) (ys : List Y) → All (R y) ys → AllPairs R ys → AllPairs R
    (y ∷ ys)
pairs_cons R y ys first rest i zero d less within = absurd (omega arith)
pairs_cons R y ys first rest zero (suc j) d less within = first j d (omega arith)
pairs_cons R y ys first rest (suc i) (suc j) d less within = rest i j d (omega arith) (omega arith)

pairs_head : {X : Type 0} (R : X → X → Type 0) (x : X) (xs : List X) → AllPairs R (x ∷ xs) → All (R x) xs
pairs_head R x xs all k d less = all zero (suc k) d (omega arith) (omega arith)

pairs_tail : {X : Type 0} (R : X → X → Type 0) (x : X) (xs : List X) → AllPairs R (x ∷ xs) → AllPairs R xs
pairs_tail R x xs all i j d less within = all (suc i) (suc j) d (omega arith) (omega arith)

pairs_taken : {X Y : Type 0} (f : X → Y) (p : X → Bool) (R : Y → Y → Type 0) (xs : List X) →
    AllPairs (λ x y. p x ≡ true → p y ≡ true → R (f x) (f y)) xs → AllPairs R (map f (filter p xs))
pairs_taken f p R [] all = λ i j d less within. absurd (omega arith)
pairs_taken {X} {Y} f p R (x ∷ xs) all =
    let S : X → X → Type 0 = λ z y. p z ≡ true → p y ≡ true → R (f z) (f y) in
    let rest = pairs_taken f p R xs (pairs_tail S x xs all) in
    elim (p x) as (λ b. p x ≡ b → AllPairs R (map f (cond b (x ∷ filter p xs) (filter p xs)))) [
      | true ↦ λ e. pairs_cons R (f x) (map f (filter p xs))
          (All-taken f p (R (f x)) xs (λ k d less. pairs_head S x xs all k d less e)) rest
      | false ↦ λ e. rest
    ] refl

-- ---- what is known of one function that is retired
option_none : {X Y : Type 0} (f : X → Y) (o : Option X) → option_map f o ≡ None → o ≡ None
option_none f None e = refl
option_none f (Some x) e = absurd cc

not_met : (retired : List Range) (olds : List OldFunction) (old : OldFunction) → is_retired old.fate ≡ true →
    overlap_refusal retired olds old ≡ None → find (meets (retired_range old)) (other_bodies old olds ++ retired) ≡ None
not_met retired olds old is none =
    option_none (λ (other : Range). Overlap (retired_range old).low other.low) (find (meets (retired_range old))
    (other_bodies old olds ++ retired))
    (sym (ap (λ b. cond b (overlap_with (retired_range old) (other_bodies old olds ++ retired)) None) is) ∙ none)

or_none : {X : Type 0} (a b : Option X) → option_or a b ≡ None → (a ≡ None) × (b ≡ None)
or_none None b e = (refl, e)
or_none (Some x) b e = absurd cc

none_any : {X : Type 0} (p : X → Bool) (xs : List X) → find p xs ≡ None → list_any p xs ≡ false
none_any p [] none = refl
none_any p (x ∷ xs) none =
    elim (p x) as (λ b. cond b (Some x) (find p xs) ≡ None → (b || list_any p xs) ≡ false) [
      | true ↦ λ e. absurd cc
      | false ↦ λ e. none_any p xs e
    ] none

other_apart : (p : Range → Bool) (old : OldFunction) (olds : List OldFunction) (j : ℕ) (d : OldFunction) →
    find p (other_bodies old olds) ≡ None → j < length olds → is_other old (get_or olds j d) ≡ true →
    p (body_range (get_or olds j d)) ≡ false
other_apart p old [] j d none within other = absurd (omega arith)
other_apart p old (x ∷ xs) zero d none within other =
    let first : find p (body_range x ∷ other_bodies old xs) ≡ None =
    sym (ap (λ b. find p (map body_range (cond b (x ∷ filter (is_other old) xs) (filter (is_other old) xs)))) other) ∙
    none in
    find_none p (body_range x ∷ other_bodies old xs) zero (body_range x) first (omega arith)
other_apart p old (x ∷ xs) (suc j) d none within other =
    elim (is_other old x) as (λ b. find p (map body_range (cond b (x ∷ filter (is_other old) xs)
    (filter (is_other old) xs))) ≡ None → p (body_range (get_or xs j d)) ≡ false) [
      | true ↦ λ e. elim (p (body_range x)) as (λ b. cond b (Some (body_range x)) (find p (other_bodies old xs)) ≡ None
          → p (body_range (get_or xs j d)) ≡ false) [
            | true ↦ λ f. absurd cc
            | false ↦ λ f. other_apart p old xs j d f (omega arith) other
          ] e
      | false ↦ λ e. other_apart p old xs j d e (omega arith) other
    ] none

-- ---- two ranges that are retired
record Bounds (old : OldFunction) : Type 0 where
  low : (retired_range old).low ≡ old.base
  high : old.base + old.length ≤ (retired_range old).high

bounds_by : (old : OldFunction) (b : Bool) → takes_jump old ≡ b → Bounds old
bounds_by old true jump =
    let first : old.base ≡ old.home = eqb-true old.base old.home (and_parts (is_replaced old.fate) (is_first old)
    jump).1 in
    let is : retired_range old ≡ from_to old.home (old.home + max old.length jump_length) =
    ap (λ c. cond c (from_to old.home (old.home + max old.length jump_length)) (body_range old)) jump in
    record {
      low = ap (λ (r : Range). r.low) is ∙ sym first;
      high = (let high = ap (λ (r : Range). r.high) is in omega (arith, high, first));
    }
bounds_by old false later =
    let is : retired_range old ≡ body_range old =
    ap (λ c. cond c (from_to old.home (old.home + max old.length jump_length)) (body_range old)) later in
    record {
      low = ap (λ (r : Range). r.low) is;
      high = (let high = ap (λ (r : Range). r.high) is in omega (arith, high));
    }

bounds : (old : OldFunction) → Bounds old
bounds old = bounds_by old (takes_jump old) refl

le_or_ge : (a b : ℕ) → (a ≤ b) ⊎ (b ≤ a)
le_or_ge a b = grind arith

-- of two that meet, the one with the greater low begins in the other, and so does its body
apart_by_bodies : (a b : OldFunction) → 0 < a.length → 0 < b.length → meets (retired_range a) (body_range b) ≡ false →
    meets (retired_range b) (body_range a) ≡ false → meets (retired_range a) (retired_range b) ≡ false
apart_by_bodies a b some_a some_b a_apart b_apart =
    elim (cases_Bool (meets (retired_range a) (retired_range b))) [
      | inl met ↦
          let m = they_meet (retired_range a) (retired_range b) met in
          let of_a = bounds a in
          let of_b = bounds b in
          let low_a = of_a.low in
          let low_b = of_b.low in
          let high_a = of_a.high in
          let high_b = of_b.high in
          let first = m.first in
          let second = m.second in
          elim (le_or_ge a.base b.base) [
            | inl le ↦
                let hit = meet_where (retired_range a) (body_range b) (omega (arith, low_a, le, some_b))
                (omega (arith, second, low_b)) (omega (arith, low_a, high_a, some_a)) (omega (arith, some_b)) in
                absurd cc
            | inr ge ↦
                let hit = meet_where (retired_range b) (body_range a) (omega (arith, low_b, ge, some_a))
                (omega (arith, first, low_a)) (omega (arith, low_b, high_b, some_b)) (omega (arith, some_a)) in
                absurd cc
          ]
      | inr apart ↦ apart
    ]

-- ---- the functions of an old object, no two of one section
get_map : {X Y : Type 0} (f : X → Y) (xs : List X) (i : ℕ) (d : X) → get_or (map f xs) i (f d) ≡ f (get_or xs i d)
get_map f [] i d = refl
get_map f (x ∷ xs) zero d = refl
get_map f (x ∷ xs) (suc i) d = get_map f xs i d

length_map : {X Y : Type 0} (f : X → Y) (xs : List X) → length (map f xs) ≡ length xs
length_map f [] = refl
length_map f (x ∷ xs) = ap suc (length_map f xs)

differ : (a b : List ℕ) → a ≢ b → not (same_bytes a b) ≡ true
differ a b apart =
    elim (cases_Bool (same_bytes a b)) [
      | inl same ↦ absurd (apart ((bytes_decides a b).0 same))
      | inr other ↦ ap not other
    ]

module _ (retired : List Range) (olds : List OldFunction) (distinct : IsDistinct same_bytes (map section_of olds))
    (some : All (λ (old : OldFunction). 0 < old.length) olds) (none : first_among (overlap_refusal retired olds) olds ≡
    None) where
  sections_differ : (i j : ℕ) (d : OldFunction) → i < j → j < length olds →
      section_of (get_or olds i d) ≢ section_of (get_or olds j d)
  sections_differ i j d less within same =
      let long = length_map section_of olds in
      AllPairs-from_IsDistinct bytes_decides (map section_of olds) distinct i j (section_of d) less
      (omega (arith, long, within))
      (get_map section_of olds i d ∙ same ∙ sym (get_map section_of olds j d))

  alone : (i : ℕ) (d : OldFunction) → i < length olds → is_retired (get_or olds i d).fate ≡ true →
      find (meets (retired_range (get_or olds i d))) (other_bodies (get_or olds i d) olds ++ retired) ≡ None
  alone i d within is =
      not_met retired olds (get_or olds i d) is (among_none (overlap_refusal retired olds) olds i d none within)

  apart_at : (i : ℕ) (d : OldFunction) → i < length olds → is_retired (get_or olds i d).fate ≡ true →
      (find (meets (retired_range (get_or olds i d))) (other_bodies (get_or olds i d) olds) ≡ None)
      × (find (meets (retired_range (get_or olds i d))) retired ≡ None)
  apart_at i d within is =
      let old = get_or olds i d in
      or_none (find (meets (retired_range old)) (other_bodies old olds)) (find (meets (retired_range old)) retired)
      (sym (find-append (meets (retired_range old)) (other_bodies old olds) retired) ∙ alone i d within is)

  pairs_apart : AllPairs (λ (a b : OldFunction). is_retired a.fate ≡ true → is_retired b.fate ≡ true →
      meets (retired_range a) (retired_range b) ≡ false) olds
  pairs_apart i j d less within a_is b_is =
      let a = get_or olds i d in
      let b = get_or olds j d in
      let early : i < length olds = omega (arith, less, within) in
      let ne = sections_differ i j d less within in
      let a_to_b : is_other a b ≡ true = differ b.section a.section (λ e. ne (sym e)) in
      let b_to_a : is_other b a ≡ true = differ a.section b.section ne in
      apart_by_bodies a b (some i d early) (some j d within)
      (other_apart (meets (retired_range a)) a olds j d (apart_at i d early a_is).0 within a_to_b)
      (other_apart (meets (retired_range b)) b olds i d (apart_at j d within b_is).0 early b_to_a)

  pub lie_apart : LieApart (retired_by olds) retired
  unfolding retired_by
  lie_apart = record {
    full = All-taken retired_range (λ old. is_retired old.fate) (λ range. range.low < range.high) olds
        (λ k d within is.
        let of = bounds (get_or olds k d) in
        let low = of.low in
        let high = of.high in
        let long = some k d within in
        omega (arith, low, high, long));
    apart = pairs_taken retired_range (λ old. is_retired old.fate) (λ a b. meets a b ≡ false) olds pairs_apart;
    from_retired = All-taken retired_range (λ old. is_retired old.fate) (λ range. MeetsNone (λ (other : Range). other)
        range retired) olds
        (λ k d within is. none_any (meets (retired_range (get_or olds k d))) retired (apart_at k d within is).1);
  }

pub retired_apart : (contents : Contents) (symbols : List Symbol) (retired : List Range) (olds : List OldFunction) →
    IsDistinct same_bytes (map section_of olds) → All (λ (old : OldFunction). 0 < old.length) olds →
    code_refusal contents symbols retired olds ≡ None → LieApart (retired_by olds) retired
unfolding code_refusal
retired_apart contents symbols retired olds distinct some none =
    lie_apart retired olds distinct some
    (none_second (first_among (room_refusal contents symbols) olds) (first_among (overlap_refusal retired olds) olds)
    none)
