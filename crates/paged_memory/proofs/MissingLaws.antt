-- How many pages ranges need that aren't there: what makes them fewer, and how they are counted.
use Rattle.std.proofs.Common.{◌≡◌, ℕ, zero, suc, ◌+◌, ◌-◌, ◌*◌, ◌/◌, ◌≤◌, ◌<◌, Bool, true, false, cond, not, ◌&&◌, ◌||◌}
use Rattle.std.proofs.Common.{List, [], ◌∷◌, ◌++◌, length, get_or, refl, ap, sym, ◌∙◌, arith, ◌⊎◌, inl, inr, Option, map, append_assoc, append-nil}
use Rattle.std.proofs.Common.{nat_eq}
use Rattle.std.specs.Option.{is_some}
use Rattle.std.specs.List.{All, AllPairs, Contains, filter, flat_map, list_any}
use Rattle.std.specs.List.Sorted.{IsStrictlyIncreasing}
use Rattle.std.proofs.lemmas.Bool.{and_parts, and_from, and_right, or_cases, or_left, or_right}
use Rattle.std.proofs.lemmas.Bool.Decides.{nat_tests}
use Rattle.std.proofs.lemmas.List.Concat.{flat_map-cons}
use Rattle.std.proofs.lemmas.List.Elements.{Contains-append_left, Contains-append_right, Contains-append_cases, Contains-get_or}
use Rattle.std.proofs.lemmas.List.Folds.{list_any-from_Any}
use Rattle.std.proofs.lemmas.List.Kept.{AllPairs-from_increasing}
use Rattle.ks_base.specs.declared.places.Range.{Range}
use Rattle.image_memory.specs.Ranges.{are_same, from_to}
use Rattle.image_memory.specs.Changes.{without_first, IsPlaceable}
use Rattle.image_memory.specs.laws.RangeLaws.{they_meet, meet_where}
use Rattle.paged_memory.specs.declared.types.Page.{Page}
use Rattle.paged_memory.specs.Pages.{page_at}
use Rattle.paged_memory.specs.inside.Missing.{has_page, is_missing, is_needed, count_below, missing, count_up, numbers_in}
use Rattle.paged_memory.proofs.CountLaws.{other, keeps}
use Rattle.paged_memory.proofs.PutLaws.{page_at-kept, some-kept}

-- fewer numbers pass a test that says less
count_fewer : (p q : ℕ → Bool) (n : ℕ) → ((k : ℕ) → k < n → p k ≡ true → q k ≡ true)
    → count_below p n ≤ count_below q n
unfolding count_below
count_fewer p q zero more = omega arith
count_fewer p q (suc n) more =
    by_tests (count_fewer p q n (λ k l h. more k (omega arith) h)) (p n) (q n) refl refl
  where
    by_tests : count_below p n ≤ count_below q n → (b c : Bool) → p n ≡ b → q n ≡ c
        → cond b (count_below p n + 1) (count_below p n) ≤ cond c (count_below q n + 1) (count_below q n)
    by_tests rest true true e f = omega arith
    by_tests rest false true e f = omega arith
    by_tests rest false false e f = rest
    by_tests rest true false e f = let h = more n (omega arith) e in absurd (cc)

-- one fewer where a number that passes the one test fails the other
count_less : (p q : ℕ → Bool) (n m : ℕ) → m < n → ((k : ℕ) → k < n → p k ≡ true → q k ≡ true) → q m ≡ true
    → p m ≡ false → count_below p n + 1 ≤ count_below q n
unfolding count_below
count_less p q zero m l more pass fail = absurd (omega arith)
count_less p q (suc n) m l more pass fail =
    by_place (λ before. count_less p q n m before (λ k h i. more k (omega arith) i) pass fail) (places m n l)
  where
    places : (m n : ℕ) → m < suc n → (m < n) ⊎ (m ≡ n)
    places m n l = grind arith

    by_tests : count_below p n + 1 ≤ count_below q n → (b c : Bool) → p n ≡ b → q n ≡ c
        → cond b (count_below p n + 1) (count_below p n) + 1 ≤ cond c (count_below q n + 1) (count_below q n)
    by_tests rest true true e f = omega arith
    by_tests rest false true e f = omega arith
    by_tests rest false false e f = rest
    by_tests rest true false e f = let h = more n (omega arith) e in absurd (cc)

    by_place : (m < n → count_below p n + 1 ≤ count_below q n) → (m < n) ⊎ (m ≡ n)
        → cond (p n) (count_below p n + 1) (count_below p n) + 1 ≤ cond (q n) (count_below q n + 1) (count_below q n)
    by_place rest (inl before) = by_tests (rest before) (p n) (q n) refl refl
    by_place rest (inr last) =
        let fewer = count_fewer p q n (λ k h i. more k (omega arith) i) in
        let passes : q n ≡ true = ap q (sym last) ∙ pass in
        let fails : p n ≡ false = ap p (sym last) ∙ fail in
        rw (passes, fails) (omega arith)

count_some : (q : ℕ → Bool) (n m : ℕ) → m < n → q m ≡ true → 0 < count_below q n
count_some q n m l pass =
    let less = count_less (λ k. false) q n m l (λ k h i. absurd (cc)) pass refl in omega arith

count_none : (p : ℕ → Bool) (n : ℕ) → ((k : ℕ) → p k ≡ false) → count_below p n ≡ 0
unfolding count_below
count_none p zero fail = refl
count_none p (suc n) fail = rw (fail n) (count_none p n fail)

-- one that passes is gone
drops : (q : ℕ → Bool) (n : ℕ) (ys : List ℕ) (k : ℕ) → k < length ys → get_or ys k n ≡ n → q n ≡ true
    → suc (length (filter q (filter (other n) ys))) ≤ length (filter q ys)
drops q n [] k l is pass = absurd (omega arith)
drops q n (y ∷ ys) zero l is pass =
    let hit : nat_eq y n ≡ true = grind (arith, nat_tests) in
    let passes : q y ≡ true = ap q is ∙ pass in
    let rest = fewer ys in
    rw (hit, passes) (omega arith)
  where
    fewer : (zs : List ℕ) → length (filter q (filter (other n) zs)) ≤ length (filter q zs)
    fewer [] = omega arith
    fewer (z ∷ zs) =
        let rest = fewer zs in
        elim (nat_eq z n)
        as (λ b. length (filter q (cond (not b) (z ∷ filter (other n) zs) (filter (other n) zs))) ≤ length (filter q (z ∷ zs))) [
          | true ↦ elim (q z) as (λ c. length (filter q (filter (other n) zs)) ≤ length (cond c (z ∷ filter q zs) (filter q zs))) [
            | true ↦ omega arith
            | false ↦ rest
          ]
          | false ↦ elim (q z)
              as (λ c. length (cond c (z ∷ filter q (filter (other n) zs)) (filter q (filter (other n) zs)))
              ≤ length (cond c (z ∷ filter q zs) (filter q zs))) [
                | true ↦ omega arith
                | false ↦ rest
              ]
        ]
drops q n (y ∷ ys) (suc k) l is pass =
    let rest = drops q n ys k (omega arith) is pass in
    elim (nat_eq y n)
    as (λ b. suc (length (filter q (cond (not b) (y ∷ filter (other n) ys) (filter (other n) ys)))) ≤ length (filter q (y ∷ ys))) [
      | true ↦ elim (q y) as (λ c. suc (length (filter q (filter (other n) ys))) ≤ length (cond c (y ∷ filter q ys) (filter q ys))) [
        | true ↦ omega arith
        | false ↦ rest
      ]
      | false ↦ elim (q y)
          as (λ c. suc (length (cond c (y ∷ filter q (filter (other n) ys)) (filter q (filter (other n) ys))))
          ≤ length (cond c (y ∷ filter q ys) (filter q ys))) [
            | true ↦ omega arith
            | false ↦ rest
          ]
    ]

-- numbers that pass are no more than those of a list that has them all
count_fits : (p q : ℕ → Bool) (n : ℕ) (ys : List ℕ) → ((k : ℕ) → k < n → p k ≡ true → Contains ys k)
    → ((k : ℕ) → k < n → p k ≡ true → q k ≡ true) → count_below p n ≤ length (filter q ys)
unfolding count_below
count_fits p q zero ys has more = omega arith
count_fits p q (suc n) ys has more =
    by_test (λ zs there. count_fits p q n zs there (λ k l h. more k (omega arith) h)) (p n) refl
  where
    differ : (a b : ℕ) → a < b → nat_eq a b ≡ false
    differ a b l = grind (arith, nat_tests)

    by_test : ((zs : List ℕ) → ((k : ℕ) → k < n → p k ≡ true → Contains zs k) → count_below p n ≤ length (filter q zs))
        → (b : Bool) → p n ≡ b → cond b (count_below p n + 1) (count_below p n) ≤ length (filter q ys)
    by_test rest false e = rest ys (λ k l h. has k (omega arith) h)
    by_test rest true e =
        let here = has n (omega arith) e in
        let less = drops q n ys here.0 here.1 here.2 (more n (omega arith) e) in
        let fewer = rest (filter (other n) ys)
        (λ k l h.
        let there = has k (omega arith) h in
        keeps n k ys there.0 there.1 there.2 (differ k n l)) in
        omega arith

-- and no fewer, where the list has each once and no others
count_has : (p q : ℕ → Bool) (n : ℕ) (ys : List ℕ) → AllPairs (λ x y. x < y) ys
    → ((k d : ℕ) → k < length ys → get_or ys k d < n)
    → ((k d : ℕ) → k < length ys → q (get_or ys k d) ≡ true → p (get_or ys k d) ≡ true)
    → length (filter q ys) ≤ count_below p n
count_has p q n [] up below passes = omega arith
count_has p q n (y ∷ ys) up below passes =
    by_test
    (λ test each. count_has test q n ys (λ i j d l m. up (suc i) (suc j) d (omega arith) (omega arith))
    (λ k d l. below (suc k) d (omega arith)) each)
    (q y) refl
  where
    without : ℕ → Bool
    without k = p k && other y k

    differ : (a b : ℕ) → b < a → other b a ≡ true
    differ a b l = grind (arith, nat_tests)

    itself : other y y ≡ false
    itself = let hit : nat_eq y y ≡ true = grind (arith, nat_tests) in rw hit refl

    by_test : ((test : ℕ → Bool)
        → ((k d : ℕ) → k < length ys → q (get_or ys k d) ≡ true → test (get_or ys k d) ≡ true)
        → length (filter q ys) ≤ count_below test n)
        → (b : Bool) → q y ≡ b → length (cond b (y ∷ filter q ys) (filter q ys)) ≤ count_below p n
    by_test rest false e = rest p (λ k d l h. passes (suc k) d (omega arith) h)
    by_test rest true e =
        let others = rest without (λ k d l h.
        let above = up 0 (suc k) d (omega arith) (omega arith) in
        and_from (p (get_or ys k d)) (other y (get_or ys k d)) (passes (suc k) d (omega arith) h)
        (differ (get_or ys k d) y above)) in
        let less = count_less without p n y (below 0 y (omega arith)) (λ k l h. (and_parts (p k) (other y k) h).0)
        (passes 0 y (omega arith) e) (and_right (p y) (other y y) itself) in
        omega arith

-- each range but one needs no more
without_has : (test : Range → Bool) (range : Range) (rs : List Range) → list_any test (without_first range rs) ≡ true
    → list_any test rs ≡ true
without_has test range [] h = h
without_has test range (r ∷ rs) h =
    by_test (λ later. without_has test range rs later) (are_same r range) h
  where
    by_test : (list_any test (without_first range rs) ≡ true → list_any test rs ≡ true) → (b : Bool)
        → list_any test (cond b rs (r ∷ without_first range rs)) ≡ true → (test r || list_any test rs) ≡ true
    by_test rest true e = or_right (test r) (list_any test rs) e
    by_test rest false e = elim (or_cases (test r) (list_any test (without_first range rs)) e) [
      | inl here ↦ or_left (test r) (list_any test rs) here
      | inr later ↦ or_right (test r) (list_any test rs) (rest later)
    ]

pub missing-without : (range : Range) (rs : List Range) (ps : List Page)
    → missing (without_first range rs) ps ≤ missing rs ps
unfolding missing
missing-without range rs ps =
    count_fewer (is_needed (without_first range rs) ps) (is_needed rs ps) 1048576 (λ k l h.
    let parts = and_parts (list_any (has_page k) (without_first range rs)) (is_missing ps k) h in
    and_from (list_any (has_page k) rs) (is_missing ps k) (without_has (has_page k) range rs parts.0) parts.1)

-- one of the ranges needs no more than all
pub missing-one : (range : Range) (rs : List Range) (ps : List Page) → Contains rs range
    → missing (range ∷ []) ps ≤ missing rs ps
unfolding missing
missing-one range rs ps in_rs =
    count_fewer (is_needed (range ∷ []) ps) (is_needed rs ps) 1048576 (λ k l h.
    let parts = and_parts (has_page k range || false) (is_missing ps k) h in
    and_from (list_any (has_page k) rs) (is_missing ps k) (elim (or_cases (has_page k range) false parts.0) [
      | inl has ↦ list_any-from_Any (has_page k) rs (in_rs.0, range, in_rs.1, in_rs.2, has)
      | inr none ↦ absurd (cc)
    ]) parts.1)

-- no range needs none
pub missing-none : (ps : List Page) → missing [] ps ≡ 0
unfolding missing
missing-none ps = count_none (is_needed [] ps) 1048576 (λ k. refl)

-- it counts alone which pages are there
missing-same : (rs : List Range) (ps qs : List Page) → ((a : ℕ) → is_some (page_at ps a) ≡ is_some (page_at qs a))
    → missing rs ps ≡ missing rs qs
unfolding missing
missing-same rs ps qs same =
    let most = count_fewer (is_needed rs ps) (is_needed rs qs) 1048576 (λ k l h. alike ps qs k (same (4096 * k)) h) in
    let least = count_fewer (is_needed rs qs) (is_needed rs ps) 1048576 (λ k l h. alike qs ps k (sym (same (4096 * k))) h) in
    omega (arith, most, least)
  where
    alike : (ps qs : List Page) (k : ℕ) → is_some (page_at ps (4096 * k)) ≡ is_some (page_at qs (4096 * k))
        → is_needed rs ps k ≡ true → is_needed rs qs k ≡ true
    alike ps qs k e h =
        let parts = and_parts (list_any (has_page k) rs) (is_missing ps k) h in
        and_from (list_any (has_page k) rs) (is_missing qs k) parts.0 (ap (λ (b : Bool). not b) (sym e) ∙ parts.1)

pub missing-kept : (f : Page → Page) → ((p : Page) → (f p).number ≡ p.number) → (rs : List Range) (ps : List Page)
    → missing rs (map f ps) ≡ missing rs ps
missing-kept f same rs ps =
    missing-same rs (map f ps) ps (λ a.
    ap (λ (q : Option Page). is_some q) (page_at-kept f same ps a) ∙ some-kept f same (page_at ps a))

-- a page that one of the ranges needs is one of those that aren't there, until it is
needed : (rs : List Range) (ps : List Page) (range : Range) (n : ℕ) → Contains rs range → has_page n range ≡ true
    → is_missing ps n ≡ true → is_needed rs ps n ≡ true
needed rs ps range n in_rs has gone =
    and_from (list_any (has_page n) rs) (is_missing ps n) (list_any-from_Any (has_page n) rs (in_rs.0, range, in_rs.1, in_rs.2, has)) gone

pub missing-some : (rs : List Range) (ps : List Page) (range : Range) (n : ℕ) → Contains rs range
    → has_page n range ≡ true → n < 1048576 → is_missing ps n ≡ true → 0 < missing rs ps
unfolding missing
missing-some rs ps range n in_rs has l gone =
    count_some (is_needed rs ps) 1048576 n l (needed rs ps range n in_rs has gone)

pub missing-less : (rs : List Range) (ps qs : List Page) (range : Range) (n : ℕ) → Contains rs range
    → has_page n range ≡ true → n < 1048576 → is_missing qs n ≡ true → is_missing ps n ≡ false
    → ((k : ℕ) → is_missing ps k ≡ true → is_missing qs k ≡ true) → missing rs ps + 1 ≤ missing rs qs
unfolding missing
missing-less rs ps qs range n in_rs has l gone there others =
    count_less (is_needed rs ps) (is_needed rs qs) 1048576 n l
    (λ k m h.
    let parts = and_parts (list_any (has_page k) rs) (is_missing ps k) h in
    and_from (list_any (has_page k) rs) (is_missing qs k) parts.0 (others k parts.1))
    (needed rs qs range n in_rs has gone) (and_right (list_any (has_page n) rs) (is_missing ps n) there)

-- numbers in order
length-count_up : (first n : ℕ) → length (count_up first n) ≡ n
unfolding count_up
length-count_up first zero = refl
length-count_up first (suc n) = ap suc (length-count_up (first + 1) n)

get_or-count_up : (first n k d : ℕ) → k < n → get_or (count_up first n) k d ≡ first + k
unfolding count_up
get_or-count_up first zero k d l = absurd (omega arith)
get_or-count_up first (suc n) zero d l = omega arith
get_or-count_up first (suc n) (suc k) d l = let rest = get_or-count_up (first + 1) n k d (omega arith) in omega arith

count_up-more : (first n : ℕ) → count_up first n ++ (first + n) ∷ [] ≡ count_up first (n + 1)
unfolding count_up
count_up-more first zero = ap (λ (x : ℕ). x ∷ []) (omega arith)
count_up-more first (suc n) =
    let next : first + suc n ≡ (first + 1) + n = omega arith in
    let one : suc n + 1 ≡ suc (n + 1) = omega arith in
    rw (next, one) (ap (λ (xs : List ℕ). first ∷ xs) (count_up-more (first + 1) n))

-- numbers pushed in order behind others
pub count_up-none : (xs : List ℕ) (low : ℕ) → xs ≡ xs ++ count_up low (low - low)
unfolding count_up
count_up-none xs low = let none : low - low ≡ 0 = omega arith in rw none (sym (append-nil xs))

pub count_up-next : (xs ys : List ℕ) (low n : ℕ) → low ≤ n → ys ≡ xs ++ count_up low (n - low)
    → ys ++ n ∷ [] ≡ xs ++ count_up low (n + 1 - low)
count_up-next xs ys low n l is =
    let next : n + 1 - low ≡ (n - low) + 1 = omega arith in
    let here : low + (n - low) ≡ n = omega arith in
    ap (λ (zs : List ℕ). zs ++ n ∷ []) is
    ∙ (append_assoc xs (count_up low (n - low)) (n ∷ [])
    ∙ ap (λ (zs : List ℕ). xs ++ zs)
    (ap (λ (k : ℕ). count_up low (n - low) ++ k ∷ []) (sym here)
    ∙ (count_up-more low (n - low) ∙ ap (λ (k : ℕ). count_up low k) (sym next))))

-- the pages that a range has an address of
page_bounds : (k : ℕ) (r : Range) → has_page k r ≡ true → (r.low / 4096 ≤ k) × (k < (r.high - 1) / 4096 + 1)
page_bounds k r h =
    let m = they_meet r (from_to (4096 * k) (4096 * k + 4096)) h in
    let first = m.first in
    let second = m.second in
    (omega arith, omega arith)

pub page_within : (k : ℕ) (r : Range) → r.low < r.high → r.low / 4096 ≤ k → k < (r.high - 1) / 4096 + 1 → has_page k r ≡ true
page_within k r some low high = meet_where r (from_to (4096 * k) (4096 * k + 4096)) (omega arith) (omega arith) some (omega arith)

numbers_have : (k : ℕ) (r : Range) → has_page k r ≡ true → Contains (numbers_in r) k
numbers_have k r h =
    let low = (page_bounds k r h).0 in
    let high = (page_bounds k r h).1 in
    let first : ℕ = r.low / 4096 in
    let count : ℕ = (r.high - 1) / 4096 + 1 - r.low / 4096 in
    let place : k - first < count = omega arith in
    let is : first + (k - first) ≡ k = omega arith in
    (k - first, rw (length-count_up first count) place, get_or-count_up first count (k - first) k place ∙ is)

numbers_only : (k : ℕ) (r : Range) → r.low < r.high → Contains (numbers_in r) k → has_page k r ≡ true
numbers_only k r some at =
    let first : ℕ = r.low / 4096 in
    let count : ℕ = (r.high - 1) / 4096 + 1 - r.low / 4096 in
    let place : at.0 < count = rw (length-count_up first count) at at.1 in
    let is : first + at.0 ≡ k = sym (get_or-count_up first count at.0 k place) ∙ at.2 in
    page_within k r some (omega arith) (omega arith)

-- the numbers of ranges are those of the pages that they have an address of
all_have : (k : ℕ) (rs : List Range) → list_any (has_page k) rs ≡ true → Contains (flat_map numbers_in rs) k
all_have k [] h = absurd (cc)
all_have k (r ∷ rs) h =
    rw (flat_map-cons numbers_in r rs) (elim (or_cases (has_page k r) (list_any (has_page k) rs) h) [
      | inl here ↦ Contains-append_left (numbers_in r) (flat_map numbers_in rs) k (numbers_have k r here)
      | inr later ↦ Contains-append_right (numbers_in r) (flat_map numbers_in rs) k (all_have k rs later)
    ])

all_only : (k : ℕ) (rs : List Range) → All IsPlaceable rs → Contains (flat_map numbers_in rs) k
    → (list_any (has_page k) rs ≡ true) × (k < 1048576)
all_only k [] placeable at = let l = at.1 in absurd (omega arith)
all_only k (r ∷ rs) placeable at =
    elim (Contains-append_cases (numbers_in r) (flat_map numbers_in rs) k (rw (flat_map-cons numbers_in r rs) at at)) [
      | inl here ↦
          let head = placeable 0 r (omega arith) in
          let has = numbers_only k r head.0 here in
          let high = head.1 in
          let bound = (page_bounds k r has).1 in
          (or_left (has_page k r) (list_any (has_page k) rs) has, omega arith)
      | inr later ↦
          let rest = all_only k rs (λ i d l. placeable (suc i) d (omega arith)) later in
          (or_right (has_page k r) (list_any (has_page k) rs) rest.0, rest.1)
    ]

-- numbers of ranges, each once
pub missing-counted : (rs : List Range) (ps : List Page) (ns : List ℕ) → All IsPlaceable rs → IsStrictlyIncreasing ns
    → ((k : ℕ) → Contains (flat_map numbers_in rs) k → Contains ns k)
    → ((k : ℕ) → Contains ns k → Contains (flat_map numbers_in rs) k) → length (filter (is_missing ps) ns) ≡ missing rs ps
unfolding missing
missing-counted rs ps ns placeable up has only =
    let most = count_fits (is_needed rs ps) (is_missing ps) 1048576 ns
    (λ k l h. has k (all_have k rs (and_parts (list_any (has_page k) rs) (is_missing ps k) h).0))
    (λ k l h. (and_parts (list_any (has_page k) rs) (is_missing ps k) h).1) in
    let least = count_has (is_needed rs ps) (is_missing ps) 1048576 ns (AllPairs-from_increasing ns up)
    (λ k d l. (each k d l).1)
    (λ k d l h. and_from (list_any (has_page (get_or ns k d)) rs) (is_missing ps (get_or ns k d)) (each k d l).0 h) in
    omega (arith, most, least)
  where
    each : (k d : ℕ) → k < length ns → (list_any (has_page (get_or ns k d)) rs ≡ true) × (get_or ns k d < 1048576)
    each k d l = all_only (get_or ns k d) rs placeable (only (get_or ns k d) (Contains-get_or ns k d l))
