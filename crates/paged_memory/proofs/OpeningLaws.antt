-- What new pages leave as it was, and what they add.
use Rattle.std.proofs.Common.{◌≡◌, ℕ, suc, ◌+◌, ◌*◌, ◌≤◌, ◌<◌, Bool, true, false, cond, List, [], ◌∷◌}
use Rattle.std.proofs.Common.{length, get_or, refl, ap, sym, subst, ◌∙◌, arith, ◌⊎◌, inl, inr, Option, Some, None, nat_lt, min, max}
use Rattle.std.specs.Option.{is_some}
use Rattle.std.specs.List.{All, find, filter}
use Rattle.std.proofs.lemmas.Bool.Decides.{nat_tests}
use Rattle.std.proofs.lemmas.List.Folds.{list_any_none}
use Rattle.std.proofs.lemmas.List.Edits.{length-insert, get_or-insert_at}
use Rattle.ks_base.specs.declared.places.Range.{Range}
use Rattle.image_memory.specs.Ranges.{lies_in, meets, MeetsNone, Ascends, put_in}
use Rattle.image_memory.specs.laws.RangeLaws.{within, below, above, each_above, found_here}
use Rattle.image_memory.specs.laws.PutLaws.{insert_is_put, All-put, Ascends-put, not_above}
use Rattle.paged_memory.specs.declared.types.Extent.{Extent}
use Rattle.paged_memory.specs.declared.types.Page.{Page}
use Rattle.paged_memory.specs.Pages.{extent_range, page_range, page_low, extent_at, page_at, ended, begun, ends_by, begins_below}
use Rattle.paged_memory.specs.Pages.{IsHome, IsGap, IsCovered}
use Rattle.std.proofs.Common.{not}
use Rattle.std.specs.List.{Contains}
use Rattle.paged_memory.specs.inside.Missing.{has_page, is_missing, missing}
use Rattle.paged_memory.proofs.MissingLaws.{missing-less}
use Rattle.paged_memory.specs.inside.Opening.{IsPlaceOf, AreLaid, IsInserted, IsOpened, IsOpenTo}
use Rattle.paged_memory.proofs.PageLaws.{numbers_rise, ranked, page_here, page_nowhere, is_none}
use Rattle.paged_memory.proofs.ListLaws.{same_at}

pub place_home : (ps : List Page) (number at : ℕ) → Ascends page_range 0 ps → IsHome ps number at → IsPlaceOf ps number at
place_home ps number at up home = record {
  bound = let l = home.within in omega arith;
  before = λ k d l. let n = home.is d in let r = numbers_rise ps k at d up l home.within in omega arith;
  from = λ k d l m. elim (cases at k l) [
    | inl e ↦ let n = home.is d in rw (← e) (omega arith)
    | inr b ↦ let n = home.is d in let r = numbers_rise ps at k d up b m in omega arith
  ];
}
  where
    cases : (i k : ℕ) → i ≤ k → (i ≡ k) ⊎ (i < k)
    cases i k l = grind arith

pub place_gap : (ps : List Page) (number at : ℕ) → IsGap ps number at → IsPlaceOf ps number at
place_gap ps number at gap = record {
  bound = gap.bound;
  before = gap.before;
  from = λ k d l m. let h = gap.above k d l m in omega arith;
}

-- the place of the next number is the next one
pub place_next : (ps : List Page) (number at : ℕ) → Ascends page_range 0 ps → IsHome ps number at
    → IsPlaceOf ps (number + 1) (at + 1)
place_next ps number at up home = record {
  bound = let l = home.within in omega arith;
  before = λ k d l. elim (ranked k at l) [
    | inl e ↦ let n = home.is d in rw e (omega arith)
    | inr b ↦ let n = home.is d in let r = numbers_rise ps k at d up b home.within in omega arith
  ];
  from = λ k d l m. let n = home.is d in let r = numbers_rise ps at k d up (omega arith) m in omega arith;
}

-- the page at its place, or none where that page has another number
pub home_at : (ps : List Page) (number at : ℕ) (page : Page) → page ≡ get_or ps at page → at < length ps
    → page.number ≡ number → IsHome ps number at
home_at ps number at page is l n = record {
  within = l;
  is = λ d. ap (λ (p : Page). p.number) (same_at ps at d page l ∙ sym is) ∙ n;
}

pub gap_end : (ps : List Page) (number at : ℕ) → IsPlaceOf ps number at → length ps ≤ at → IsGap ps number at
gap_end ps number at place l = record {
  bound = place.bound;
  before = place.before;
  above = λ k d m n. absurd (omega arith);
}

pub gap_at : (ps : List Page) (number at : ℕ) (page : Page) → Ascends page_range 0 ps → IsPlaceOf ps number at
    → page ≡ get_or ps at page → at < length ps → (page.number ≡ number → ⊥) → IsGap ps number at
gap_at ps number at page up place is l other = record {
  bound = place.bound;
  before = place.before;
  above = λ k d m n.
      let here = place.from at page (omega arith) l in
      let number_is = ap (λ (p : Page). p.number) is in
      let over : number < page.number = bigger number page.number other (omega arith) in
      let at_d = ap (λ (p : Page). p.number) (same_at ps at d page l) in
      elim (cases at k m) [
        | inl e ↦ rw (← e) (omega arith)
        | inr b ↦ let r = numbers_rise ps at k d up b n in omega arith
      ];
}
  where
    cases : (i k : ℕ) → i ≤ k → (i ≡ k) ⊎ (i < k)
    cases i k l = grind arith

    bigger : (m n : ℕ) → (n ≡ m → ⊥) → m ≤ n → m < n
    bigger m n other l = grind arith

-- looking up among things of which one was put in
module _ {X : Type 0} (range : X → Range) (q : X → Bool) where
  pub find_put_miss : (x : X) (xs : List X) → q x ≡ false → find q (put_in range x xs) ≡ find q xs
  find_put_miss x [] miss = rw miss refl
  find_put_miss x (y ∷ ys) miss =
      elim (nat_lt (range x).low (range y).low)
      as (λ b. find q (cond b (x ∷ y ∷ ys) (y ∷ put_in range x ys)) ≡ find q (y ∷ ys)) [
        | true ↦ rw miss refl
        | false ↦ ap (λ (o : Option X). cond (q y) (Some y) o) (find_put_miss x ys miss)
      ]

  pub find_put_hit : (x : X) (xs : List X) → q x ≡ true → find q xs ≡ None → find q (put_in range x xs) ≡ Some x
  find_put_hit x [] hit none = rw hit refl
  find_put_hit x (y ∷ ys) hit none =
      elim (nat_lt (range x).low (range y).low)
      as (λ b. find q (cond b (x ∷ y ∷ ys) (y ∷ put_in range x ys)) ≡ Some x) [
        | true ↦ rw hit refl
        | false ↦ later (λ rest. find_put_hit x ys hit rest) (q y) refl none
      ]
    where
      later : (find q ys ≡ None → find q (put_in range x ys) ≡ Some x) → (b : Bool) → q y ≡ b
          → cond b (Some y) (find q ys) ≡ None → cond (q y) (Some y) (find q (put_in range x ys)) ≡ Some x
      later rest true e n = absurd (cc)
      later rest false e n = rw e (rest n)

  -- how many pass a test
  pub length-filter-put : (x : X) (xs : List X) → length (filter q (put_in range x xs))
      ≡ cond (q x) (length (filter q xs) + 1) (length (filter q xs))
  length-filter-put x [] = elim (q x) as (λ b. length (cond b (x ∷ []) []) ≡ cond b (0 + 1) 0) [ true ↦ refl | false ↦ refl ]
  length-filter-put x (y ∷ ys) =
      elim (nat_lt (range x).low (range y).low)
      as (λ b. length (filter q (cond b (x ∷ y ∷ ys) (y ∷ put_in range x ys)))
      ≡ cond (q x) (length (filter q (y ∷ ys)) + 1) (length (filter q (y ∷ ys)))) [
        | true ↦ head (q x) (filter q (y ∷ ys))
        | false ↦ later (q y) (filter q (put_in range x ys)) (filter q ys) (length-filter-put x ys)
      ]
    where
      head : (b : Bool) (zs : List X) → length (cond b (x ∷ zs) zs) ≡ cond b (length zs + 1) (length zs)
      head true zs = omega arith
      head false zs = refl

      shift : (b : Bool) (m n : ℕ) → n ≡ cond b (m + 1) m → suc n ≡ cond b (suc m + 1) (suc m)
      shift true m n e = omega arith
      shift false m n e = omega arith

      later : (b : Bool) (gs hs : List X) → length gs ≡ cond (q x) (length hs + 1) (length hs)
          → length (cond b (y ∷ gs) gs) ≡ cond (q x) (length (cond b (y ∷ hs) hs) + 1) (length (cond b (y ∷ hs) hs))
      later true gs hs e = shift (q x) (length hs) (length gs) e
      later false gs hs e = e

-- an extent that has no address of a page ends at or below it, or begins at its end or above
untouched : (low high : ℕ) (e : Extent) → low < high → 0 < e.length
    → ((a : ℕ) → low ≤ a → a < high → lies_in a (extent_range e) ≡ false)
    → (ends_by low e ≡ begins_below low e) × (begins_below low e ≡ begins_below high e)
untouched low high e order full none = by_place (place e.base (e.base + e.length) low high)
  where
    place : (b t l h : ℕ) → (t ≤ l) ⊎ ((h ≤ b) ⊎ ((b < h) × (l < t)))
    place b t l h = grind arith

    by_place : ((e.base + e.length ≤ low) ⊎ ((high ≤ e.base) ⊎ ((e.base < high) × (low < e.base + e.length))))
        → (ends_by low e ≡ begins_below low e) × (begins_below low e ≡ begins_below high e)
    by_place (inl h) = (grind (arith, nat_tests), grind (arith, nat_tests))
    by_place (inr (inl h)) = (grind (arith, nat_tests), grind (arith, nat_tests))
    by_place (inr (inr h)) =
        let first = h.0 in
        let second = h.1 in
        let inside_it = within (max low e.base) (extent_range e) (omega arith) (omega arith) in
        let outside_it = none (max low e.base) (omega arith) (omega arith) in
        absurd (cc)

filter_same : {X : Type 0} (p r : X → Bool) (xs : List X)
    → ((k : ℕ) (d : X) → k < length xs → p (get_or xs k d) ≡ r (get_or xs k d))
    → length (filter p xs) ≡ length (filter r xs)
filter_same p r [] same = refl
filter_same p r (x ∷ xs) same =
    let rest = filter_same p r xs (λ k d l. same (suc k) d (omega arith)) in
    rw (same 0 x (omega arith))
    (elim (r x) as (λ b. length (cond b (x ∷ filter p xs) (filter p xs)) ≡ length (cond b (x ∷ filter r xs) (filter r xs))) [
      | true ↦ ap suc rest
      | false ↦ rest
    ])

-- how many extents end at or below a page that none has an address of
counts_new : (es : List Extent) (low high : ℕ) → low < high → Ascends extent_range 0 es
    → ((a : ℕ) → low ≤ a → a < high → extent_at es a ≡ None)
    → (ended low es ≡ begun low es) × (begun low es ≡ begun high es)
counts_new es low high order up none = (
  filter_same (ends_by low) (begins_below low) es (λ k d l. (each k d l).0),
  filter_same (begins_below low) (begins_below high) es (λ k d l. (each k d l).1),
)
  where
    apart : (k a : ℕ) (d : Extent) → k < length es → extent_at es a ≡ None → lies_in a (extent_range (get_or es k d)) ≡ false
    apart k a d l gone = by_test (lies_in a (extent_range (get_or es k d))) refl
      where
        by_test : (b : Bool) → lies_in a (extent_range (get_or es k d)) ≡ b → lies_in a (extent_range (get_or es k d)) ≡ false
        by_test false is = is
        by_test true is = let some = found_here extent_range 0 es a k d up l is in absurd (cc)

    each : (k : ℕ) (d : Extent) → k < length es
        → (ends_by low (get_or es k d) ≡ begins_below low (get_or es k d))
        × (begins_below low (get_or es k d) ≡ begins_below high (get_or es k d))
    each k d l =
        let full = (each_above extent_range 0 es k d up l).1 in
        untouched low high (get_or es k d) order (omega arith) (λ a m n. apart k a d l (none a m n))

-- a page of a number that there is already
open_same : (es : List Extent) (old new : List Page) (low n at : ℕ) → IsOpenTo es old new low n → low ≤ n
    → IsHome new n at → IsOpenTo es old new low (n + 1)
open_same es old new low n at o order home = record {
  laid = o.laid;
  kept = o.kept;
  there = λ a l m. elim (cases a (4096 * n)) [
    | inl before ↦ o.there a l before
    | inr here ↦ ap (λ (p : Option Page). is_some p)
        (page_here new a n at (record { number = 0; first = 0; last = 0; bytes = [] }) o.laid.sorted home (omega arith))
  ];
  each = λ k d l. wider (get_or new k d) (o.each k d l);
}
  where
    cases : (a b : ℕ) → (a < b) ⊎ (b ≤ a)
    cases a b = grind arith

    wider : (p : Page) → ((low ≤ p.number) × (p.number < n) × (p.first ≤ p.last)) ⊎ (p.first < p.last)
        → ((low ≤ p.number) × (p.number < n + 1) × (p.first ≤ p.last)) ⊎ (p.first < p.last)
    wider p (inl h) = let m = h.1 in inl (h.0, omega arith, h.2)
    wider p (inr h) = inr h

pub meets_not : (a b : Range) → (a.high ≤ b.low) ⊎ (b.high ≤ a.low) → meets a b ≡ false
meets_not a b (inl h) = not_above (max a.low b.low) (min a.high b.high) (omega arith)
meets_not a b (inr h) = not_above (max a.low b.low) (min a.high b.high) (omega arith)

-- where a number has its gap, it has no page
pub gap_missing : (ps : List Page) (n at : ℕ) → IsGap ps n at → is_missing ps n ≡ true
gap_missing ps n at gap = ap (λ (q : Option Page). not (is_some q)) (page_nowhere ps (4096 * n) n at gap (omega arith))

-- a new page among the others
module _ (es : List Extent) (old now new : List Page) (low n at : ℕ) (up : Ascends extent_range 0 es)
    (covered : IsCovered es old) (order : low ≤ n) (limit : 4096 * n + 4096 ≤ 0xFFFF_0000)
    (o : IsOpenTo es old now low n) (i : IsInserted es now new n at) where
  put : new ≡ put_in page_range i.page now
  put =
      let number = i.number_is in
      i.is ∙ insert_is_put page_range i.page now at i.gap.bound
      (λ k d l. let b = i.gap.before k d l in omega arith)
      (λ k d l m. let b = i.gap.above k d l m in omega arith)

  cases_at : (k : ℕ) → (k < at) ⊎ (at ≤ k)
  cases_at k = grind arith

  apart : MeetsNone page_range (page_range i.page) now
  apart = list_any_none (λ q. meets (page_range i.page) (page_range q)) now (λ k d l.
      let number = i.number_is in
      elim (cases_at k) [
        | inl b ↦ let h = i.gap.before k d b in meets_not (page_range i.page) (page_range (get_or now k d)) (inr (omega arith))
        | inr b ↦ let h = i.gap.above k d b l in meets_not (page_range i.page) (page_range (get_or now k d)) (inl (omega arith))
      ])

  none_held : (a : ℕ) → 4096 * n ≤ a → a < 4096 * n + 4096 → extent_at es a ≡ None
  none_held a l m =
      let gone = page_nowhere now a n at i.gap (omega arith) in
      is_none (extent_at es a) (covered a (not_before (page_at old a) refl gone))
    where
      not_before : (p : Option Page) → page_at old a ≡ p → page_at now a ≡ None → is_some (page_at old a) ≡ false
      not_before None is gone = ap (λ (q : Option Page). is_some q) is
      not_before (Some p) is gone = let there = o.kept a p is in absurd (cc)

  counts : (ended (4096 * n) es ≡ begun (4096 * n) es) × (begun (4096 * n) es ≡ begun (4096 * n + 4096) es)
  counts = counts_new es (4096 * n) (4096 * n + 4096) (omega arith) up none_held

  miss : (a : ℕ) → (a < 4096 * n) ⊎ (4096 * n + 4096 ≤ a) → lies_in a (page_range i.page) ≡ false
  miss a (inl h) = let number = i.number_is in below a (page_range i.page) (omega arith)
  miss a (inr h) = let number = i.number_is in above a (page_range i.page) (omega arith)

  outside : (a : ℕ) → (a < 4096 * n) ⊎ (4096 * n + 4096 ≤ a) → page_at (put_in page_range i.page now) a ≡ page_at now a
  outside a side = find_put_miss page_range (λ q. lies_in a (page_range q)) i.page now (miss a side)

  where_is : (a : ℕ) → (a < 4096 * n) ⊎ ((4096 * n + 4096 ≤ a) ⊎ ((4096 * n ≤ a) × (a < 4096 * n + 4096)))
  where_is a = grind arith

  in_page : (a : ℕ) → 4096 * n ≤ a → a < 4096 * n + 4096 → page_at (put_in page_range i.page now) a ≡ Some i.page
  in_page a l m =
      let number = i.number_is in
      find_put_hit page_range (λ q. lies_in a (page_range q)) i.page now
      (within a (page_range i.page) (omega arith) (omega arith)) (page_nowhere now a n at i.gap (omega arith))

  keeps : (a : ℕ) (p : Page) → page_at old a ≡ Some p → page_at (put_in page_range i.page now) a ≡ Some p
  keeps a p is = elim (where_is a) [
    | inl h ↦ outside a (inl h) ∙ o.kept a p is
    | inr (inl h) ↦ outside a (inr h) ∙ o.kept a p is
    | inr (inr h) ↦
        let gone = page_nowhere now a n at i.gap (let l = h.0 in let m = h.1 in omega arith) in
        let there = o.kept a p is in
        absurd (cc)
  ]

  has : (a : ℕ) → 4096 * low ≤ a → a < 4096 * (n + 1) → is_some (page_at (put_in page_range i.page now) a) ≡ true
  has a l m = elim (where_is a) [
    | inl h ↦ ap (λ (q : Option Page). is_some q) (outside a (inl h)) ∙ o.there a l h
    | inr (inl h) ↦ absurd (omega arith)
    | inr (inr h) ↦ ap (λ (q : Option Page). is_some q) (in_page a h.0 h.1)
  ]

  wider : (p : Page) → ((low ≤ p.number) × (p.number < n) × (p.first ≤ p.last)) ⊎ (p.first < p.last)
      → ((low ≤ p.number) × (p.number < n + 1) × (p.first ≤ p.last)) ⊎ (p.first < p.last)
  wider p (inl h) = let m = h.1 in inl (h.0, omega arith, h.2)
  wider p (inr h) = inr h

  pub open_new : IsOpenTo es old new low (n + 1)
  open_new =
      let number = i.number_is in
      let first = i.first in
      let last = i.last in
      let low_is : page_low i.page ≡ 4096 * n = omega arith in
      subst (λ (qs : List Page). IsOpenTo es old qs low (n + 1)) (sym put) (record {
        laid = record {
          sorted = Ascends-put page_range 0 i.page now (omega arith) (omega arith) apart o.laid.sorted;
          below = All-put page_range (λ p. (page_range p).high ≤ 0xFFFF_0000) i.page now (omega arith) o.laid.below;
          full = All-put page_range (λ p. length p.bytes ≡ 4096) i.page now i.full o.laid.full;
          first = All-put page_range (λ p. p.first ≡ ended (page_low p) es) i.page now
              (first ∙ (sym counts.0 ∙ ap (λ x. ended x es) (sym low_is))) o.laid.first;
          last = All-put page_range (λ p. p.last ≡ begun (page_low p + 4096) es) i.page now
              (last ∙ (counts.1 ∙ ap (λ x. begun (x + 4096) es) (sym low_is))) o.laid.last;
        };
        kept = keeps;
        there = has;
        each = All-put page_range
            (λ p. ((low ≤ p.number) × (p.number < n + 1) × (p.first ≤ p.last)) ⊎ (p.first < p.last)) i.page now
            (inl (omega arith, omega arith, omega arith)) (λ k d l. wider (get_or now k d) (o.each k d l));
      })

  pub home_new : IsHome new n at
  home_new = record {
    within = rw i.is (rw (length-insert now at i.page i.gap.bound) (let b = i.gap.bound in omega arith));
    is = λ d. rw i.is (ap (λ (p : Page). p.number) (get_or-insert_at now at i.page d i.gap.bound) ∙ i.number_is);
  }

  -- a page that was missing is there
  at_new : (k : ℕ) → is_missing new k ≡ not (is_some (page_at (put_in page_range i.page now) (4096 * k)))
  at_new k = ap (λ (qs : List Page). is_missing qs k) put

  still : (k : ℕ) → is_missing new k ≡ true → is_missing now k ≡ true
  still k gone = elim (where_is (4096 * k)) [
    | inl h ↦ ap (λ (q : Option Page). not (is_some q)) (sym (outside (4096 * k) (inl h))) ∙ (sym (at_new k) ∙ gone)
    | inr (inl h) ↦ ap (λ (q : Option Page). not (is_some q)) (sym (outside (4096 * k) (inr h))) ∙ (sym (at_new k) ∙ gone)
    | inr (inr h) ↦
        let there = at_new k ∙ ap (λ (q : Option Page). not (is_some q)) (in_page (4096 * k) h.0 h.1) in
        absurd (cc)
  ]

  one_less : (ranges : List Range) (range : Range) → Contains ranges range → has_page n range ≡ true
      → missing ranges new + 1 ≤ missing ranges now
  one_less ranges range in_ranges has =
      missing-less ranges new now range n in_ranges has (omega arith) (gap_missing now n at i.gap)
      (at_new n ∙ ap (λ (q : Option Page). not (is_some q)) (in_page (4096 * n) (omega arith) (omega arith))) still

-- one page more
pub open_more : (es : List Extent) (old now new : List Page) (low n at : ℕ) → Ascends extent_range 0 es
    → IsCovered es old → low ≤ n → 4096 * n + 4096 ≤ 0xFFFF_0000 → IsOpenTo es old now low n → IsOpened es now new n at
    → IsOpenTo es old new low (n + 1) × IsPlaceOf new (n + 1) (at + 1)
open_more es old now new low n at up covered order limit o (inl s) =
    let same = subst (λ (qs : List Page). IsOpenTo es old qs low (n + 1)) (sym s.0) (open_same es old now low n at o order s.1) in
    let home = subst (λ (qs : List Page). IsHome qs n at) (sym s.0) s.1 in
    (same, place_next new n at same.laid.sorted home)
open_more es old now new low n at up covered order limit o (inr i) =
    let more = open_new es old now new low n at up covered order limit o i in
    (more, place_next new n at more.laid.sorted (home_new es old now new low n at up covered order limit o i))

-- what is enough stays enough: a page that was missing takes one block
pub enough_more : (es : List Extent) (old now new : List Page) (low n at : ℕ) → Ascends extent_range 0 es
    → IsCovered es old → low ≤ n → 4096 * n + 4096 ≤ 0xFFFF_0000 → IsOpenTo es old now low n → IsOpened es now new n at
    → (ranges : List Range) (range : Range) → Contains ranges range → has_page n range ≡ true → (before after : ℕ)
    → length new + after ≡ length now + before → missing ranges now ≤ before → missing ranges new ≤ after
enough_more es old now new low n at up covered order limit o (inl s) ranges range in_ranges has before after spent enough =
    let same = s.0 in
    let long = ap length s.0 in
    rw same (omega (arith, long, spent, enough))
enough_more es old now new low n at up covered order limit o (inr i) ranges range in_ranges has before after spent enough =
    let less = one_less es old now new low n at up covered order limit o i ranges range in_ranges has in
    let long = ap length i.is ∙ length-insert now at i.page i.gap.bound in
    omega (arith, less, long, spent, enough)

pub open_none : (es : List Extent) (old : List Page) (low : ℕ) → AreLaid es old → All (λ p. p.first < p.last) old
    → IsOpenTo es old old low low
open_none es old low laid some = record {
  laid = laid;
  kept = λ a p is. is;
  there = λ a l m. absurd (omega arith);
  each = λ k d l. inr (some k d l);
}
