-- What pages and extents have at an address.
use Rattle.std.proofs.Common.{◌≡◌, ℕ, zero, suc, ◌+◌, ◌-◌, ◌*◌, ◌≤◌, ◌<◌, true, false, List, length}
use Rattle.std.proofs.Common.{get_or, refl, ap, sym, ◌∙◌, arith, ◌⊎◌, inl, inr, Option, Some, None}
use Rattle.std.proofs.Common.{◌^◌, ◌/◌, ◌%◌, take, drop}
use Rattle.std.proofs.lemmas.List.{ext_get_or, get_or-take, get_or-drop, length-take-le}
use Rattle.std.proofs.Math.Nat.{mul-le-mul_left, pow-suc}
use Rattle.std.specs.Option.{is_some}
use Rattle.image_memory.specs.Ranges.{lies_in, Ascends}
use Rattle.image_memory.specs.laws.RangeLaws.{one_after, found_here, within, above, below, nowhere, inside, found}
use Rattle.image_memory.specs.laws.RangeLaws.{IsFound, lows_rise}
use Rattle.paged_memory.specs.declared.types.Extent.{Extent}
use Rattle.paged_memory.specs.declared.types.Page.{Page}
use Rattle.image_memory.specs.laws.AccessLaws.{overlaid_apart}
use Rattle.std.proofs.lemmas.Bool.Decides.{nat_tests}
use Rattle.paged_memory.specs.Pages.{page_range, page_low, page_at, stored, stored_from, byte_of, IsHome, IsGap, overlaid_page}
use Rattle.paged_memory.specs.Pages.{counting, ends_by, begins_below}

-- so many bytes are had as were asked for, each of them the one at its address
pub length-stored_from : (pages : List Page) (a n : ℕ) → length (stored_from pages a n) ≡ n
unfolding stored_from
length-stored_from pages a zero = refl
length-stored_from pages a (suc n) = ap suc (length-stored_from pages (a + 1) n)

pub get_or-stored_from : (pages : List Page) (a n k : ℕ) → k < n
    → get_or (stored_from pages a n) k 0 ≡ stored pages (a + k)
unfolding stored_from
get_or-stored_from pages a zero k l = absurd (omega arith)
get_or-stored_from pages a (suc n) zero l = ap (stored pages) (omega arith)
get_or-stored_from pages a (suc n) (suc k) l =
    let e : (a + 1) + k ≡ a + suc k = omega arith in
    rw e at (get_or-stored_from pages (a + 1) n k (omega arith))

-- a place up to another is that one or lies below it
pub ranked : (k n : ℕ) → k < n + 1 → (k ≡ n) ⊎ (k < n)
ranked k n l = grind arith

-- the numbers of pages in order rise
pub numbers_rise : (pages : List Page) (i j : ℕ) (d : Page) → Ascends page_range 0 pages → i < j → j < length pages
    → (get_or pages i d).number < (get_or pages j d).number
numbers_rise pages i j d up l m =
    let next = one_after page_range 0 pages i j d up l m in
    omega arith

-- what is left after one more step, of which each leaves at most half
pub step_halves : (t s n size less : ℕ) → t ≤ s → 2 ^ (s - t) * size ≤ n → 2 * less ≤ size
    → 2 ^ (s + 1 - t) * less ≤ n
step_halves t s n size less l h half =
    let e : s + 1 - t ≡ suc (s - t) = omega arith in
    let more = mul-le-mul_left (2 ^ (s - t)) half in
    rw (e, pow-suc) (omega (arith, more))

pub step_small : (t s n size : ℕ) → t ≤ s → 2 ^ (s - t) * size ≤ n → 0 < size → 2 ^ (s + 1 - t) ≤ 2 * n + 1
step_small t s n size l h some =
    let e : s + 1 - t ≡ suc (s - t) = omega arith in
    let least : 1 ≤ size = omega arith in
    let more = mul-le-mul_left (2 ^ (s - t)) least in
    rw (e, pow-suc) (omega (arith, more))

-- the page whose number is an address's has it, and where no page has that number none does
pub page_here : (pages : List Page) (a number at : ℕ) (d : Page) → Ascends page_range 0 pages → IsHome pages number at
    → number ≡ a / 4096 → page_at pages a ≡ Some (get_or pages at d)
page_here pages a number at d up home is =
    let n = home.is d in
    found_here page_range 0 pages a at d up home.within
    (within a (page_range (get_or pages at d)) (omega arith) (omega arith))

pub page_nowhere : (pages : List Page) (a number at : ℕ) → IsGap pages number at → number ≡ a / 4096
    → page_at pages a ≡ None
page_nowhere pages a number at gap is = nowhere (λ p. lies_in a (page_range p)) pages each
  where
    cases : (k : ℕ) → (k < at) ⊎ (at ≤ k)
    cases k = grind arith

    each : (k : ℕ) (d : Page) → k < length pages → lies_in a (page_range (get_or pages k d)) ≡ false
    each k d l = elim (cases k) [
      | inl before ↦ let b = gap.before k d before in above a (page_range (get_or pages k d)) (omega arith)
      | inr behind ↦ let b = gap.above k d behind l in below a (page_range (get_or pages k d)) (omega arith)
    ]

-- the byte of a page that has an address
pub stored_is : (pages : List Page) (a : ℕ) (p : Page) → page_at pages a ≡ Some p → stored pages a ≡ byte_of a p
unfolding stored
stored_is pages a p is = rw is refl

-- bytes of one page are those that pages have from an address on
pub part_stored : (pages : List Page) (a n at : ℕ) (page : Page) → Ascends page_range 0 pages → IsHome pages (a / 4096) at
    → page ≡ get_or pages at page → n ≤ length (drop (a % 4096) page.bytes) → n + a % 4096 ≤ 4096
    → take n (drop (a % 4096) page.bytes) ≡ stored_from pages a n
part_stored pages a n at page up home is long few =
    ext_get_or 0 _ _ (length-take-le n (drop (a % 4096) page.bytes) long ∙ sym (length-stored_from pages a n)) (λ k l.
    let m : k < n = rw (length-take-le n (drop (a % 4096) page.bytes) long) at l in
    let number = home.is page in
    let number' = ap (λ (p : Page). p.number) is in
    let of_page : a / 4096 ≡ (a + k) / 4096 = omega arith in
    let at_byte : a % 4096 + k ≡ a + k - page_low page = omega arith in
    let in_page = page_here pages (a + k) (a / 4096) at page up home of_page ∙ ap (λ (p : Page). Some p) (sym is) in
    get_or-take n (drop (a % 4096) page.bytes) k 0 m
    ∙ (get_or-drop (a % 4096) page.bytes k 0
    ∙ (ap (λ i. get_or page.bytes i 0) at_byte
    ∙ sym (get_or-stored_from pages a n k m ∙ stored_is pages (a + k) page in_page))))

pub is_none : {X : Type 0} (o : Option X) → is_some o ≡ false → o ≡ None
is_none None h = refl
is_none (Some x) h = absurd (cc)

-- a page stays as it is where nothing is written to it
pub page_apart : (start : ℕ) (bytes : List ℕ) (p : Page) → length p.bytes ≡ 4096 → ((page_range p).high ≤ start)
    ⊎ (start + length bytes ≤ (page_range p).low) → overlaid_page start bytes p ≡ p
page_apart start bytes p full h =
    ap (λ (xs : List ℕ). record p { bytes = xs }) (overlaid_apart start bytes (page_low p) p.bytes (ends p full h))
  where
    ends : (p : Page) → length p.bytes ≡ 4096 → ((page_range p).high ≤ start)
        ⊎ (start + length bytes ≤ (page_range p).low) → (page_low p + length p.bytes ≤ start)
        ⊎ (start + length bytes ≤ page_low p)
    ends p full (inl h) = inl (omega (arith, full))
    ends p full (inr h) = inr h

-- where the page of the next number is, if a page has an address of it
pub next_home : (pages : List Page) (a number at : ℕ) → Ascends page_range 0 pages → IsHome pages number at
    → is_some (page_at pages a) ≡ true → a / 4096 ≡ number + 1 → IsHome pages (number + 1) (at + 1)
next_home pages a number at up home some next = by_page (page_at pages a) refl some
  where
    nearer : (p : Page) → IsFound (λ q. lies_in a (page_range q)) pages p → IsHome pages (number + 1) (at + 1)
    nearer p f =
        let here = inside a (page_range p) f.passes in
        let k = f.index in
        let l = f.in_list in
        let at_k = ap (λ (q : Page). q.number) (f.at p) in
        let n = home.is p in
        let is_number : p.number ≡ number + 1 = omega arith in
        let after : at < k = elim (before_or_from at k) [
          | inl h ↦ h
          | inr h ↦
              let low = lows_rise page_range 0 pages up k at p h home.within in
              absurd (omega arith)
        ] in
        let one : k ≡ at + 1 = elim (before_or_from (at + 1) k) [
          | inl h ↦
              let low = numbers_rise pages at (at + 1) p up (omega arith) (omega arith) in
              let high = numbers_rise pages (at + 1) k p up h l in
              absurd (omega arith)
          | inr h ↦ omega arith
        ] in
        record {
          within = omega arith;
          is = λ d. rw (← one) (ap (λ (q : Page). q.number) (f.at d) ∙ is_number);
        }
      where
        before_or_from : (k i : ℕ) → (k < i) ⊎ (i ≤ k)
        before_or_from k i = grind arith

    by_page : (o : Option Page) → page_at pages a ≡ o → is_some o ≡ true → IsHome pages (number + 1) (at + 1)
    by_page None is none = absurd (cc)
    by_page (Some p) is some = nearer p (found (λ q. lies_in a (page_range q)) pages p is)

-- a page that ends at or below an extent doesn't know of it
pub uncounted : (e : Extent) (p : Page) → 0 < e.length → (page_range p).high ≤ e.base → counting e p ≡ p
uncounted e p some h =
    let later : ends_by (page_low p) e ≡ false = grind (arith, nat_tests) in
    let above_it : begins_below (page_low p + 4096) e ≡ false = grind (arith, nat_tests) in
    rw (later, above_it) refl
