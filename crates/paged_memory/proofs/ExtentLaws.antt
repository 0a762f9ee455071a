-- Extents in order: which of them have a byte in a page, and what memory they make up.
use Rattle.std.proofs.Common.{◌≡◌, ℕ, zero, suc, ◌+◌, ◌-◌, ◌≤◌, ◌<◌, true, false, cond, List, [], ◌∷◌, length}
use Rattle.ks_base.specs.declared.places.Range.{Range}
use Rattle.std.proofs.Common.{get_or, take, drop, refl, sym, ◌∙◌, arith, ◌⊎◌, inl, inr, Some, None}
use Rattle.std.proofs.lemmas.List.{get_or-drop, get_or-take}
use Rattle.std.proofs.lemmas.Bool.Decides.{nat_tests}
use Rattle.std.specs.Option.{option_map}
use Rattle.image_memory.specs.Ranges.{lies_in, Ascends}
use Rattle.image_memory.specs.laws.RangeLaws.{inside, below, above, nowhere, each_above, one_after, found}
use Rattle.image_memory.specs.Contents.{holding, look_at}
use Rattle.paged_memory.specs.declared.types.Extent.{Extent}
use Rattle.paged_memory.specs.declared.types.Page.{Page}
use Rattle.paged_memory.specs.Pages.{extent_range, extent_at, ends_by, begins_below, ended, begun, piece_of, pieces_of}
use Rattle.paged_memory.specs.Pages.{stored}
use Rattle.std.proofs.Common.{◌/◌, subst}
use Rattle.std.specs.List.{All}
use Rattle.paged_memory.specs.Pages.{page_low, IsHome}
use Rattle.paged_memory.proofs.ListLaws.{Falls, passed, failed, length-filter-le}
use Rattle.paged_memory.proofs.PageLaws.{length-stored_from, get_or-stored_from}

module _ (es : List Extent) (up : Ascends extent_range 0 es) where
  ending_falls : (a : ℕ) → Falls (ends_by a) es
  ending_falls a i j d l m h =
      let next = one_after extent_range 0 es i j d up l m in
      let full = each_above extent_range 0 es j d up m in
      grind (arith, nat_tests)

  beginning_falls : (a : ℕ) → Falls (begins_below a) es
  beginning_falls a i j d l m h =
      let next = one_after extent_range 0 es i j d up l m in
      let full = each_above extent_range 0 es i d up (omega arith) in
      grind (arith, nat_tests)

  -- which extents end at or below an address, and which begin below it
  pub ended_before : (a k : ℕ) (d : Extent) → k < ended a es → (get_or es k d).base + (get_or es k d).length ≤ a
  ended_before a k d l = let h = passed (ends_by a) es (ending_falls a) k d l in grind (arith, nat_tests)

  pub ended_after : (a k : ℕ) (d : Extent) → ended a es ≤ k → k < length es
      → a < (get_or es k d).base + (get_or es k d).length
  ended_after a k d l m = let h = failed (ends_by a) es (ending_falls a) k d l m in grind (arith, nat_tests)

  pub begun_before : (a k : ℕ) (d : Extent) → k < begun a es → (get_or es k d).base < a
  begun_before a k d l = let h = passed (begins_below a) es (beginning_falls a) k d l in grind (arith, nat_tests)

  pub begun_after : (a k : ℕ) (d : Extent) → begun a es ≤ k → k < length es → a ≤ (get_or es k d).base
  begun_after a k d l m = let h = failed (begins_below a) es (beginning_falls a) k d l m in grind (arith, nat_tests)

  -- an address of a page that no extent among those in the page has
  pub held_nowhere : (low high a first last : ℕ) → low ≤ a → a < high → first ≡ ended low es → last ≡ begun high es
      → ((k : ℕ) (d : Extent) → first ≤ k → k < last → k < length es → lies_in a (extent_range (get_or es k d)) ≡ false)
      → extent_at es a ≡ None
  held_nowhere low high a first last l m is_first is_last among =
      nowhere (λ e. lies_in a (extent_range e)) es each
    where
      cases : (k : ℕ) → (k < first) ⊎ ((last ≤ k) ⊎ ((first ≤ k) × (k < last)))
      cases k = grind arith

      each : (k : ℕ) (d : Extent) → k < length es → lies_in a (extent_range (get_or es k d)) ≡ false
      each k d n = elim (cases k) [
        | inl before ↦
            let ends = ended_before low k d (omega arith) in
            above a (extent_range (get_or es k d)) (omega arith)
        | inr (inl behind) ↦
            let begins = begun_after high k d (omega arith) n in
            below a (extent_range (get_or es k d)) (omega arith)
        | inr (inr here) ↦ among k d here.0 here.1 n
      ]

-- things in order are so in each part
module _ {X : Type 0} (range : X → Range) where
  lower : (floor low : ℕ) (xs : List X) → low ≤ floor → Ascends range floor xs → Ascends range low xs
  lower floor low [] l up = tt
  lower floor low (x ∷ xs) l up = let h = up.0 in (omega arith, up.1, up.2)

  pub Ascends-drop : (floor n : ℕ) (xs : List X) → Ascends range floor xs → Ascends range 0 (drop n xs)
  Ascends-drop floor zero xs up = lower floor 0 xs (omega arith) up
  Ascends-drop floor (suc n) [] up = tt
  Ascends-drop floor (suc n) (x ∷ xs) up = Ascends-drop (range x).high n xs up.2

  pub Ascends-take : (floor n : ℕ) (xs : List X) → Ascends range floor xs → Ascends range floor (take n xs)
  Ascends-take floor zero xs up = tt
  Ascends-take floor (suc n) [] up = tt
  Ascends-take floor (suc n) (x ∷ xs) up = (up.0, up.1, Ascends-take (range x).high n xs up.2)

-- what is looked up in a part of a list
pub get_or-part : {X : Type 0} (xs : List X) (i j k : ℕ) (d : X) → k < j - i
    → get_or (take (j - i) (drop i xs)) k d ≡ get_or xs (i + k) d
get_or-part xs i j k d l = get_or-take (j - i) (drop i xs) k d l ∙ get_or-drop i xs k d

-- the piece of an extent lies where it does
pub holding_is : (es : List Extent) (ps : List Page) (a : ℕ) → holding (pieces_of es ps) a
    ≡ option_map (piece_of ps) (extent_at es a)
holding_is [] ps a = refl
holding_is (e ∷ es) ps a =
    rw (length-stored_from ps e.base e.length)
    (elim (lies_in a (extent_range e)) as (λ b. cond b (Some (piece_of ps e)) (holding (pieces_of es ps) a)
    ≡ option_map (piece_of ps) (cond b (Some e) (extent_at es a))) [
      | true ↦ refl
      | false ↦ holding_is es ps a
    ])

pub look_none : (es : List Extent) (ps : List Page) (a : ℕ) → extent_at es a ≡ None
    → look_at (pieces_of es ps) a ≡ None
look_none es ps a none = rw (holding_is es ps a, none) refl

pub look_some : (es : List Extent) (ps : List Page) (a : ℕ) (e : Extent) → extent_at es a ≡ Some e
    → look_at (pieces_of es ps) a ≡ Some (e.kind, stored ps a)
look_some es ps a e some =
    let hit = found (λ x. lies_in a (extent_range x)) es e some in
    let here = inside a (extent_range e) hit.passes in
    let at = get_or-stored_from ps e.base e.length (a - e.base) (omega arith) in
    let same : e.base + (a - e.base) ≡ a = omega arith in
    rw (holding_is es ps a, some, at, same) refl

-- what is known of the page of an address
pub record IsPageOf (es : List Extent) (address : ℕ) (page : Page) : Type 0 where
  pub number : page.number ≡ address / 4096
  pub first : page.first ≡ ended (page_low page) es
  pub last : page.last ≡ begun (page_low page + 4096) es
  pub some : page.first < page.last
  pub bound : page.last ≤ length es

pub page_of : (es : List Extent) (pages : List Page) (at address : ℕ) (page : Page) → IsHome pages (address / 4096) at
    → page ≡ get_or pages at page → All (λ p. p.first ≡ ended (page_low p) es) pages
    → All (λ p. p.last ≡ begun (page_low p + 4096) es) pages → All (λ p. p.first < p.last) pages
    → IsPageOf es address page
page_of es pages at address page home is firsts lasts somes =
    let l = home.within in
    let last = subst (λ (p : Page). p.last ≡ begun (page_low p + 4096) es) (sym is) (lasts at page l) in
    record {
      number = subst (λ (p : Page). p.number ≡ address / 4096) (sym is) (home.is page);
      first = subst (λ (p : Page). p.first ≡ ended (page_low p) es) (sym is) (firsts at page l);
      last = last;
      some = subst (λ (p : Page). p.first < p.last) (sym is) (somes at page l);
      bound = let all = length-filter-le (begins_below (page_low page + 4096)) es in omega (arith, last, all);
    }
