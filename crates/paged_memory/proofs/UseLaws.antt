-- What memory answers, by its extents and pages.
use Rattle.std.proofs.Common.{◌≡◌, ℕ, zero, suc, ◌+◌, ◌-◌, ◌/◌, ◌≤◌, ◌<◌, Bool, true, false, cond, List, length}
use Rattle.std.proofs.Common.{get_or, take, drop, refl, ap, sym, ◌∙◌, arith, ◌⊎◌, inl, inr, Option, Some, None, min}
use Rattle.std.proofs.lemmas.List.{ext_get_or, get_or-drop, get_or-take, length-take, length-drop}
use Rattle.std.specs.Option.{option_map, option_or, is_some}
use Rattle.ks_base.specs.declared.refusals.Fault.{Fault}
use Rattle.image_memory.specs.declared.types.Access.{Access}
use Rattle.image_memory.specs.declared.types.Access.TheVariants.{Read, Write}
use Rattle.image_memory.specs.Ranges.{lies_in, Ascends}
use Rattle.image_memory.specs.laws.RangeLaws.{inside, each_above, one_after, found}
use Rattle.image_memory.specs.laws.AccessLaws.{good_at, length-bytes_at, get_or-bytes_at}
use Rattle.image_memory.specs.Access.{first_fault, access_fault, kind_of, byte_at, bytes_at, read_fault, write_fault}
use Rattle.image_memory.specs.Fetch.{code_from, is_code}
use Rattle.image_memory.specs.laws.ByteLaws.{access_none}
use Rattle.paged_memory.specs.declared.types.Extent.{Extent}
use Rattle.paged_memory.specs.declared.types.Page.{Page}
use Rattle.paged_memory.specs.Pages.{extent_range, page_range, extent_at, page_at, kind_of_extent, extent_fault, pieces_of, piece_of}
use Rattle.paged_memory.specs.Pages.{stored, stored_from, IsCovered, IsHolder, IsHome, AreStored}
use Rattle.paged_memory.proofs.ExtentLaws.{holding_is}
use Rattle.paged_memory.proofs.PageLaws.{length-stored_from, get_or-stored_from, numbers_rise}

-- faults by the kinds of pieces are those by the kinds of extents
kind_is : (ps : List Page) (o : Option Extent) → option_map kind_of (option_map (piece_of ps) o) ≡ option_map kind_of_extent o
kind_is ps None = refl
kind_is ps (Some e) = refl

pub read_fault_is : (es : List Extent) (ps : List Page) (a : ℕ) → read_fault (pieces_of es ps) a ≡ extent_fault Read es a
read_fault_is es ps a = rw (holding_is es ps a, kind_is ps (extent_at es a)) refl

pub write_fault_is : (es : List Extent) (ps : List Page) (a : ℕ) → write_fault (pieces_of es ps) a ≡ extent_fault Write es a
write_fault_is es ps a = rw (holding_is es ps a, kind_is ps (extent_at es a)) refl

pub first_same : (f g : ℕ → Option Fault) (a n : ℕ) → ((x : ℕ) → f x ≡ g x) → first_fault f a n ≡ first_fault g a n
unfolding first_fault
first_same f g a zero same = refl
first_same f g a (suc n) same =
    ap (λ (o : Option Fault). option_or o (f (a + n))) (first_same f g a n same)
    ∙ ap (λ (o : Option Fault). option_or (first_fault g a n) o) (same (a + n))

-- what can be used is had by an extent, and so by a page
pub held_where_good : (access : Access) (es : List Extent) (a : ℕ) → extent_fault access es a ≡ None
    → is_some (extent_at es a) ≡ true
held_where_good access es a good = by_extent (extent_at es a) good
  where
    by_extent : (o : Option Extent) → access_fault access (option_map kind_of_extent o) ≡ None → is_some o ≡ true
    by_extent None h = let bad = access_none access in absurd (cc)
    by_extent (Some e) h = refl

pub paged_where_held : (es : List Extent) (ps : List Page) (a : ℕ) → IsCovered es ps → is_some (extent_at es a) ≡ true
    → is_some (page_at ps a) ≡ true
paged_where_held es ps a covered held = by_test (is_some (page_at ps a)) refl
  where
    by_test : (b : Bool) → is_some (page_at ps a) ≡ b → is_some (page_at ps a) ≡ true
    by_test true is = is
    by_test false is = let none = covered a is in absurd (cc)

pub stored_where_good : (access : Access) (es : List Extent) (ps : List Page) (a n : ℕ) → IsCovered es ps
    → first_fault (extent_fault access es) a n ≡ None → AreStored ps a n
stored_where_good access es ps a n covered good k l =
    paged_where_held es ps (a + k) covered (held_where_good access es (a + k)
    (good_at (extent_fault access es) a n k good l))

-- the byte that a piece has is the one of the page
pub byte_is : (es : List Extent) (ps : List Page) (a : ℕ) → is_some (extent_at es a) ≡ true
    → byte_at (pieces_of es ps) a ≡ stored ps a
byte_is es ps a held = by_extent (extent_at es a) refl held
  where
    by_extent : (o : Option Extent) → extent_at es a ≡ o → is_some o ≡ true → byte_at (pieces_of es ps) a ≡ stored ps a
    by_extent None is none = absurd (cc)
    by_extent (Some e) is some =
        let hit = found (λ x. lies_in a (extent_range x)) es e is in
        let here = inside a (extent_range e) hit.passes in
        let at = get_or-stored_from ps e.base e.length (a - e.base) (omega arith) in
        let same : e.base + (a - e.base) ≡ a = omega arith in
        rw (holding_is es ps a, is, at, same) refl

pub bytes_is : (es : List Extent) (ps : List Page) (a n : ℕ) → ((k : ℕ) → k < n → is_some (extent_at es (a + k)) ≡ true)
    → bytes_at (pieces_of es ps) a n ≡ stored_from ps a n
bytes_is es ps a n held =
    ext_get_or 0 _ _ (length-bytes_at (pieces_of es ps) a n ∙ sym (length-stored_from ps a n)) (λ k l.
    let m : k < n = rw (length-bytes_at (pieces_of es ps) a n) at l in
    get_or-bytes_at (pieces_of es ps) a n k m ∙ (byte_is es ps (a + k) (held k m) ∙ sym (get_or-stored_from ps a n k m)))

-- the extent that has an address, and those before it and from it on
pub holder_here : (es : List Extent) (a at : ℕ) (d : Extent) → IsHolder es a at
    → ((get_or es at d).base ≤ a) × (a < (get_or es at d).base + (get_or es at d).length)
holder_here es a at d holder =
    let hit = found (λ e. lies_in a (extent_range e)) es (get_or es at d) (holder.is d) in
    inside a (extent_range (get_or es at d)) hit.passes

pub holder_is : (es : List Extent) (a at : ℕ) (e : Extent) → IsHolder es a at → e ≡ get_or es at e
    → extent_at es a ≡ Some e
holder_is es a at e holder is = holder.is e ∙ ap (λ (x : Extent). Some x) (sym is)

pub held_here : (es : List Extent) (a : ℕ) (e : Extent) → extent_at es a ≡ Some e → (e.base ≤ a) × (a < e.base + e.length)
held_here es a e is =
    let hit = found (λ x. lies_in a (extent_range x)) es e is in
    inside a (extent_range e) hit.passes

pub holder_before : (es : List Extent) (a at k : ℕ) (d : Extent) → Ascends extent_range 0 es → IsHolder es a at → k < at
    → (get_or es k d).base + (get_or es k d).length ≤ a
holder_before es a at k d up holder l =
    let next = one_after extent_range 0 es k at d up l holder.within in
    let here = holder_here es a at d holder in
    let low = here.0 in
    omega arith

pub holder_from : (es : List Extent) (a at k : ℕ) (d : Extent) → Ascends extent_range 0 es → IsHolder es a at → at ≤ k
    → k < length es → a < (get_or es k d).base + (get_or es k d).length
holder_from es a at k d up holder l m = elim (cases at k l) [
  | inl e ↦ rw (← e) ((holder_here es a at d holder).1)
  | inr b ↦
      let next = one_after extent_range 0 es at k d up b m in
      let full = each_above extent_range 0 es k d up m in
      let here = holder_here es a at d holder in
      let high = here.1 in
      omega arith
]
  where
    cases : (at k : ℕ) → at ≤ k → (at ≡ k) ⊎ (at < k)
    cases at k l = grind arith

-- pages before that of an address end at or below it
pub home_below : (ps : List Page) (a at k : ℕ) (d : Page) → Ascends page_range 0 ps → IsHome ps (a / 4096) at → k < at
    → (page_range (get_or ps k d)).high ≤ a
home_below ps a at k d up home l =
    let rise = numbers_rise ps k at d up l home.within in
    let n = home.is d in
    omega arith

-- the code from an address on
pub code_none : (es : List Extent) (ps : List Page) (a : ℕ) → extent_at es a ≡ None → code_from (pieces_of es ps) a ≡ None
code_none es ps a none = rw (holding_is es ps a, none) refl

pub code_some : (es : List Extent) (ps : List Page) (a : ℕ) (e : Extent) → extent_at es a ≡ Some e
    → code_from (pieces_of es ps) a
    ≡ cond (is_code e.kind) (Some (drop (a - e.base) (stored_from ps e.base e.length))) None
code_some es ps a e some = rw (holding_is es ps a, some) refl

pub code_part : (ps : List Page) (a base length' limit count : ℕ) → base ≤ a → a ≤ base + length'
    → count ≡ min limit (base + length' - a)
    → take limit (drop (a - base) (stored_from ps base length')) ≡ stored_from ps a count
code_part ps a base length' limit count low high is =
    ext_get_or 0 _ _ (long ∙ sym (length-stored_from ps a count)) (λ k l.
    let m : k < count = rw long at l in
    let same : base + (a - base + k) ≡ a + k = omega arith in
    get_or-take limit (drop (a - base) (stored_from ps base length')) k 0 (omega arith)
    ∙ (get_or-drop (a - base) (stored_from ps base length') k 0
    ∙ (get_or-stored_from ps base length' (a - base + k) (omega arith)
    ∙ (ap (stored ps) same ∙ sym (get_or-stored_from ps a count k m)))))
  where
    long : length (take limit (drop (a - base) (stored_from ps base length'))) ≡ count
    long = simp (length-take, length-drop, length-stored_from) (omega (arith, is))
