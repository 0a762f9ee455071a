-- What extents and pages make up after a piece was added.
use Rattle.std.proofs.Common.{◌≡◌, ℕ, zero, suc, ◌+◌, ◌-◌, ◌/◌, ◌≤◌, ◌<◌, Bool, true, false, cond, List, [], ◌∷◌}
use Rattle.std.proofs.Common.{length, get_or, refl, ap, sym, ◌∙◌, arith, ◌⊎◌, inl, inr, Option, Some, None, map, nat_lt}
use Rattle.std.specs.Option.{option_map, is_some}
use Rattle.std.specs.List.{All, list_any}
use Rattle.std.proofs.lemmas.Bool.Decides.{nat_tests}
use Rattle.std.proofs.lemmas.List.{ext_get_or, with_items_is}
use Rattle.std.specs.Vec.{with_items}
use Rattle.std.proofs.Common.{Vec}
use Rattle.std.proofs.lemmas.List.Elements.{All-map}
use Rattle.std.proofs.lemmas.Bool.{or_parts}
use Rattle.std.proofs.Common.{nat_le}
use Rattle.ks_base.specs.declared.places.Range.{Range}
use Rattle.image_memory.specs.declared.types.Piece.{Piece}
use Rattle.image_memory.specs.Ranges.{lies_in, meets, MeetsNone, Ascends, put_in}
use Rattle.image_memory.specs.Contents.{piece_range}
use Rattle.image_memory.specs.Changes.{with_piece}
use Rattle.image_memory.specs.Access.{new_byte}
use Rattle.image_memory.specs.laws.RangeLaws.{inside, within}
use Rattle.image_memory.specs.laws.PutLaws.{is_above}
use Rattle.image_memory.specs.laws.AccessLaws.{length-overlaid, new_inside, new_outside}
use Rattle.paged_memory.specs.declared.types.Extent.{Extent}
use Rattle.paged_memory.specs.declared.types.Page.{Page}
use Rattle.paged_memory.specs.Pages.{extent_range, extent_of, page_range, page_low, extent_at, page_at, pieces_of, piece_of}
use Rattle.paged_memory.specs.Pages.{stored, stored_from, ended, begun, ends_by, begins_below, IsCovered, counting, overlaid_page}
use Rattle.paged_memory.specs.inside.Missing.{missing}
use Rattle.paged_memory.specs.inside.Opening.{IsOpenTo}
use Rattle.paged_memory.proofs.MissingLaws.{missing-kept}
use Rattle.paged_memory.proofs.PageLaws.{length-stored_from, get_or-stored_from, stored_is}
use Rattle.paged_memory.proofs.PutLaws.{Ascends-kept, page_at-kept, some-kept, stored-put, paged_at}
use Rattle.paged_memory.proofs.OpeningLaws.{find_put_miss, length-filter-put}

-- the pieces of extents of which one was put in
map-put : (ps : List Page) (e : Extent) (es : List Extent)
    → map (piece_of ps) (put_in extent_range e es) ≡ put_in piece_range (piece_of ps e) (map (piece_of ps) es)
map-put ps e [] = refl
map-put ps e (x ∷ xs) =
    elim (nat_lt e.base x.base)
    as (λ b. map (piece_of ps) (cond b (e ∷ x ∷ xs) (x ∷ put_in extent_range e xs))
    ≡ cond b (piece_of ps e ∷ piece_of ps x ∷ map (piece_of ps) xs)
    (piece_of ps x ∷ put_in piece_range (piece_of ps e) (map (piece_of ps) xs))) [
      | true ↦ refl
      | false ↦ ap (λ (qs : List Piece). piece_of ps x ∷ qs) (map-put ps e xs)
    ]

pub pieces_same : (es : List Extent) (ps qs : List Page)
    → ((k : ℕ) (d : Extent) → k < length es → piece_of qs (get_or es k d) ≡ piece_of ps (get_or es k d))
    → pieces_of es qs ≡ pieces_of es ps
pieces_same [] ps qs each = refl
pieces_same (e ∷ es) ps qs each =
    ap (λ (p : Piece). p ∷ pieces_of es qs) (each 0 e (omega arith))
    ∙ ap (λ (xs : List Piece). piece_of ps e ∷ xs) (pieces_same es ps qs (λ k d l. each (suc k) d (omega arith)))

-- the bytes of an extent by those that pages have at its addresses
pub piece_bytes : (ps : List Page) (e : Extent) (bytes : List ℕ) → length bytes ≡ e.length
    → ((k : ℕ) → k < e.length → stored ps (e.base + k) ≡ get_or bytes k 0) → stored_from ps e.base e.length ≡ bytes
piece_bytes ps e bytes long each =
    ext_get_or 0 _ _ (length-stored_from ps e.base e.length ∙ sym long) (λ k l.
    let m : k < e.length = rw (length-stored_from ps e.base e.length) at l in
    get_or-stored_from ps e.base e.length k m ∙ each k m)

pub some_page : (o : Option Page) → is_some o ≡ true → (p : Page) × (o ≡ Some p)
some_page None h = absurd (cc)
some_page (Some p) h = (p, refl)

-- what counting leaves
stored-counted : (ps : List Page) (e : Extent) (a : ℕ) (p : Page) → page_at ps a ≡ Some p
    → stored (map (counting e) ps) a ≡ stored ps a
stored-counted ps e a p is =
    stored_is (map (counting e) ps) a (counting e p) (page_at-kept (counting e) (λ q. refl) ps a ∙ ap (option_map (counting e)) is)
    ∙ sym (stored_is ps a p is)

meets_apart : (r s : Range) (a : ℕ) → meets r s ≡ false → lies_in a s ≡ true → lies_in a r ≡ false
meets_apart r s a apart here = grind (arith, nat_tests)

none_meet : {X : Type 0} (q : X → Bool) (xs : List X) (k : ℕ) (d : X) → list_any q xs ≡ false → k < length xs → q (get_or xs k d) ≡ false
none_meet q [] k d none l = absurd (omega arith)
none_meet q (x ∷ xs) zero d none l = (or_parts (q x) (list_any q xs) none).0
none_meet q (x ∷ xs) (suc k) d none l = none_meet q xs k d (or_parts (q x) (list_any q xs) none).1 (omega arith)

side : (a : ℕ) (r : Range) → lies_in a r ≡ false → (a < r.low) ⊎ (r.high ≤ a)
side a r h = grind (arith, nat_tests)

strict : (b c : Bool) (m n : ℕ) → (b ≡ true → c ≡ true) → m < n → cond b (m + 1) m < cond c (n + 1) n
strict true true m n h l = omega arith
strict true false m n h l = let no' = h refl in absurd (cc)
strict false true m n h l = omega arith
strict false false m n h l = l

ends_begins : (low : ℕ) (e : Extent) → 0 < e.length → ends_by low e ≡ true → begins_below (low + 4096) e ≡ true
ends_begins low e some h = grind (arith, nat_tests)

-- pages after an extent was counted and its bytes were put
abbrev pub added : Piece → List Page → List Page
added piece pages = map (overlaid_page piece.base piece.bytes) (map (counting (extent_of piece)) pages)

pub added-missing : (ranges : List Range) (piece : Piece) (ps : List Page) → missing ranges (added piece ps) ≡ missing ranges ps
added-missing ranges piece ps =
    missing-kept (overlaid_page piece.base piece.bytes) (λ q. refl) ranges (map (counting (extent_of piece)) ps)
    ∙ missing-kept (counting (extent_of piece)) (λ q. refl) ranges ps

module _ (es : List Extent) (old opened : List Page) (piece : Piece) (up : Ascends extent_range 0 es)
    (covered : IsCovered es old)
    (o : IsOpenTo es old opened (piece.base / 4096) ((piece.base + length piece.bytes - 1) / 4096 + 1))
    (full : 0 < length piece.bytes) (apart : MeetsNone extent_range (piece_range piece) es) where
  pub added-sorted : Ascends page_range 0 (added piece opened)
  added-sorted =
      Ascends-kept (overlaid_page piece.base piece.bytes) (λ q. refl) 0 (map (counting (extent_of piece)) opened)
      (Ascends-kept (counting (extent_of piece)) (λ q. refl) 0 opened o.laid.sorted)

  pub added-below : All (λ p. (page_range p).high ≤ 0xFFFF_0000) (added piece opened)
  added-below =
      All-map (λ p. (page_range p).high ≤ 0xFFFF_0000) (overlaid_page piece.base piece.bytes)
      (map (counting (extent_of piece)) opened)
      (All-map (λ p. (page_range p).high ≤ 0xFFFF_0000) (counting (extent_of piece)) opened o.laid.below)

  counted-full : All (λ p. length p.bytes ≡ 4096) (map (counting (extent_of piece)) opened)
  counted-full = All-map (λ p. length p.bytes ≡ 4096) (counting (extent_of piece)) opened o.laid.full

  pub added-full : All (λ p. length p.bytes ≡ 4096) (added piece opened)
  added-full =
      All-map (λ p. length p.bytes ≡ 4096) (overlaid_page piece.base piece.bytes) (map (counting (extent_of piece)) opened)
      (λ k d l. length-overlaid piece.base piece.bytes _ _ ∙ counted-full k d l)

  pub added-first : All (λ p. p.first ≡ ended (page_low p) (put_in extent_range (extent_of piece) es)) (added piece opened)
  added-first =
      All-map (λ p. p.first ≡ ended (page_low p) (put_in extent_range (extent_of piece) es))
      (overlaid_page piece.base piece.bytes) (map (counting (extent_of piece)) opened)
      (All-map (λ p. p.first ≡ ended (page_low p) (put_in extent_range (extent_of piece) es)) (counting (extent_of piece)) opened
      (λ k d l.
      ap (λ n. cond (ends_by (page_low (get_or opened k d)) (extent_of piece)) (n + 1) n) (o.laid.first k d l)
      ∙ sym (length-filter-put extent_range (ends_by (page_low (get_or opened k d))) (extent_of piece) es)))

  pub added-last : All (λ p. p.last ≡ begun (page_low p + 4096) (put_in extent_range (extent_of piece) es)) (added piece opened)
  added-last =
      All-map (λ p. p.last ≡ begun (page_low p + 4096) (put_in extent_range (extent_of piece) es))
      (overlaid_page piece.base piece.bytes) (map (counting (extent_of piece)) opened)
      (All-map (λ p. p.last ≡ begun (page_low p + 4096) (put_in extent_range (extent_of piece) es)) (counting (extent_of piece)) opened
      (λ k d l.
      ap (λ n. cond (begins_below (page_low (get_or opened k d) + 4096) (extent_of piece)) (n + 1) n) (o.laid.last k d l)
      ∙ sym (length-filter-put extent_range (begins_below (page_low (get_or opened k d) + 4096)) (extent_of piece) es)))

  counted-some : (p : Page)
      → ((piece.base / 4096 ≤ p.number) × (p.number < (piece.base + length piece.bytes - 1) / 4096 + 1) × (p.first ≤ p.last))
      ⊎ (p.first < p.last)
      → (counting (extent_of piece) p).first < (counting (extent_of piece) p).last
  counted-some p (inr l) =
      strict (ends_by (page_low p) (extent_of piece)) (begins_below (page_low p + 4096) (extent_of piece)) p.first p.last
      (ends_begins (page_low p) (extent_of piece) full) l
  counted-some p (inl h) =
      let above = h.0 in
      let under = h.1 in
      let order = h.2 in
      let not_ended : ends_by (page_low p) (extent_of piece) ≡ false =
      not_above_le (page_low p) (piece.base + length piece.bytes) (omega arith) in
      let has_begun : begins_below (page_low p + 4096) (extent_of piece) ≡ true =
      is_above piece.base (page_low p + 4096) (omega arith) in
      rw (not_ended, has_begun) (omega arith)
    where
      not_above_le : (a b : ℕ) → a < b → nat_le b a ≡ false
      not_above_le a b l = grind (arith, nat_tests)

  pub added-some : All (λ p. p.first < p.last) (added piece opened)
  added-some =
      All-map (λ p. p.first < p.last) (overlaid_page piece.base piece.bytes) (map (counting (extent_of piece)) opened)
      (All-map (λ p. p.first < p.last) (counting (extent_of piece)) opened (λ k d l. counted-some (get_or opened k d) (o.each k d l)))

  same-some : (a : ℕ) → is_some (page_at (added piece opened) a) ≡ is_some (page_at opened a)
  same-some a =
      ap (λ (q : Option Page). is_some q) (page_at-kept (overlaid_page piece.base piece.bytes) (λ q. refl)
      (map (counting (extent_of piece)) opened) a)
      ∙ (some-kept (overlaid_page piece.base piece.bytes) (λ q. refl) (page_at (map (counting (extent_of piece)) opened) a)
      ∙ (ap (λ (q : Option Page). is_some q) (page_at-kept (counting (extent_of piece)) (λ q. refl) opened a)
      ∙ some-kept (counting (extent_of piece)) (λ q. refl) (page_at opened a)))

  has : (a : ℕ) → lies_in a (extent_range (extent_of piece)) ≡ true → is_some (page_at opened a) ≡ true
  has a is =
      let here = inside a (extent_range (extent_of piece)) is in
      let l = here.0 in
      let m = here.1 in
      o.there a (omega arith) (omega arith)

  pub added-covered : IsCovered (put_in extent_range (extent_of piece) es) (added piece opened)
  added-covered a none = by_test (lies_in a (extent_range (extent_of piece))) refl
    where
      gone : is_some (page_at opened a) ≡ false
      gone = sym (same-some a) ∙ none

      not_before : (q : Option Page) → page_at old a ≡ q → is_some (page_at old a) ≡ false
      not_before None is = ap (λ (q : Option Page). is_some q) is
      not_before (Some p) is =
          let there = ap (λ (q : Option Page). is_some q) (o.kept a p is) in
          let not_there = gone in
          absurd (cc)

      by_test : (b : Bool) → lies_in a (extent_range (extent_of piece)) ≡ b
          → is_some (extent_at (put_in extent_range (extent_of piece) es) a) ≡ false
      by_test true is = let there = has a is in let not_there = gone in absurd (cc)
      by_test false is =
          ap (λ (q : Option Extent). is_some q) (find_put_miss extent_range (λ x. lies_in a (extent_range x)) (extent_of piece) es is)
          ∙ covered a (not_before (page_at old a) refl)

  some_counted : (a : ℕ) → is_some (page_at opened a) ≡ true → is_some (page_at (map (counting (extent_of piece)) opened) a) ≡ true
  some_counted a there =
      ap (λ (q : Option Page). is_some q) (page_at-kept (counting (extent_of piece)) (λ q. refl) opened a)
      ∙ (some-kept (counting (extent_of piece)) (λ q. refl) (page_at opened a) ∙ there)

  byte-added : (a : ℕ) → is_some (page_at opened a) ≡ true → stored (added piece opened) a
      ≡ new_byte piece.base piece.bytes a (stored (map (counting (extent_of piece)) opened) a)
  byte-added a there =
      stored-put (map (counting (extent_of piece)) opened) piece.base piece.bytes a counted-full (some_counted a there)

  new_piece : piece_of (added piece opened) (extent_of piece) ≡ piece
  new_piece =
      ap (λ (xs : List ℕ). record piece { bytes = xs })
      (piece_bytes (added piece opened) (extent_of piece) piece.bytes refl (λ k l.
      let here = within (piece.base + k) (extent_range (extent_of piece)) (omega arith) (omega arith) in
      let place : piece.base + k - piece.base ≡ k = omega arith in
      byte-added (piece.base + k) (has (piece.base + k) here)
      ∙ (new_inside piece.base piece.bytes (piece.base + k) _ (omega arith) (omega arith)
      ∙ ap (λ i. get_or piece.bytes i 0) place)))

  old_byte : (k a : ℕ) (d : Extent) → k < length es → lies_in a (extent_range (get_or es k d)) ≡ true
      → stored (added piece opened) a ≡ stored old a
  old_byte k a d l here =
      let paged = some_page (page_at old a) (paged_at es old k a d up covered l here) in
      let now = o.kept a paged.0 paged.1 in
      let meets_no = none_meet (λ x. meets (piece_range piece) (extent_range x)) es k d apart l in
      let off = meets_apart (piece_range piece) (extent_range (get_or es k d)) a meets_no here in
      byte-added a (ap (λ (q : Option Page). is_some q) now)
      ∙ (new_outside piece.base piece.bytes a _ (side a (piece_range piece) off)
      ∙ (stored-counted opened (extent_of piece) a paged.0 now
      ∙ (stored_is opened a paged.0 now ∙ sym (stored_is old a paged.0 paged.1))))

  pub added-pieces : pieces_of (put_in extent_range (extent_of piece) es) (added piece opened)
      ≡ with_piece piece (pieces_of es old)
  added-pieces =
      map-put (added piece opened) (extent_of piece) es
      ∙ (ap (λ (p : Piece). put_in piece_range p (map (piece_of (added piece opened)) es)) new_piece
      ∙ ap (put_in piece_range piece) (pieces_same es old (added piece opened) (λ k d l.
      let p : Piece = piece_of old (get_or es k d) in
      ap (λ (xs : List ℕ). record p { bytes = xs })
      (piece_bytes (added piece opened) (get_or es k d) (stored_from old (get_or es k d).base (get_or es k d).length)
      (length-stored_from old (get_or es k d).base (get_or es k d).length) (λ i m.
      old_byte k ((get_or es k d).base + i) d l
      (within ((get_or es k d).base + i) (extent_range (get_or es k d)) (omega arith) (omega arith))
      ∙ sym (get_or-stored_from old (get_or es k d).base (get_or es k d).length i m))))))

pub vec_added : {Z : Type 0} (v : Vec Page Z) (new seen : List Page) (e : Extent) (bytes : List ℕ) (piece : Piece)
    → length new ≡ length seen → new ≡ map (overlaid_page e.base bytes) (map (counting e) seen) → seen ≡ v.items
    → e ≡ extent_of piece → bytes ≡ piece.bytes → (with_items v new).items ≡ added piece v.items
vec_added v new seen e bytes piece same is from extent_is bytes_are =
    with_items_is v new (same ∙ (ap length from ∙ sym v.ok.0))
    ∙ (is ∙ (ap (λ (ps : List Page). map (overlaid_page e.base bytes) (map (counting e) ps)) from
    ∙ (ap (λ (x : Extent). map (overlaid_page x.base bytes) (map (counting x) v.items)) extent_is
    ∙ ap (λ (bs : List ℕ). map (overlaid_page piece.base bs) (map (counting (extent_of piece)) v.items)) bytes_are)))
