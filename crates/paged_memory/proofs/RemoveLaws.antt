-- What extents and pages make up after a piece was taken away.
use Rattle.std.proofs.Common.{◌≡◌, ℕ, zero, suc, ◌+◌, ◌-◌, ◌≤◌, ◌<◌, ◌==◌, Bool, true, false, cond, not, List, [], ◌∷◌}
use Rattle.std.proofs.Common.{length, get_or, refl, ap, sym, subst, ◌∙◌, arith, ◌⊎◌, inl, inr, Option, Some, None, map}
use Rattle.std.specs.Option.{option_map, is_some}
use Rattle.std.specs.List.{All, AllWithin, Any, filter, find, remove}
use Rattle.std.proofs.lemmas.Bool.{ltb-true}
use Rattle.std.proofs.lemmas.Bool.Decides.{nat_tests}
use Rattle.std.proofs.lemmas.List.{length-map, get_or-map}
use Rattle.std.proofs.lemmas.List.Elements.{All-map, All-filter, filter_passes}
use Rattle.ks_base.specs.declared.places.Range.{Range}
use Rattle.image_memory.specs.declared.types.Piece.{Piece}
use Rattle.image_memory.specs.Ranges.{lies_in, Ascends}
use Rattle.image_memory.specs.Changes.{without_piece}
use Rattle.image_memory.specs.laws.RangeLaws.{inside, within, found, found_here, each_above, one_after}
use Rattle.image_memory.specs.laws.PutLaws.{is_above}
use Rattle.image_memory.specs.laws.ChangeLaws.{Ascends-remove, removed_at}
use Rattle.paged_memory.specs.declared.types.Extent.{Extent}
use Rattle.paged_memory.specs.declared.types.Page.{Page}
use Rattle.paged_memory.specs.Pages.{extent_range, page_range, page_low, extent_at, page_at, pieces_of, piece_of}
use Rattle.paged_memory.specs.Pages.{stored, stored_from, ended, begun, ends_by, begins_below, IsCovered, uncounting}
use Rattle.paged_memory.specs.inside.Closing.{IsTaken, IsCounted, is_used, closed}
use Rattle.paged_memory.proofs.ExtentLaws.{ended_before, begun_after}
use Rattle.paged_memory.proofs.ListLaws.{same_at}
use Rattle.paged_memory.proofs.PageLaws.{length-stored_from, get_or-stored_from, stored_is}
use Rattle.paged_memory.proofs.UseLaws.{paged_where_held}
use Rattle.paged_memory.proofs.PutLaws.{Ascends-kept, page_at-kept}
use Rattle.paged_memory.proofs.AddLaws.{pieces_same, piece_bytes, some_page}

-- how many pass a test where one is taken out
length-filter-remove : {X : Type 0} (q : X → Bool) (xs : List X) (i : ℕ) (x : X) → i < length xs
    → ((d : X) → get_or xs i d ≡ x)
    → length (filter q xs) ≡ cond (q x) (length (filter q (remove xs i)) + 1) (length (filter q (remove xs i)))
length-filter-remove q [] i x l is = absurd (omega arith)
length-filter-remove {X} q (y ∷ ys) zero x l is =
    ap (λ (z : X). length (cond (q z) (y ∷ filter q ys) (filter q ys))) (is y) ∙ head (q x) (filter q ys)
  where
    head : (b : Bool) (zs : List X) → length (cond b (y ∷ zs) zs) ≡ cond b (length zs + 1) (length zs)
    head true zs = omega arith
    head false zs = refl
length-filter-remove {X} q (y ∷ ys) (suc i) x l is =
    later (q y) (filter q ys) (filter q (remove ys i)) (length-filter-remove q ys i x (omega arith) is)
  where
    shift : (b : Bool) (m n : ℕ) → n ≡ cond b (m + 1) m → suc n ≡ cond b (suc m + 1) (suc m)
    shift true m n e = omega arith
    shift false m n e = omega arith

    later : (b : Bool) (gs hs : List X) → length gs ≡ cond (q x) (length hs + 1) (length hs)
        → length (cond b (y ∷ gs) gs) ≡ cond (q x) (length (cond b (y ∷ hs) hs) + 1) (length (cond b (y ∷ hs) hs))
    later true gs hs e = shift (q x) (length hs) (length gs) e
    later false gs hs e = e

-- what is found in a list and what is found in a part of it
module _ {X : Type 0} (q u : X → Bool) where
  find-filter : (xs : List X) (y : X) → find q xs ≡ Some y → u y ≡ true → find q (filter u xs) ≡ Some y
  find-filter [] y is stays = absurd (cc)
  find-filter (x ∷ xs) y is stays = by_tests (λ later. find-filter xs y later stays) (q x) (u x) refl refl is
    where
      by_tests : (find q xs ≡ Some y → find q (filter u xs) ≡ Some y) → (b c : Bool) → q x ≡ b → u x ≡ c
          → cond b (Some x) (find q xs) ≡ Some y → find q (cond c (x ∷ filter u xs) (filter u xs)) ≡ Some y
      by_tests rest true true e f here = rw e here
      by_tests rest true false e f here =
          let one : x ≡ y = cc in
          let kept = ap u one in
          absurd (cc)
      by_tests rest false true e f later = rw e (rest later)
      by_tests rest false false e f later = rest later

  some-filter : (xs : List X) → is_some (find q (filter u xs)) ≡ true → is_some (find q xs) ≡ true
  some-filter [] h = h
  some-filter (x ∷ xs) h = by_tests (λ there. some-filter xs there) (q x) (u x) refl h
    where
      by_tests : (is_some (find q (filter u xs)) ≡ true → is_some (find q xs) ≡ true) → (b c : Bool) → q x ≡ b
          → is_some (find q (cond c (x ∷ filter u xs) (filter u xs))) ≡ true
          → is_some (cond (q x) (Some x) (find q xs)) ≡ true
      by_tests rest true c e there = rw e refl
      by_tests rest false true e there = rw e (rest (rw e at there))
      by_tests rest false false e there = rw e (rest there)

-- things that ascend still do when some are left out
module _ {X : Type 0} (range : X → Range) (u : X → Bool) where
  lower : (floor low : ℕ) (xs : List X) → low ≤ floor → Ascends range floor xs → Ascends range low xs
  lower floor low [] l up = tt
  lower floor low (x ∷ xs) l up = let h = up.0 in (omega arith, up.1, up.2)

  Ascends-filter : (floor : ℕ) (xs : List X) → Ascends range floor xs → Ascends range floor (filter u xs)
  Ascends-filter floor [] up = tt
  Ascends-filter floor (x ∷ xs) up =
      let rest = Ascends-filter (range x).high xs up.2 in
      let low = up.0 in
      let full = up.1 in
      elim (u x) as (λ b. Ascends range floor (cond b (x ∷ filter u xs) (filter u xs))) [
        | true ↦ (up.0, up.1, rest)
        | false ↦ lower (range x).high floor (filter u xs) (omega arith) rest
      ]

-- the pieces of extents but that of a base
pieces-without : (ps : List Page) (base : ℕ) (es : List Extent)
    → pieces_of (filter (λ x. not (x.base == base)) es) ps ≡ without_piece base (pieces_of es ps)
pieces-without ps base [] = refl
pieces-without ps base (x ∷ xs) =
    elim (x.base == base)
    as (λ b. pieces_of
    (cond (not b) (x ∷ filter (λ y. not (y.base == base)) xs) (filter (λ y. not (y.base == base)) xs)) ps
    ≡ cond (not b) (piece_of ps x ∷ without_piece base (pieces_of xs ps)) (without_piece base (pieces_of xs ps))) [
      | true ↦ pieces-without ps base xs
      | false ↦ ap (λ (qs : List Piece). piece_of ps x ∷ qs) (pieces-without ps base xs)
    ]

-- a page that ends at or below an extent doesn't know of it
pub not_counted : (e : Extent) (p : Page) → 0 < e.length → (page_range p).high ≤ e.base → uncounting e p ≡ p
not_counted e p some h =
    let later : ends_by (page_low p) e ≡ false = grind (arith, nat_tests) in
    let above_it : begins_below (page_low p + 4096) e ≡ false = grind (arith, nat_tests) in
    rw (later, above_it) refl

-- the place of the extent that begins at a base, by how many begin below that
pub place_is : (es : List Extent) (base n j : ℕ) (x : Extent) → Ascends extent_range 0 es → j < length es
    → get_or es j x ≡ x → x.base ≡ base → AllWithin (λ e. e.base < base) es 0 n
    → AllWithin (λ e. base ≤ e.base) es n (length es) → n ≡ j
place_is es base n j x up l is base_is below from = elim (cases n j) [
  | inl e ↦ e
  | inr (inl h) ↦
      let next = one_after extent_range 0 es n j x up h l in
      let full = each_above extent_range 0 es n x up (omega arith) in
      let low = from n x (omega arith) (omega arith) in
      let here = ap (λ (e : Extent). e.base) is in
      absurd (omega arith)
  | inr (inr h) ↦
      let low = below j x (omega arith) h in
      let here = ap (λ (e : Extent). e.base) is in
      absurd (omega arith)
]
  where
    cases : (m n : ℕ) → (m ≡ n) ⊎ ((m < n) ⊎ (n < m))
    cases m n = grind arith

-- an extent begins where a piece does
pub extent_there : (es : List Extent) (ps : List Page) (base : ℕ) → Any (λ p. p.base ≡ base) (pieces_of es ps)
    → Any (λ x. x.base ≡ base) es
extent_there es ps base (k, p, l, is, base_is) =
    let none : Extent = record { kind = p.kind; base = 0; length = 0 } in
    let m : k < length es = rw (length-map es (piece_of ps)) at l in (
      k,
      get_or es k none,
      m,
      same_at es k (get_or es k none) none m,
      ap (λ (q : Piece). q.base) (sym (get_or-map (piece_of ps) es k none p m) ∙ is) ∙ base_is,
    )

-- a count with one less where that one was counted
one_less : (b : Bool) (m n : ℕ) → n ≡ cond b (m + 1) m → cond b (n - 1) n ≡ m
one_less true m n e = omega arith
one_less false m n e = e

some_counted : (b : Bool) (m n : ℕ) → n ≡ cond b (m + 1) m → b ≡ true → 0 < n
some_counted true m n e h = omega arith
some_counted false m n e h = absurd (cc)

-- what holds of the extents and pages that are left
pub record AreLeft (es rest : List Extent) (old new : List Page) (base : ℕ) : Type 0 where
  pub ascend : Ascends extent_range 0 rest
  pub sorted : Ascends page_range 0 new
  pub first : All (λ p. p.first ≡ ended (page_low p) rest) new
  pub last : All (λ p. p.last ≡ begun (page_low p + 4096) rest) new
  pub some : All (λ p. p.first < p.last) new
  pub covered : IsCovered rest new
  pub pieces : pieces_of rest new ≡ without_piece base (pieces_of es old)

module _ (es rest : List Extent) (ps : List Page) (e : Extent) (base : ℕ) (up : Ascends extent_range 0 es)
    (sorted : Ascends page_range 0 ps) (covered : IsCovered es ps)
    (firsts : All (λ p. p.first ≡ ended (page_low p) es) ps)
    (lasts : All (λ p. p.last ≡ begun (page_low p + 4096) es) ps) (t : IsTaken es rest base e) where
  rest-ascends : Ascends extent_range 0 rest
  rest-ascends =
      subst (λ (xs : List Extent). Ascends extent_range 0 xs) (sym t.left) (Ascends-remove extent_range 0 es t.at up)

  rest-is : rest ≡ filter (λ x. not (x.base == base)) es
  rest-is =
      t.left
      ∙ removed_at extent_range (λ x. x.base == base) 0 es base t.at up t.within
      (λ d. ap (λ (x : Extent). x.base) (t.is d) ∙ t.base_is)
      (λ d. let here = ap (λ (x : Extent). x.base) (t.is d) ∙ t.base_is in grind (arith, nat_tests))
      (λ x apart. grind (arith, nat_tests))

  pub All-rest : (P : Extent → Type 0) → All P es → All P rest
  All-rest P all =
      subst (λ (xs : List Extent). All P xs) (sym rest-is) (All-filter (λ x. not (x.base == base)) P es all)

  -- the extent that goes isn't empty
  pub taken-some : 0 < e.length
  taken-some =
      let full = (each_above extent_range 0 es t.at e up t.within).1 in
      let is = t.is e in
      let base' = ap (λ (x : Extent). x.base) is in
      let length' = ap (λ (x : Extent). x.length) is in
      omega arith

  fewer : (q : Extent → Bool) → length (filter q es) ≡ cond (q e) (length (filter q rest) + 1) (length (filter q rest))
  fewer q =
      subst (λ (xs : List Extent). length (filter q es)
      ≡ cond (q e) (length (filter q xs) + 1) (length (filter q xs))) (sym t.left)
      (length-filter-remove q es t.at e t.within t.is)

  -- pages count the extent that goes
  pub counts : IsCounted e ps
  counts k d l = (
    λ h. some_counted (ends_by (page_low (get_or ps k d)) e) (ended (page_low (get_or ps k d)) rest)
        (get_or ps k d).first (firsts k d l ∙ fewer (ends_by (page_low (get_or ps k d))))
        (ends (page_low (get_or ps k d)) h),
    λ h. some_counted (begins_below (page_low (get_or ps k d) + 4096) e) (begun (page_low (get_or ps k d) + 4096) rest)
        (get_or ps k d).last (lasts k d l ∙ fewer (begins_below (page_low (get_or ps k d) + 4096)))
        (is_above e.base (page_low (get_or ps k d) + 4096) h),
  )
    where
      ends : (a : ℕ) → e.base + e.length ≤ a → ends_by a e ≡ true
      ends a h = grind (arith, nat_tests)

  -- how many extents are left of those that a page counted
  first-at : (k : ℕ) (d : Page) → k < length ps
      → (uncounting e (get_or ps k d)).first ≡ ended (page_low (get_or ps k d)) rest
  first-at k d l =
      one_less (ends_by (page_low (get_or ps k d)) e) (ended (page_low (get_or ps k d)) rest) (get_or ps k d).first
      (firsts k d l ∙ fewer (ends_by (page_low (get_or ps k d))))

  last-at : (k : ℕ) (d : Page) → k < length ps
      → (uncounting e (get_or ps k d)).last ≡ begun (page_low (get_or ps k d) + 4096) rest
  last-at k d l =
      one_less (begins_below (page_low (get_or ps k d) + 4096) e) (begun (page_low (get_or ps k d) + 4096) rest)
      (get_or ps k d).last (lasts k d l ∙ fewer (begins_below (page_low (get_or ps k d) + 4096)))

  closed-first : All (λ p. p.first ≡ ended (page_low p) rest) (closed e ps)
  closed-first = All-filter is_used (λ p. p.first ≡ ended (page_low p) rest) (map (uncounting e) ps)
      (All-map (λ p. p.first ≡ ended (page_low p) rest) (uncounting e) ps first-at)

  closed-last : All (λ p. p.last ≡ begun (page_low p + 4096) rest) (closed e ps)
  closed-last = All-filter is_used (λ p. p.last ≡ begun (page_low p + 4096) rest) (map (uncounting e) ps)
      (All-map (λ p. p.last ≡ begun (page_low p + 4096) rest) (uncounting e) ps last-at)

  closed-some : All (λ p. p.first < p.last) (closed e ps)
  closed-some k d l = ltb-true _ _ (filter_passes is_used (map (uncounting e) ps) k d l)

  closed-sorted : Ascends page_range 0 (closed e ps)
  closed-sorted =
      Ascends-filter page_range is_used 0 (map (uncounting e) ps) (Ascends-kept (uncounting e) (λ p. refl) 0 ps sorted)

  -- a page at whose address another extent has a byte is used
  used : (a : ℕ) (p : Page) → page_at ps a ≡ Some p → is_some (extent_at rest a) ≡ true
      → is_used (uncounting e p) ≡ true
  used a p is there = by_extent (extent_at rest a) refl there
    where
      by_extent : (o : Option Extent) → extent_at rest a ≡ o → is_some o ≡ true → is_used (uncounting e p) ≡ true
      by_extent None at none = absurd (cc)
      by_extent (Some x) at some =
          let f = found (λ q. lies_in a (page_range q)) ps p is in
          let first = subst (λ (q : Page). (uncounting e q).first ≡ ended (page_low q) rest) (f.at p)
          (first-at f.index p f.in_list) in
          let last = subst (λ (q : Page). (uncounting e q).last ≡ begun (page_low q + 4096) rest) (f.at p)
          (last-at f.index p f.in_list) in
          let page = inside a (page_range p) f.passes in
          let g = found (λ y. lies_in a (extent_range y)) rest x at in
          let here = inside a (extent_range x) g.passes in
          let base_is = ap (λ (y : Extent). y.base) (g.at x) in
          let length_is = ap (λ (y : Extent). y.length) (g.at x) in
          let ended_first : ended (page_low p) rest ≤ g.index
          = elim (before_or_from g.index (ended (page_low p) rest)) [
            | inl h ↦
                let ends = ended_before rest rest-ascends (page_low p) g.index x h in
                let low = page.0 in
                let high = here.1 in
                absurd (omega arith)
            | inr h ↦ h
          ] in
          let begun_last : g.index < begun (page_low p + 4096) rest
          = elim (before_or_from g.index (begun (page_low p + 4096) rest)) [
            | inl h ↦ h
            | inr h ↦
                let begins = begun_after rest rest-ascends (page_low p + 4096) g.index x h g.in_list in
                let high = page.1 in
                let low = here.0 in
                absurd (omega arith)
          ] in
          is_above (uncounting e p).first (uncounting e p).last (omega (arith, first, last, ended_first, begun_last))
        where
          before_or_from : (k i : ℕ) → (k < i) ⊎ (i ≤ k)
          before_or_from k i = grind arith

  still : (a : ℕ) (p : Page) → page_at ps a ≡ Some p → is_some (extent_at rest a) ≡ true
      → page_at (closed e ps) a ≡ Some (uncounting e p)
  still a p is there =
      find-filter (λ q. lies_in a (page_range q)) is_used (map (uncounting e) ps) (uncounting e p)
      (page_at-kept (uncounting e) (λ q. refl) ps a ∙ ap (option_map (uncounting e)) is) (used a p is there)

  -- where an extent that is left has an address, there was a page
  paged : (a : ℕ) → is_some (extent_at rest a) ≡ true → (p : Page) × (page_at ps a ≡ Some p)
  paged a there =
      some_page (page_at ps a) (paged_where_held es ps a covered
      (some-filter (λ x. lies_in a (extent_range x)) (λ x. not (x.base == base)) es
      (subst (λ (xs : List Extent). is_some (extent_at xs a) ≡ true) rest-is there)))

  closed-covered : IsCovered rest (closed e ps)
  closed-covered a none = by_test (is_some (extent_at rest a)) refl
    where
      by_test : (b : Bool) → is_some (extent_at rest a) ≡ b → is_some (extent_at rest a) ≡ false
      by_test false is = is
      by_test true is =
          let p = paged a is in
          let there = ap (λ (o : Option Page). is_some o) (still a p.0 p.1 is) in
          absurd (cc)

  same_byte : (k a : ℕ) (d : Extent) → k < length rest → lies_in a (extent_range (get_or rest k d)) ≡ true
      → stored (closed e ps) a ≡ stored ps a
  same_byte k a d l here =
      let there = ap (λ (o : Option Extent). is_some o) (found_here extent_range 0 rest a k d rest-ascends l here) in
      let p = paged a there in
      stored_is (closed e ps) a (uncounting e p.0) (still a p.0 p.1 there) ∙ sym (stored_is ps a p.0 p.1)

  closed-pieces : pieces_of rest (closed e ps) ≡ without_piece base (pieces_of es ps)
  closed-pieces =
      pieces_same rest ps (closed e ps) (λ k d l.
      let p : Piece = piece_of ps (get_or rest k d) in
      ap (λ (xs : List ℕ). record p { bytes = xs })
      (piece_bytes (closed e ps) (get_or rest k d) (stored_from ps (get_or rest k d).base (get_or rest k d).length)
      (length-stored_from ps (get_or rest k d).base (get_or rest k d).length) (λ i m.
      same_byte k ((get_or rest k d).base + i) d l
      (within ((get_or rest k d).base + i) (extent_range (get_or rest k d)) (omega arith) (omega arith))
      ∙ sym (get_or-stored_from ps (get_or rest k d).base (get_or rest k d).length i m))))
      ∙ (ap (λ (xs : List Extent). pieces_of xs ps) rest-is ∙ pieces-without ps base es)

  pub are_left : (new : List Page) → new ≡ closed e ps → AreLeft es rest ps new base
  are_left new is = subst (λ (qs : List Page). AreLeft es rest ps qs base) (sym is) (record {
    ascend = rest-ascends;
    sorted = closed-sorted;
    first = closed-first;
    last = closed-last;
    some = closed-some;
    covered = closed-covered;
    pieces = closed-pieces;
  })

-- what holds of each page and has to do with no extent still does
pub All-closed : (P : Page → Type 0) (e : Extent) (ps new : List Page) → new ≡ closed e ps
    → All (λ p. P (uncounting e p)) ps → All P new
All-closed P e ps new is all =
    subst (λ (qs : List Page). All P qs) (sym is)
    (All-filter is_used P (map (uncounting e) ps) (All-map P (uncounting e) ps all))
