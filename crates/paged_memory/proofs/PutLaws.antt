-- What pages have after bytes were put over theirs, or what they know of extents was changed.
use Rattle.std.proofs.Common.{◌≡◌, ℕ, suc, ◌+◌, ◌-◌, ◌*◌, ◌≤◌, ◌<◌, Bool, true, false, cond, List, [], ◌∷◌, length}
use Rattle.std.proofs.Common.{get_or, refl, ap, sym, subst, ◌∙◌, arith, ◌⊎◌, inl, inr, Option, Some, None, map, Vec, ◌++◌, take, drop, length-append}
use Rattle.std.specs.Vec.{with_items}
use Rattle.std.proofs.lemmas.List.{ext_get_or, with_items_is, get_or-drop, length-take, length-drop}
use Rattle.std.specs.Option.{option_map, is_some}
use Rattle.std.specs.List.{All}
use Rattle.image_memory.specs.declared.types.Piece.{Piece}
use Rattle.image_memory.specs.Ranges.{lies_in, Ascends}
use Rattle.image_memory.specs.laws.RangeLaws.{inside, within, found, found_here}
use Rattle.image_memory.specs.laws.AccessLaws.{length-overlaid, get_or-overlaid, overlaid_outside, new_inside, new_outside}
use Rattle.image_memory.specs.laws.ByteLaws.{earlier_or_later, copied_below, copied_from, copied_past}
use Rattle.image_memory.specs.Access.{overlaid, overlaid_piece, written, new_byte}
use Rattle.paged_memory.specs.declared.types.Extent.{Extent}
use Rattle.paged_memory.specs.declared.types.Page.{Page}
use Rattle.paged_memory.specs.Pages.{extent_range, page_range, page_low, page_at, pieces_of, piece_of}
use Rattle.paged_memory.specs.Pages.{stored, stored_from, IsCovered, overlaid_page}
use Rattle.paged_memory.proofs.PageLaws.{length-stored_from, get_or-stored_from, stored_is}
use Rattle.paged_memory.proofs.UseLaws.{paged_where_held}

-- pages that are changed and keep their numbers
module _ (f : Page → Page) (same : (p : Page) → (f p).number ≡ p.number) where
  pub Ascends-kept : (floor : ℕ) (ps : List Page) → Ascends page_range floor ps → Ascends page_range floor (map f ps)
  Ascends-kept floor [] h = tt
  Ascends-kept floor (p ∷ ps) h = rw (same p) (h.0, h.1, Ascends-kept (page_range p).high ps h.2)

  pub page_at-kept : (ps : List Page) (a : ℕ) → page_at (map f ps) a ≡ option_map f (page_at ps a)
  page_at-kept [] a = refl
  page_at-kept (p ∷ ps) a =
      by_test (lies_in a (page_range p)) (lies_in a (page_range (f p)))
      (ap (λ n. lies_in a (record { low = 4096 * n; high = 4096 * n + 4096 })) (same p)) (page_at-kept ps a)
    where
      by_test : (b c : Bool) → c ≡ b → page_at (map f ps) a ≡ option_map f (page_at ps a)
          → cond c (Some (f p)) (page_at (map f ps) a) ≡ option_map f (cond b (Some p) (page_at ps a))
      by_test true c e rest = rw e refl
      by_test false c e rest = rw e rest

  pub some-kept : (o : Option Page) → is_some (option_map f o) ≡ is_some o
  some-kept None = refl
  some-kept (Some p) = refl

  pub covered-kept : (es : List Extent) (ps : List Page) → IsCovered es ps → IsCovered es (map f ps)
  covered-kept es ps covered a none =
      covered a (sym (ap (λ (o : Option Page). is_some o) (page_at-kept ps a) ∙ some-kept (page_at ps a)) ∙ none)

-- a byte after bytes were put
pub stored-put : (ps : List Page) (start : ℕ) (bytes : List ℕ) (a : ℕ) → All (λ p. length p.bytes ≡ 4096) ps
    → is_some (page_at ps a) ≡ true
    → stored (map (overlaid_page start bytes) ps) a ≡ new_byte start bytes a (stored ps a)
stored-put ps start bytes a full some = by_page (page_at ps a) refl some
  where
    by_page : (o : Option Page) → page_at ps a ≡ o → is_some o ≡ true
        → stored (map (overlaid_page start bytes) ps) a ≡ new_byte start bytes a (stored ps a)
    by_page None is none = absurd (cc)
    by_page (Some p) is yes' =
        let hit = found (λ q. lies_in a (page_range q)) ps p is in
        let here = inside a (page_range p) hit.passes in
        let long : length p.bytes ≡ 4096 = subst (λ (q : Page). length q.bytes ≡ 4096) (hit.at p) (full hit.index p hit.in_list) in
        let then_page = page_at-kept (overlaid_page start bytes) (λ q. refl) ps a
        ∙ ap (option_map (overlaid_page start bytes)) is in
        let offset : a - page_low p < length p.bytes = omega (arith, long) in
        let place : page_low p + (a - page_low p) ≡ a = omega arith in
        stored_is (map (overlaid_page start bytes) ps) a (overlaid_page start bytes p) then_page
        ∙ (get_or-overlaid start bytes (page_low p) p.bytes (a - page_low p) offset
        ∙ (ap (λ x. new_byte start bytes x (get_or p.bytes (a - page_low p) 0)) place
        ∙ ap (new_byte start bytes a) (sym (stored_is ps a p is))))

-- pieces that change one by one
pub pieces_change : (g : Piece → Piece) (es : List Extent) (ps qs : List Page)
    → ((k : ℕ) (d : Extent) → k < length es → piece_of qs (get_or es k d) ≡ g (piece_of ps (get_or es k d)))
    → pieces_of es qs ≡ map g (pieces_of es ps)
pieces_change g [] ps qs each = refl
pieces_change g (e ∷ es) ps qs each =
    ap (λ (p : Piece). p ∷ pieces_of es qs) (each 0 e (omega arith))
    ∙ ap (λ (xs : List Piece). g (piece_of ps e) ∷ xs)
    (pieces_change g es ps qs (λ k d l. each (suc k) d (omega arith)))

-- each address of an extent has a page
pub paged_at : (es : List Extent) (ps : List Page) (k a : ℕ) (d : Extent) → Ascends extent_range 0 es → IsCovered es ps
    → k < length es → lies_in a (extent_range (get_or es k d)) ≡ true → is_some (page_at ps a) ≡ true
paged_at es ps k a d up covered l here =
    paged_where_held es ps a covered (ap (λ (o : Option Extent). is_some o) (found_here extent_range 0 es a k d up l here))

pub pieces-put : (es : List Extent) (ps : List Page) (start : ℕ) (bytes : List ℕ) → Ascends extent_range 0 es
    → IsCovered es ps → All (λ p. length p.bytes ≡ 4096) ps
    → pieces_of es (map (overlaid_page start bytes) ps) ≡ written start bytes (pieces_of es ps)
pieces-put es ps start bytes up covered full =
    pieces_change (overlaid_piece start bytes) es ps (map (overlaid_page start bytes) ps) (λ k d l.
    let e = get_or es k d in
    let p : Piece = piece_of ps (get_or es k d) in
    ap (λ (xs : List ℕ). record p { bytes = xs })
    (ext_get_or 0 _ _ (length-stored_from _ (get_or es k d).base (get_or es k d).length ∙ sym (length-overlaid start bytes
    (get_or es k d).base _ ∙ length-stored_from ps (get_or es k d).base (get_or es k d).length)) (λ i m.
    let n : i < (get_or es k d).length = rw (length-stored_from _ (get_or es k d).base (get_or es k d).length) at m in
    let long : i < length (stored_from ps (get_or es k d).base (get_or es k d).length) =
    rw (length-stored_from ps (get_or es k d).base (get_or es k d).length) n in
    let paged = paged_at es ps k ((get_or es k d).base + i) d up covered l
    (within ((get_or es k d).base + i) (extent_range (get_or es k d)) (omega arith) (omega arith)) in
    get_or-stored_from (map (overlaid_page start bytes) ps) (get_or es k d).base (get_or es k d).length i n
    ∙ (stored-put ps start bytes ((get_or es k d).base + i) full paged
    ∙ sym (get_or-overlaid start bytes (get_or es k d).base _ i long
    ∙ ap (new_byte start bytes ((get_or es k d).base + i)) (get_or-stored_from ps (get_or es k d).base (get_or es k d).length i n))))))

-- bytes put over others from one of them on
module _ (at start : ℕ) (from target : List ℕ) (low : at ≤ start) (high : start + length from ≤ at + length target) where
  rest : List ℕ
  rest = drop (length from) (drop (start - at) target)

  placed : List ℕ
  placed = take (start - at) target ++ (from ++ rest)

  length-placed : length placed ≡ length target
  unfolding placed rest
  length-placed = simp (length-append, length-take, length-drop) (omega arith)

  byte_placed : (k : ℕ) → k < length target → get_or placed k 0 ≡ new_byte start from (at + k) (get_or target k 0)
  unfolding placed rest
  byte_placed k l = elim (earlier_or_later k (start - at)) [
    | inl before ↦
        copied_below target from _ (start - at) k (omega arith) before
        ∙ sym (new_outside start from (at + k) (get_or target k 0) (inl (omega arith)))
    | inr behind ↦ elim (earlier_or_later k (start - at + length from)) [
      | inl among ↦
          let e : k - (start - at) ≡ at + k - start = omega arith in
          copied_from target from _ (start - at) k (omega arith) behind among
          ∙ (ap (λ i. get_or from i 0) e
          ∙ sym (new_inside start from (at + k) (get_or target k 0) (omega arith) (omega arith)))
      | inr past ↦
          let e : start - at + (length from + (k - (start - at) - length from)) ≡ k = omega arith in
          copied_past target from _ (start - at) k (omega arith) past
          ∙ (get_or-drop (length from) (drop (start - at) target) _ 0
          ∙ (get_or-drop (start - at) target _ 0
          ∙ (ap (λ i. get_or target i 0) e
          ∙ sym (new_outside start from (at + k) (get_or target k 0) (inr (omega arith))))))
    ]
  ]

  pub put_is : take (start - at) target ++ (from ++ drop (length from) (drop (start - at) target))
      ≡ overlaid start from at target
  unfolding placed rest
  put_is = ext_get_or 0 placed _ (length-placed ∙ sym (length-overlaid start from at target)) (λ k l.
      let m : k < length target = rw length-placed at l in
      byte_placed k m ∙ sym (get_or-overlaid start from at target k m))

-- nothing written changes no piece
pub written_nothing : (start : ℕ) (ps : List Piece) → ps ≡ written start [] ps
written_nothing start [] = refl
written_nothing start (p ∷ ps) =
    ap (λ (q : Piece). q ∷ ps) (sym (ap (λ (xs : List ℕ). record p { bytes = xs })
    (overlaid_outside start [] p.base p.bytes (λ k l. side (p.base + k)))))
    ∙ ap (λ (qs : List Piece). overlaid_piece start [] p ∷ qs) (written_nothing start ps)
  where
    side : (a : ℕ) → (a < start) ⊎ (start + length {A = ℕ} [] ≤ a)
    side a = grind arith

-- the pages that a vector keeps after they were changed through a slice of it
pub kept_as : {Z : Type 0} (v : Vec Page Z) (f : Page → Page) (new seen : List Page) → length new ≡ length seen
    → new ≡ map f seen → seen ≡ v.items → (with_items v new).items ≡ map f v.items
kept_as v f new seen same is from =
    with_items_is v new (same ∙ (ap length from ∙ sym v.ok.0)) ∙ (is ∙ ap (map f) from)
