-- Pieces that are added in their order.
use Rattle.std.proofs.Common.{◌≡◌, ℕ, ◌+◌, ◌<◌, Bool, ◌||◌, List, [], ◌∷◌, ◌++◌, take, length}
use Rattle.std.proofs.Common.{append_assoc, length-append, subst}
use Rattle.std.proofs.Math.Seq.{take-append_seam}
use Rattle.std.proofs.Common.{get_or, refl, ap, sym, ◌∙◌, arith, inr}
use Rattle.std.specs.List.{list_any, insert}
use Rattle.std.proofs.lemmas.List.{take_more, length-take-le, get_or-take}
use Rattle.std.proofs.lemmas.List.Edits.{insert_end}
use Rattle.std.proofs.lemmas.List.Folds.{list_any_none}
use Rattle.ks_base.specs.declared.places.Range.{Range}
use Rattle.image_memory.specs.declared.types.Piece.{Piece}
use Rattle.image_memory.specs.Ranges.{meets, MeetsNone, Ascends}
use Rattle.image_memory.specs.Contents.{piece_range}
use Rattle.image_memory.specs.Changes.{with_piece}
use Rattle.image_memory.specs.laws.RangeLaws.{each_above, one_after, lows_rise}
use Rattle.image_memory.specs.laws.PutLaws.{insert_is_put}
use Rattle.paged_memory.specs.declared.types.Extent.{Extent}
use Rattle.paged_memory.specs.declared.types.Page.{Page}
use Rattle.paged_memory.specs.Pages.{extent_range, pieces_of}
use Rattle.paged_memory.proofs.PageLaws.{length-stored_from}
use Rattle.paged_memory.proofs.OpeningLaws.{meets_not}
use Rattle.paged_memory.proofs.ListLaws.{same_at}

-- a range meets pieces where it meets their extents
meets_same : (r : Range) (es : List Extent) (ps : List Page) → list_any (λ x. meets r (piece_range x)) (pieces_of es ps)
    ≡ list_any (λ e. meets r (extent_range e)) es
meets_same r [] ps = refl
meets_same r (e ∷ es) ps =
    rw (length-stored_from ps e.base e.length) (ap (λ (b : Bool). meets r (extent_range e) || b) (meets_same r es ps))

pub meets_extents : (r : Range) (es : List Extent) (ps : List Page) → MeetsNone piece_range r (pieces_of es ps)
    → MeetsNone extent_range r es
meets_extents r es ps apart = sym (meets_same r es ps) ∙ apart

-- a piece of some in order meets none of those before it, and is put behind them
pub apart_before : (ps : List Piece) (k : ℕ) (p : Piece) → Ascends piece_range 0 ps → k < length ps → p ≡ get_or ps k p
    → MeetsNone piece_range (piece_range p) (take k ps)
apart_before ps k p up l is =
    list_any_none (λ x. meets (piece_range p) (piece_range x)) (take k ps) (λ j d m.
    let n : j < k = rw (length-take-le k ps (omega arith)) at m in
    let same = ap (λ (x : Piece). (piece_range x).high) (get_or-take k ps j d n) in
    let next = one_after piece_range 0 ps j k p up n l in
    let here = ap (λ (x : Piece). x.base) is in
    let other = ap (λ (x : Piece). (piece_range x).high) (same_default ps j d p (omega arith)) in
    meets_not (piece_range p) (piece_range (get_or (take k ps) j d)) (inr (omega arith)))
  where
    same_default : (xs : List Piece) (i : ℕ) (d e : Piece) → i < length xs → get_or xs i d ≡ get_or xs i e
    same_default xs i d e l = same_at xs i d e l

pub put_behind : (ps : List Piece) (k : ℕ) (p : Piece) → Ascends piece_range 0 ps → k < length ps → p ≡ get_or ps k p
    → with_piece p (take k ps) ≡ take (k + 1) ps
put_behind ps k p up l is =
    sym (insert_is_put piece_range p (take k ps) k (rw long (omega arith))
    (λ j d m.
    let same = ap (λ (x : Piece). x.base) (get_or-take k ps j d m) in
    let rise = lows_rise piece_range 0 ps up j k d (omega arith) l in
    let here = ap (λ (x : Piece). x.base) (is ∙ same_at ps k p d l) in
    omega arith)
    (λ j d m n. absurd (let long' = long in omega arith)))
    ∙ (ap (λ n. insert (take k ps) n p) (sym long)
    ∙ (insert_end (take k ps) p
    ∙ (ap (λ (x : Piece). take k ps ++ x ∷ []) is ∙ sym (take_more ps k p l))))
  where
    long : length (take k ps) ≡ k
    long = length-take-le k ps (omega arith)

-- the next of some pieces in order isn't empty, meets none of those before it, and is put behind them
pub next_put : (all done left rest : List Piece) (p : Piece) → Ascends piece_range 0 all → done ++ left ≡ all → left ≡ p ∷ rest
    → (0 < length p.bytes) × MeetsNone piece_range (piece_range p) done × (with_piece p done ++ rest ≡ all)
next_put all done left rest p up split next = (
  (let f = full in let here = ap (λ (x : Piece). length x.bytes) is in omega arith),
  subst (λ (ps : List Piece). MeetsNone piece_range (piece_range p) ps) seam (apart_before all (length done) p up l is),
  ap (λ (ps : List Piece). ps ++ rest) (ap (with_piece p) (sym seam) ∙ (put_behind all (length done) p up l is
      ∙ (take_more all (length done) p l ∙ (ap (λ (ps : List Piece). ps ++ get_or all (length done) p ∷ []) seam
      ∙ ap (λ (x : Piece). done ++ x ∷ []) (sym is)))))
      ∙ (append_assoc done (p ∷ []) rest ∙ all_is),
)
  where
    all_is : done ++ p ∷ rest ≡ all
    all_is = ap (λ (ps : List Piece). done ++ ps) (sym next) ∙ split

    l : length done < length all
    l = let long = ap (λ (ps : List Piece). length ps) all_is in let both = length-append done (p ∷ rest) in omega (arith, long, both)

    is : p ≡ get_or all (length done) p
    is = sym (ap (λ (ps : List Piece). get_or ps (length done) p) (sym all_is) ∙ get_or_seam done rest)
      where
        get_or_seam : (xs ys : List Piece) → get_or (xs ++ p ∷ ys) (length xs) p ≡ p
        get_or_seam [] ys = refl
        get_or_seam (x ∷ xs) ys = get_or_seam xs ys

    seam : take (length done) all ≡ done
    seam = ap (take (length done)) (sym all_is) ∙ take-append_seam done (p ∷ rest)

    full : (piece_range (get_or all (length done) p)).low < (piece_range (get_or all (length done) p)).high
    full = (each_above piece_range 0 all (length done) p up l).1
