-- What leaves bytes of writable pieces alone different: writes that have no fault, and bytes that are put back.
use Rattle.std.proofs.Common.{◌≡◌, ℕ, suc, ◌+◌, ◌-◌, ◌<◌, ◌≤◌, Bool, true, false, not, cond, List, [], ◌∷◌, map}
use Rattle.std.proofs.Common.{length, get_or, Some, None, ◌⊎◌, inl, inr, IsTrue, refl, sym, ◌∙◌, ap, subst, arith}
use Rattle.std.specs.List.{All, filter, fold}
use Rattle.std.proofs.lemmas.List.Elements.{All-cons, All-head, All-tail}
use Rattle.ks_base.specs.declared.places.Range.{Range}
use Rattle.image_memory.specs.declared.types.Kind.{Kind}
use Rattle.image_memory.specs.declared.types.Kind.TheVariants.{Code, ReadOnly, Writable}
use Rattle.image_memory.specs.declared.types.Fence.{Fence}
use Rattle.image_memory.specs.declared.types.Piece.{Piece}
use Rattle.image_memory.specs.Ranges.{Ascends}
use Rattle.image_memory.specs.Contents.{Contents, IsValid, piece_range, shape_of, holding}
use Rattle.image_memory.specs.Access.{unwritable, write_fault, first_fault, written, after_write, overlaid_piece}
use Rattle.image_memory.specs.laws.RangeLaws.{found_here, within}
use Rattle.image_memory.specs.laws.AccessLaws.{good_at, length-overlaid, overlaid_outside}
use Rattle.image_threads.specs.Spawning.{is_writable, is_stack}
use Rattle.image_threads.specs.laws.StackLaws.{stack_written}
use Rattle.saved_data.specs.Saved.{unwritable_pieces, with_bytes, put_back, CanBePutBack, DiffersInData, OfShape}
use Rattle.saved_data.specs.Saved.{filtered}
use Rattle.saved_data.proofs.RestoreLaws.{ascend_alike, head_same, tail_same, rest_lie}

below_or_above : (m n : ℕ) → (m < n) ⊎ (n ≤ m)
below_or_above m n = grind arith

-- pieces have the same shapes after a write
shapes_written : (start : ℕ) (bytes : List ℕ) (ps : List Piece)
    → map shape_of (written start bytes ps) ≡ map shape_of ps
shapes_written start bytes [] = refl
shapes_written start bytes (p ∷ ps) =
    rw (length-overlaid start bytes p.base p.bytes, shapes_written start bytes ps) refl

-- a byte that can be written is in no other piece
fixed_fault : (kind : Kind) → is_writable kind ≡ false → unwritable (Some kind) ≡ None → ⊥
fixed_fault Code fixed none = absurd (cc)
fixed_fault ReadOnly fixed none = absurd (cc)
fixed_fault Writable fixed none = absurd (cc)

fixed_same : (contents : Contents) (start : ℕ) (bytes : List ℕ) → IsValid contents
    → first_fault (write_fault contents.pieces) start (length bytes) ≡ None → (i : ℕ) (d : Piece)
    → i < length contents.pieces → is_writable (get_or contents.pieces i d).kind ≡ false
    → overlaid_piece start bytes (get_or contents.pieces i d) ≡ get_or contents.pieces i d
fixed_same contents start bytes valid clear i d less fixed =
    ap (λ (xs : List ℕ). let q : Piece = record p { bytes = xs } in q)
    (overlaid_outside start bytes p.base p.bytes (λ k below. apart k below (below_or_above (p.base + k) start)
    (below_or_above (p.base + k) (start + length bytes))))
  where
    p : Piece
    p = get_or contents.pieces i d

    clash : (k : ℕ) → k < length p.bytes → start ≤ p.base + k → p.base + k < start + length bytes → ⊥
    clash k below low high =
        let a = p.base + k in
        let here : holding contents.pieces a ≡ Some p =
        found_here piece_range 0 contents.pieces a i d valid.placed.ascend less
        (within a (piece_range p) (omega arith) (omega arith)) in
        let at : start + (a - start) ≡ a = omega arith in
        let good : write_fault contents.pieces (start + (a - start)) ≡ None =
        good_at (write_fault contents.pieces) start (length bytes) (a - start) clear (omega arith) in
        let none : write_fault contents.pieces a ≡ None = rw at at good in
        let own : unwritable (Some p.kind) ≡ None = rw here at none in
        fixed_fault p.kind fixed own

    apart : (k : ℕ) → k < length p.bytes → (p.base + k < start) ⊎ (start ≤ p.base + k)
        → (p.base + k < start + length bytes) ⊎ (start + length bytes ≤ p.base + k)
        → (p.base + k < start) ⊎ (start + length bytes ≤ p.base + k)
    apart k below (inl low) high = inl low
    apart k below (inr low) (inl high) = absurd (clash k below low high)
    apart k below (inr low) (inr high) = inr high

fixed_written : (start : ℕ) (bytes : List ℕ) (ps : List Piece)
    → ((i : ℕ) (d : Piece) → i < length ps → is_writable (get_or ps i d).kind ≡ false
    → overlaid_piece start bytes (get_or ps i d) ≡ get_or ps i d)
    → unwritable_pieces (written start bytes ps) ≡ unwritable_pieces ps
fixed_written start bytes [] same = refl
fixed_written start bytes (p ∷ ps) same =
    by_kind (is_writable p.kind) refl
    (fixed_written start bytes ps (λ i d less fixed. same (suc i) d (omega arith) fixed))
  where
    by_kind : (w : Bool) → is_writable p.kind ≡ w → unwritable_pieces (written start bytes ps) ≡ unwritable_pieces ps
        → cond (not w) (overlaid_piece start bytes p ∷ unwritable_pieces (written start bytes ps))
        (unwritable_pieces (written start bytes ps)) ≡ cond (not w) (p ∷ unwritable_pieces ps) (unwritable_pieces ps)
    by_kind true is rest = rest
    by_kind false is rest =
        ap (λ (q : Piece). q ∷ unwritable_pieces (written start bytes ps)) (same 0 p (omega arith) is)
        ∙ ap (λ (qs : List Piece). p ∷ qs) rest

pub write_differs : (contents : Contents) (start : ℕ) (bytes : List ℕ) → IsValid contents
    → first_fault (write_fault contents.pieces) start (length bytes) ≡ None
    → DiffersInData contents (after_write contents start bytes)
write_differs contents start bytes valid clear = record {
  fences = refl;
  shapes = shapes_written start bytes contents.pieces;
  fixed = fixed_written start bytes contents.pieces (fixed_same contents start bytes valid clear);
}

-- ---- one after another
pub differs_on : (a b c : Contents) → DiffersInData a b → DiffersInData b c → DiffersInData a c
differs_on a b c first second = record {
  fences = second.fences ∙ first.fences;
  shapes = second.shapes ∙ first.shapes;
  fixed = second.fixed ∙ first.fixed;
}

ends_alike : (limit : ℕ) (xs ys : List Piece) → map shape_of xs ≡ map shape_of ys
    → All (λ (p : Piece). (piece_range p).high ≤ limit) ys → All (λ (p : Piece). (piece_range p).high ≤ limit) xs
ends_alike limit [] ys same low = λ i d l. absurd (omega arith)
ends_alike limit (x ∷ xs) [] same low = absurd (cc)
ends_alike limit (x ∷ xs) (y ∷ ys) same low =
    let P : Piece → Type 0 = λ p. (piece_range p).high ≤ limit in
    let highs : (piece_range x).high ≡ (piece_range y).high =
    ap (λ (s : Kind × Range). s.1.high) (head_same x y xs ys same) in
    let first : (piece_range y).high ≤ limit = All-head P y ys low in
    All-cons P x xs (omega (arith, highs, first))
    (ends_alike limit xs ys (tail_same x y xs ys same) (All-tail P y ys low))

pub differs_valid : (a b : Contents) → IsValid a → DiffersInData a b → IsValid b
differs_valid a b valid differs = record {
  placed = record {
    ascend = ascend_alike 0 b.pieces a.pieces differs.shapes valid.placed.ascend;
    end_below = ends_alike 0xFFFF_0000 b.pieces a.pieces differs.shapes valid.placed.end_below;
  };
  fenced = subst (λ (fs : List Fence). Ascends (λ (f : Fence). f.range) 0 fs) (sym differs.fences) valid.fenced;
}

-- bytes that are put back
put_differs : (saved : List Piece) (contents : Contents) → IsValid contents → CanBePutBack contents.pieces saved
    → DiffersInData contents (record contents { pieces = fold with_bytes contents.pieces saved })
put_differs [] contents valid fit = record { fences = refl; shapes = refl; fixed = refl }
put_differs (one ∷ saved) contents valid fit =
    let Q : Range → Type 0 = λ range. IsTrue (is_stack contents.pieces range) in
    let there = All-head Q (piece_range one) (map piece_range saved) fit in
    let first = write_differs contents one.base one.bytes valid
    (stack_written contents (piece_range one) (length one.bytes) valid there refl) in
    let after = after_write contents one.base one.bytes in
    differs_on contents after (record contents { pieces = fold with_bytes (with_bytes contents.pieces one) saved }) first
    (put_differs saved after (differs_valid contents after valid first)
    (rest_lie contents.pieces (one ∷ saved) saved one refl fit))

pub put_back_differs : (contents : Contents) (saved : List Piece) → IsValid contents
    → CanBePutBack contents.pieces saved → DiffersInData contents (put_back contents saved)
unfolding put_back
put_back_differs contents saved valid fit = put_differs saved contents valid fit

-- ---- pieces that are taken away by their shapes
filtered_shapes : (t : OfShape) (xs ys : List Piece) → map shape_of xs ≡ map shape_of ys
    → map shape_of (filter (λ (p : Piece). t (shape_of p)) xs) ≡ map shape_of (filter (λ (p : Piece). t (shape_of p)) ys)
filtered_shapes t [] [] same = refl
filtered_shapes t [] (y ∷ ys) same = absurd (cc)
filtered_shapes t (x ∷ xs) [] same = absurd (cc)
filtered_shapes t (x ∷ xs) (y ∷ ys) same =
    by_test (t (shape_of x)) (t (shape_of y)) (ap t head) (filtered_shapes t xs ys (tail_same x y xs ys same))
  where
    head : shape_of x ≡ shape_of y
    head = head_same x y xs ys same

    left : List Piece → List Piece
    left ps = filter (λ (p : Piece). t (shape_of p)) ps

    by_test : (b c : Bool) → b ≡ c → map shape_of (left xs) ≡ map shape_of (left ys)
        → map shape_of (cond b (x ∷ left xs) (left xs)) ≡ map shape_of (cond c (y ∷ left ys) (left ys))
    by_test true true equal rest =
        ap (λ (s : Kind × Range). s ∷ map shape_of (left xs)) head
        ∙ ap (λ (ss : List (Kind × Range)). shape_of y ∷ ss) rest
    by_test false false equal rest = rest
    by_test true false equal rest = absurd (cc)
    by_test false true equal rest = absurd (cc)

filters_turn : (p q : Piece → Bool) (xs : List Piece) → filter p (filter q xs) ≡ filter q (filter p xs)
filters_turn p q [] = refl
filters_turn p q (x ∷ xs) = by_tests (p x) (q x) refl refl (filters_turn p q xs)
  where
    by_tests : (a b : Bool) → p x ≡ a → q x ≡ b → filter p (filter q xs) ≡ filter q (filter p xs)
        → filter p (cond b (x ∷ filter q xs) (filter q xs)) ≡ filter q (cond a (x ∷ filter p xs) (filter p xs))
    by_tests true true first second rest = rw (first, second) (ap (λ (ys : List Piece). x ∷ ys) rest)
    by_tests true false first second rest = rw second rest
    by_tests false true first second rest = rw first rest
    by_tests false false first second rest = rest

pub differs_left : (t : OfShape) (a b : Contents) → DiffersInData a b → DiffersInData (filtered t a) (filtered t b)
differs_left t a b differs =
    let fixed : Piece → Bool = λ p. not (is_writable p.kind) in
    let kept : Piece → Bool = λ p. t (shape_of p) in
    record {
      fences = differs.fences;
      shapes = filtered_shapes t b.pieces a.pieces differs.shapes;
      fixed =
          filters_turn fixed kept b.pieces ∙ ap (filter kept) differs.fixed ∙ sym (filters_turn fixed kept a.pieces);
    }
