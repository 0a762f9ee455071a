-- What was saved is put back where the same pieces lie.
use Rattle.std.proofs.Common.{◌≡◌, ℕ, ◌+◌, ◌-◌, ◌≤◌, ◌<◌, inl, inr, true, false, ◌&&◌, cond}
use Rattle.std.proofs.Common.{List, [], ◌∷◌, length, drop, get_or, map, refl, sym, ◌∙◌, ap, arith, subst, IsTrue}
use Rattle.std.specs.List.{fold, All}
use Rattle.std.proofs.lemmas.List.{ext_get_or, drop_more}
use Rattle.std.proofs.lemmas.List.Elements.{All-nil, All-head, All-tail, All-cons, All-map, All-weaker}
use Rattle.std.proofs.lemmas.Option.{slice_get-get_or}
use Rattle.ks_base.specs.declared.places.Range.{Range}
use Rattle.image_memory.specs.declared.types.Kind.{Kind}
use Rattle.image_memory.specs.declared.types.Fence.{Fence}
use Rattle.image_memory.specs.declared.types.Piece.{Piece}
use Rattle.image_memory.specs.Ranges.{Ascends, are_same}
use Rattle.image_memory.specs.Contents.{Contents, IsValid, piece_range, shape_of}
use Rattle.image_memory.specs.Access.{written, overlaid, overlaid_piece}
use Rattle.image_memory.specs.laws.AccessLaws.{length-overlaid, get_or-overlaid, new_inside, piece_apart}
use Rattle.image_threads.specs.Spawning.{is_writable, is_stack}
use Rattle.saved_data.proofs.ReadLaws.{is_there, piece_is}
use Rattle.saved_data.specs.Saved.{writable_pieces, unwritable_pieces, with_bytes, put_back, CanBePutBack, DiffersInData}

-- as many bytes, written over all of them
all_new : (start : ℕ) (bytes xs : List ℕ) → length bytes ≡ length xs → overlaid start bytes start xs ≡ bytes
all_new start bytes xs same =
    ext_get_or 0 _ _ (length-overlaid start bytes start xs ∙ sym same) (λ k l.
    let m : k < length xs = rw (length-overlaid start bytes start xs) at l in
    let e : start + k - start ≡ k = omega arith in
    get_or-overlaid start bytes start xs k m
    ∙ new_inside start bytes (start + k) (get_or xs k 0) (omega arith) (omega (arith, same))
    ∙ ap (λ i. get_or bytes i 0) e)

pub head_same : (x y : Piece) (xs ys : List Piece) → map shape_of (x ∷ xs) ≡ map shape_of (y ∷ ys) → shape_of x ≡ shape_of y
head_same x y xs ys same = cc

pub tail_same : (x y : Piece) (xs ys : List Piece) → map shape_of (x ∷ xs) ≡ map shape_of (y ∷ ys)
    → map shape_of xs ≡ map shape_of ys
tail_same x y xs ys same = cc

-- a piece over one of its shape
over_same : (a b : Piece) → shape_of a ≡ shape_of b → overlaid_piece b.base b.bytes a ≡ b
over_same a b same =
    let kinds : a.kind ≡ b.kind = ap (λ (s : Kind × Range). s.0) same in
    let lows : a.base ≡ b.base = ap (λ (s : Kind × Range). s.1.low) same in
    let highs : a.base + length a.bytes ≡ b.base + length b.bytes = ap (λ (s : Kind × Range). s.1.high) same in
    piece_is a.kind b.kind a.base b.base (overlaid b.base b.bytes a.base a.bytes) b.bytes kinds lows
    (rw lows (all_new b.base b.bytes a.bytes (omega (arith, lows, highs))))

-- pieces that ascend from a floor aren't reached by what is written below it
written_below : (start : ℕ) (bytes : List ℕ) (floor : ℕ) (ps : List Piece) → Ascends piece_range floor ps
    → start + length bytes ≤ floor → written start bytes ps ≡ ps
written_below start bytes floor [] up le = refl
written_below start bytes floor (p ∷ ps) up le =
    let low = up.0 in
    let full = up.1 in
    rw (
      piece_apart start bytes p (inr (omega arith)),
      written_below start bytes (piece_range p).high ps up.2 (omega arith),
    ) refl

-- a piece below all that is put back stays
head_stays : (p : Piece) (ps saved : List Piece) → All (λ (s : Piece). (piece_range p).high ≤ s.base) saved
    → fold with_bytes (p ∷ ps) saved ≡ p ∷ fold with_bytes ps saved
head_stays p ps [] above = refl
head_stays p ps (s ∷ saved) above =
    rw (piece_apart s.base s.bytes p
    (inl (All-head (λ (s : Piece). (piece_range p).high ≤ s.base) s saved above)))
    (head_stays p (written s.base s.bytes ps) saved
    (All-tail (λ (s : Piece). (piece_range p).high ≤ s.base) s saved above))

-- writable pieces that ascend from a floor begin there or above
writable_above : (floor : ℕ) (ps : List Piece) → Ascends piece_range floor ps
    → All (λ (s : Piece). floor ≤ s.base) (writable_pieces ps)
writable_above floor [] up = All-nil (λ (s : Piece). floor ≤ s.base)
writable_above floor (p ∷ ps) up =
    let low = up.0 in
    let full = up.1 in
    let rest : All (λ (s : Piece). floor ≤ s.base) (writable_pieces ps) =
    All-weaker (λ (s : Piece). (piece_range p).high ≤ s.base) (λ (s : Piece). floor ≤ s.base) (λ s le. omega arith)
    (writable_pieces ps) (writable_above (piece_range p).high ps up.2) in
    elim (is_writable p.kind)
    as (λ w. All (λ (s : Piece). floor ≤ s.base) (cond w (p ∷ writable_pieces ps) (writable_pieces ps))) [
      | true ↦ All-cons (λ (s : Piece). floor ≤ s.base) p (writable_pieces ps) up.0 rest
      | false ↦ rest
    ]

-- pieces of the same shapes ascend as well
pub ascend_alike : (floor : ℕ) (xs ys : List Piece) → map shape_of xs ≡ map shape_of ys → Ascends piece_range floor ys
    → Ascends piece_range floor xs
ascend_alike floor [] ys same up = tt
ascend_alike floor (x ∷ xs) [] same up = cc
ascend_alike floor (x ∷ xs) (y ∷ ys) same up =
    let head = head_same x y xs ys same in
    let lows : x.base ≡ y.base = ap (λ (s : Kind × Range). s.1.low) head in
    let highs : (piece_range x).high ≡ (piece_range y).high = ap (λ (s : Kind × Range). s.1.high) head in
    let low = up.0 in
    let full = up.1 in (
      omega (arith, lows),
      omega (arith, lows, highs),
      subst (λ (h : ℕ). Ascends piece_range h xs) (sym highs)
          (ascend_alike (piece_range y).high xs ys (tail_same x y xs ys same) up.2),
    )

-- what was saved of pieces, put back over others of their shapes whose bytes are the same where they aren't writable
restored : (floor : ℕ) (xs ys : List Piece) → map shape_of xs ≡ map shape_of ys
    → unwritable_pieces xs ≡ unwritable_pieces ys → Ascends piece_range floor ys
    → fold with_bytes xs (writable_pieces ys) ≡ ys
restored floor [] [] same fixed up = refl
restored floor [] (y ∷ ys) same fixed up = cc
restored floor (x ∷ xs) [] same fixed up = cc
restored floor (x ∷ xs) (y ∷ ys) same fixed up =
    let head = head_same x y xs ys same in
    let tail = tail_same x y xs ys same in
    let kinds : is_writable x.kind ≡ is_writable y.kind = ap (λ (s : Kind × Range). is_writable s.0) head in
    let above = writable_above (piece_range y).high ys up.2 in
    elim (is_writable y.kind)
    as (λ w. is_writable y.kind ≡ w
    → fold with_bytes (x ∷ xs) (cond w (y ∷ writable_pieces ys) (writable_pieces ys)) ≡ y ∷ ys) [
      | true ↦ λ is.
          let rest : unwritable_pieces xs ≡ unwritable_pieces ys = rw (kinds, is) at fixed in
          ap (λ (p : Piece). fold with_bytes (p ∷ written y.base y.bytes xs) (writable_pieces ys)) (over_same x y head)
          ∙ ap (λ (ps : List Piece). fold with_bytes (y ∷ ps) (writable_pieces ys))
          (written_below y.base y.bytes (piece_range y).high xs
          (ascend_alike (piece_range y).high xs ys tail up.2) (omega arith))
          ∙ head_stays y xs (writable_pieces ys) above
          ∙ ap (λ (ps : List Piece). y ∷ ps) (restored (piece_range y).high xs ys tail rest up.2)
      | false ↦ λ is.
          let all : x ∷ unwritable_pieces xs ≡ y ∷ unwritable_pieces ys = rw (kinds, is) at fixed in
          let first : x ≡ y = cc in
          let rest : unwritable_pieces xs ≡ unwritable_pieces ys = cc in
          ap (λ (p : Piece). fold with_bytes (p ∷ xs) (writable_pieces ys)) first
          ∙ head_stays y xs (writable_pieces ys) above
          ∙ ap (λ (ps : List Piece). y ∷ ps) (restored (piece_range y).high xs ys tail rest up.2)
    ] refl

-- what was saved lies where the pieces of the other memory do
stack_alike : (xs ys : List Piece) (range : Range) → map shape_of xs ≡ map shape_of ys
    → is_stack xs range ≡ is_stack ys range
stack_alike [] [] range same = refl
stack_alike [] (y ∷ ys) range same = cc
stack_alike (x ∷ xs) [] range same = cc
stack_alike (x ∷ xs) (y ∷ ys) range same =
    let head = head_same x y xs ys same in
    let here : is_writable x.kind && are_same (piece_range x) range ≡ is_writable y.kind && are_same (piece_range y) range =
    ap (λ (s : Kind × Range). is_writable s.0 && are_same s.1 range) head in
    rw (here, stack_alike xs ys range (tail_same x y xs ys same)) refl

writable_have : (P : Piece → Type 0) (ps : List Piece) → All (λ (p : Piece). is_writable p.kind ≡ true → P p) ps
    → All P (writable_pieces ps)
writable_have P [] have = All-nil P
writable_have P (p ∷ ps) have =
    let rest = writable_have P ps (All-tail (λ (q : Piece). is_writable q.kind ≡ true → P q) p ps have) in
    elim (is_writable p.kind)
    as (λ w. is_writable p.kind ≡ w → All P (cond w (p ∷ writable_pieces ps) (writable_pieces ps))) [
      | true ↦ λ is.
          All-cons P p (writable_pieces ps) (All-head (λ (q : Piece). is_writable q.kind ≡ true → P q) p ps have is) rest
      | false ↦ λ is. rest
    ] refl

lie_alike : (xs ys : List Piece) → map shape_of xs ≡ map shape_of ys → CanBePutBack xs (writable_pieces ys)
lie_alike xs ys same =
    All-map (λ (range : Range). IsTrue (is_stack xs range)) piece_range (writable_pieces ys)
    (writable_have (λ (p : Piece). IsTrue (is_stack xs (piece_range p))) ys (λ k d l writable.
    stack_alike xs ys (piece_range (get_or ys k d)) same
    ∙ is_there ys k (get_or ys k d) (slice_get-get_or ys k d l) writable))

pub saved_fit : (before after : Contents) → IsValid before → DiffersInData before after
    → CanBePutBack after.pieces (writable_pieces before.pieces)
saved_fit before after valid differs = lie_alike after.pieces before.pieces differs.shapes

pub saved_same : (before after : Contents) → IsValid before → DiffersInData before after
    → put_back after (writable_pieces before.pieces) ≡ before
unfolding put_back
saved_same before after valid differs =
    rw (restored 0 after.pieces before.pieces differs.shapes differs.fixed valid.placed.ascend, differs.fences) refl

still_stack : (start : ℕ) (bytes : List ℕ) (pieces : List Piece) (range : Range)
    → is_stack (written start bytes pieces) range ≡ is_stack pieces range
still_stack start bytes [] range = refl
still_stack start bytes (p ∷ ps) range =
    rw (length-overlaid start bytes p.base p.bytes, still_stack start bytes ps range) refl

-- what is left from a place on: the piece there, and then the rest
pub next_left : (saved items : List Piece) (i : ℕ) (p : Piece) → items ≡ saved → i < length items → p ≡ get_or items i p
    → drop i saved ≡ p ∷ drop (i + 1) saved
next_left saved items i p same lt is =
    let lt : i < length saved = rw same at lt in
    let is : p ≡ get_or saved i p = rw same at is in
    drop_more saved i p lt ∙ ap (λ (q : Piece). q ∷ drop (i + 1) saved) (sym is)

-- what is left to be put back, once the first of it was written
pub next_folded : (pieces saved rest : List Piece) (p : Piece) → saved ≡ p ∷ rest
    → fold with_bytes (with_bytes pieces p) rest ≡ fold with_bytes pieces saved
next_folded pieces saved rest p e = rw e refl

pub next_lies : (pieces saved rest : List Piece) (p : Piece) → saved ≡ p ∷ rest → CanBePutBack pieces saved
    → is_stack pieces (piece_range p) ≡ true
next_lies pieces saved rest p e lie =
    let lies = rw e at lie in
    All-head (λ (range : Range). IsTrue (is_stack pieces range)) (piece_range p) (map piece_range rest) lies

pub rest_lie : (pieces saved rest : List Piece) (p : Piece) → saved ≡ p ∷ rest → CanBePutBack pieces saved
    → CanBePutBack (with_bytes pieces p) rest
rest_lie pieces saved rest p e lie =
    let lies = rw e at lie in
    All-weaker (λ (range : Range). IsTrue (is_stack pieces range))
    (λ (range : Range). IsTrue (is_stack (with_bytes pieces p) range))
    (λ range there. still_stack p.base p.bytes pieces range ∙ there) (map piece_range rest)
    (All-tail (λ (range : Range). IsTrue (is_stack pieces range)) (piece_range p) (map piece_range rest) lies)

pub contents_are : (contents : Contents) (pieces : List Piece) (fences : List Fence)
    → contents.pieces ≡ pieces → contents.fences ≡ fences → contents ≡ record { pieces = pieces; fences = fences }
contents_are contents pieces fences same_pieces same_fences = rw (← same_pieces, ← same_fences) refl
